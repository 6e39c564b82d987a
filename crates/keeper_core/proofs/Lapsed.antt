-- The keys of lapsed rows in a list in order, by an entry in its middle.
use Rattle.std.proofs.Common.{◌≡◌, ℕ, ◌<◌, ◌≤◌, ◌^◌, true, false, cond, not, List, [], ◌∷◌, ◌++◌, map, Option, Some, None, refl, ap, ◌∙◌, subst, arith}
use Rattle.std.specs.Prelude.{slice_get, ◌≢◌}
use Rattle.std.specs.List.{filter}
use Rattle.std.specs.Ordering.{is_lt}
use Rattle.std.specs.declared.cmp.Ordering.{Ordering}
use Rattle.std.specs.declared.cmp.Ordering.TheVariants.{Less, Equal, Greater}
use Rattle.std.specs.FinMap.{is_sorted}
use Rattle.std.proofs.lemmas.Bool.Decides.{nat_tests}
use Rattle.std.proofs.lemmas.List.{map-append}
use Rattle.std.proofs.lemmas.List.Elements.{filter-append}
use Rattle.keeper_core.specs.Rows.{lapsed_in, Entry, byte_order, is_live, is_behind}
use Rattle.keeper_core.specs.Tree.{last_moment, least_of}
use Rattle.keeper_core.proofs.Sorted.{Key, Compares, around, above_each, under_each, tied_each}

-- a row is live exactly up to its last moment
live_until : (moment until : ℕ) (value : List ℕ) (version : ℕ) → moment < 2 ^ 64 → moment ≤ last_moment until → is_live moment (record { value = value; version = version; until = until }) ≡ true
live_until moment until value version fits h = grind (arith, nat_tests)

lapsed_behind : (moment until : ℕ) (value : List ℕ) (version : ℕ) → moment < 2 ^ 64 → last_moment until < moment → is_live moment (record { value = value; version = version; until = until }) ≡ false
lapsed_behind moment until value version fits h = grind (arith, nat_tests)

-- with one more in front
pub lapsed_cons : (moment : ℕ) (x : Entry) (xs : List Entry) → lapsed_in moment (x ∷ xs) ≡ cond (is_live moment x.1) (lapsed_in moment xs) (x.0 ∷ lapsed_in moment xs)
lapsed_cons moment x xs = elim (is_live moment x.1) as (λ b. map (λ entry. entry.0) (cond (not b) (x ∷ filter (λ entry. not (is_live moment entry.1)) xs) (filter (λ entry. not (is_live moment entry.1)) xs)) ≡ cond b (lapsed_in moment xs) (x.0 ∷ lapsed_in moment xs)) [ true ↦ refl | false ↦ refl ]

-- none of these rows has lapsed up to the least of their last moments
lapsed_none : (moment : ℕ) (xs : List Entry) → moment < 2 ^ 64 → moment ≤ least_of xs → lapsed_in moment xs ≡ []
lapsed_none moment [] fits h = refl
lapsed_none moment (x ∷ xs) fits h =
    lapsed_cons moment x xs ∙ ap (λ b. cond b (lapsed_in moment xs) (x.0 ∷ lapsed_in moment xs)) (live_until moment x.1.until x.1.value x.1.version fits (omega arith))
    ∙ lapsed_none moment xs fits (omega arith)

lapsed-append : (moment : ℕ) (xs ys : List Entry) → lapsed_in moment (xs ++ ys) ≡ lapsed_in moment xs ++ lapsed_in moment ys
lapsed-append moment xs ys =
    ap (map (λ entry. entry.0)) (filter-append (λ entry. not (is_live moment entry.1)) xs ys)
    ∙ map-append (λ entry. entry.0) (filter (λ entry. not (is_live moment entry.1)) xs) (filter (λ entry. not (is_live moment entry.1)) ys)

lapsed_here : (moment : ℕ) (x : Entry) (xs : List Entry) → moment < 2 ^ 64 → last_moment x.1.until < moment → lapsed_in moment (x ∷ xs) ≡ x.0 ∷ lapsed_in moment xs
lapsed_here moment x xs fits h =
    lapsed_cons moment x xs ∙ ap (λ b. cond b (lapsed_in moment xs) (x.0 ∷ lapsed_in moment xs)) (lapsed_behind moment x.1.until x.1.value x.1.version fits h)

lapsed_later : (moment : ℕ) (x : Entry) (xs : List Entry) → moment < 2 ^ 64 → moment ≤ last_moment x.1.until → lapsed_in moment (x ∷ xs) ≡ lapsed_in moment xs
lapsed_later moment x xs fits h =
    lapsed_cons moment x xs ∙ ap (λ b. cond b (lapsed_in moment xs) (x.0 ∷ lapsed_in moment xs)) (live_until moment x.1.until x.1.value x.1.version fits h)

-- the first of two lists of keys
first_found : (xs ys : List Key) (key : Key) → slice_get xs 0 ≡ Some key → slice_get (xs ++ ys) 0 ≡ Some key
first_found [] ys key e = absurd (cc)
first_found (x ∷ xs) ys key e = e

first_missing : (xs ys : List Key) → slice_get xs 0 ≡ None → slice_get (xs ++ ys) 0 ≡ slice_get ys 0
first_missing [] ys e = refl
first_missing (x ∷ xs) ys e = absurd (cc)

-- the first lapsed key of a node

pub first_none : (moment : ℕ) (d : List Entry) → moment < 2 ^ 64 → moment ≤ least_of d → slice_get (lapsed_in moment d) 0 ≡ None
first_none moment d fits h = ap (λ keys. slice_get keys 0) (lapsed_none moment d fits h)

pub first_left : (moment : ℕ) (d l : List Entry) (x : Entry) (r : List Entry) (key : Key) → d ≡ l ++ x ∷ r → slice_get (lapsed_in moment l) 0 ≡ Some key → slice_get (lapsed_in moment d) 0 ≡ Some key
first_left moment d l x r key is e =
    ap (λ es. slice_get (lapsed_in moment es) 0) is ∙ ap (λ keys. slice_get keys 0) (lapsed-append moment l (x ∷ r)) ∙ first_found _ _ key e

pub first_here : (moment : ℕ) (d l : List Entry) (x : Entry) (r : List Entry) → d ≡ l ++ x ∷ r → moment < 2 ^ 64 → slice_get (lapsed_in moment l) 0 ≡ None → last_moment x.1.until < moment → slice_get (lapsed_in moment d) 0 ≡ Some x.0
first_here moment d l x r is fits e h =
    ap (λ es. slice_get (lapsed_in moment es) 0) is ∙ ap (λ keys. slice_get keys 0) (lapsed-append moment l (x ∷ r)) ∙ first_missing _ _ e
    ∙ ap (λ keys. slice_get keys 0) (lapsed_here moment x r fits h)

pub first_right : (moment : ℕ) (d l : List Entry) (x : Entry) (r : List Entry) → d ≡ l ++ x ∷ r → moment < 2 ^ 64 → slice_get (lapsed_in moment l) 0 ≡ None → moment ≤ last_moment x.1.until → slice_get (lapsed_in moment d) 0 ≡ slice_get (lapsed_in moment r) 0
first_right moment d l x r is fits e h =
    ap (λ es. slice_get (lapsed_in moment es) 0) is ∙ ap (λ keys. slice_get keys 0) (lapsed-append moment l (x ∷ r)) ∙ first_missing _ _ e
    ∙ ap (λ keys. slice_get keys 0) (lapsed_later moment x r fits h)

-- the first lapsed key of a node behind another

behind_later : (after : Key) (xs : List Entry) → (o : Ordering) → is_lt o ≡ false → (moment : ℕ) → Compares o after xs → filter (is_behind (Some after)) (lapsed_in moment xs) ≡ []
behind_later after [] o ne moment a = refl
behind_later after (x ∷ xs) o ne moment a =
    elim (is_live moment x.1) as (λ b. filter (is_behind (Some after)) (map (λ entry. entry.0) (cond (not b) (x ∷ filter (λ entry. not (is_live moment entry.1)) xs) (filter (λ entry. not (is_live moment entry.1)) xs))) ≡ []) [
      | true ↦ behind_later after xs o ne moment a.1
      | false ↦ ap (λ b. cond b (x.0 ∷ filter (is_behind (Some after)) (lapsed_in moment xs)) (filter (is_behind (Some after)) (lapsed_in moment xs))) (ap is_lt a.0 ∙ ne) ∙ behind_later after xs o ne moment a.1
    ]

behind_each : (after : Key) (xs : List Entry) (moment : ℕ) → Compares Less after xs → filter (is_behind (Some after)) (lapsed_in moment xs) ≡ lapsed_in moment xs
behind_each after [] moment a = refl
behind_each after (x ∷ xs) moment a =
    elim (is_live moment x.1) as (λ b. filter (is_behind (Some after)) (map (λ entry. entry.0) (cond (not b) (x ∷ filter (λ entry. not (is_live moment entry.1)) xs) (filter (λ entry. not (is_live moment entry.1)) xs))) ≡ map (λ entry. entry.0) (cond (not b) (x ∷ filter (λ entry. not (is_live moment entry.1)) xs) (filter (λ entry. not (is_live moment entry.1)) xs))) [
      | true ↦ behind_each after xs moment a.1
      | false ↦ ap (λ b. cond b (x.0 ∷ filter (is_behind (Some after)) (lapsed_in moment xs)) (filter (is_behind (Some after)) (lapsed_in moment xs))) (ap is_lt a.0) ∙ ap (λ keys. x.0 ∷ keys) (behind_each after xs moment a.1)
    ]

behind-append : (after : Key) (moment : ℕ) (xs ys : List Entry) → filter (is_behind (Some after)) (lapsed_in moment (xs ++ ys)) ≡ filter (is_behind (Some after)) (lapsed_in moment xs) ++ filter (is_behind (Some after)) (lapsed_in moment ys)
behind-append after moment xs ys = ap (filter (is_behind (Some after))) (lapsed-append moment xs ys) ∙ filter-append (is_behind (Some after)) (lapsed_in moment xs) (lapsed_in moment ys)

-- what `next_lapsed` answers
abbrev pub next_in : Key → ℕ → List Entry → Option Key
next_in after moment es = slice_get (filter (is_behind (Some after)) (lapsed_in moment es)) 0

pub next_none : (after : Key) (moment : ℕ) (d : List Entry) → moment < 2 ^ 64 → moment ≤ least_of d → next_in after moment d ≡ None
next_none after moment d fits h = ap (λ keys. slice_get (filter (is_behind (Some after)) keys) 0) (lapsed_none moment d fits h)

abbrev next_around : Key → ℕ → List Entry → Entry → List Entry → Option Key
next_around after moment l x r = slice_get (filter (is_behind (Some after)) (lapsed_in moment l) ++ filter (is_behind (Some after)) (lapsed_in moment (x ∷ r))) 0

past_both : (after : Key) (moment : ℕ) (l : List Entry) (x : Entry) (r : List Entry) (o : Ordering) → is_lt o ≡ false → (p : Ordering) → is_lt p ≡ false → byte_order after x.0 ≡ o → Compares p after l → next_around after moment l x r ≡ next_in after moment r
past_both after moment l x r o here p before e a =
    ap (λ front. slice_get (front ++ filter (is_behind (Some after)) (lapsed_in moment (x ∷ r))) 0) (behind_later after l p before moment a)
    ∙ ap (λ keys. slice_get keys 0) (behind-append after moment (x ∷ []) r)
    ∙ ap (λ front. slice_get (front ++ filter (is_behind (Some after)) (lapsed_in moment r)) 0) (behind_later after (x ∷ []) o here moment (e, tt))

-- where the node's key does not stand behind it
pub next_past : (after : Key) (moment : ℕ) (d l : List Entry) (x : Entry) (r : List Entry) → d ≡ l ++ x ∷ r → is_sorted byte_order d ≡ true → byte_order after x.0 ≢ Less → next_in after moment d ≡ next_in after moment r
next_past after moment d l x r is sorted ne =
    let order = around l x r (subst (λ es. is_sorted byte_order es ≡ true) is sorted) in
    ap (next_in after moment) is ∙ ap (λ keys. slice_get keys 0) (behind-append after moment l (x ∷ r)) ∙ elim (byte_order after x.0) as (λ o. byte_order after x.0 ≡ o → next_around after moment l x r ≡ next_in after moment r) [
      | Less ↦ λ e. absurd (ne e)
      | Equal ↦ λ e. past_both after moment l x r Equal refl Greater refl e (tied_each Greater after x.0 l e order.before)
      | Greater ↦ λ e. past_both after moment l x r Greater refl Greater refl e (above_each after x.0 l e order.before)
    ] refl

pub next_left : (after : Key) (moment : ℕ) (d l : List Entry) (x : Entry) (r : List Entry) (key : Key) → d ≡ l ++ x ∷ r → next_in after moment l ≡ Some key → next_in after moment d ≡ Some key
next_left after moment d l x r key is e = ap (next_in after moment) is ∙ ap (λ keys. slice_get keys 0) (behind-append after moment l (x ∷ r)) ∙ first_found _ _ key e

next_missing : (after : Key) (moment : ℕ) (d l : List Entry) (x : Entry) (r : List Entry) → d ≡ l ++ x ∷ r → is_sorted byte_order d ≡ true → byte_order after x.0 ≡ Less → next_in after moment l ≡ None → next_in after moment d ≡ slice_get (lapsed_in moment (x ∷ r)) 0
next_missing after moment d l x r is sorted less e =
    let order = around l x r (subst (λ es. is_sorted byte_order es ≡ true) is sorted) in
    ap (next_in after moment) is ∙ ap (λ keys. slice_get keys 0) (behind-append after moment l (x ∷ r)) ∙ first_missing _ _ e
    ∙ ap (λ keys. slice_get keys 0) (behind_each after (x ∷ r) moment (less, under_each after x.0 r less order.behind))

pub next_here : (after : Key) (moment : ℕ) (d l : List Entry) (x : Entry) (r : List Entry) → d ≡ l ++ x ∷ r → is_sorted byte_order d ≡ true → moment < 2 ^ 64 → byte_order after x.0 ≡ Less → next_in after moment l ≡ None → last_moment x.1.until < moment → next_in after moment d ≡ Some x.0
next_here after moment d l x r is sorted fits less e h = next_missing after moment d l x r is sorted less e ∙ ap (λ keys. slice_get keys 0) (lapsed_here moment x r fits h)

pub next_right : (after : Key) (moment : ℕ) (d l : List Entry) (x : Entry) (r : List Entry) → d ≡ l ++ x ∷ r → is_sorted byte_order d ≡ true → moment < 2 ^ 64 → byte_order after x.0 ≡ Less → next_in after moment l ≡ None → moment ≤ last_moment x.1.until → next_in after moment d ≡ slice_get (lapsed_in moment r) 0
next_right after moment d l x r is sorted fits less e h = next_missing after moment d l x r is sorted less e ∙ ap (λ keys. slice_get keys 0) (lapsed_later moment x r fits h)
