-- What stands at a message and a subscription, after changes to a book.
use Rattle.std.proofs.Common.{◌≡◌, ◌+◌, ℕ, Bool, true, false, cond, List, [], ◌∷◌, ◌++◌, map, Option, Some, None, refl, sym, ap, subst, ◌∙◌, arith}
use Rattle.std.specs.Prelude.{◌==◌, option_map}
use Rattle.std.specs.List.{sum_by}
use Rattle.std.proofs.lemmas.Bool.{and_parts, eqb-true, eq-eqb, and_from, and_left, and_right, ne_eqb, false≢true, both_ways}
use Rattle.std.proofs.lemmas.Option.{none-some, same_Some}
use Rattle.std.proofs.lemmas.List.Sums.{sum_by-cons}
use Rattle.ledger_core.specs.declared.plan.Aim.{Aim}
use Rattle.ledger_core.specs.Message.{Pair, is_pair}
use Rattle.ledger_core.specs.Standing.{Standing}
use Rattle.ledger_core.specs.Course.{standing_at}
use Rattle.ledger_core.proofs.Once.{has_sub, AreOnce}
use Rattle.ledger_core.specs.After.{AreDistinct, fresh, fresh_one}

pub is_pair_parts : (m sub : ℕ) (p : Pair) → is_pair m sub p ≡ true → (p.no ≡ m) × (p.sub ≡ sub)
is_pair_parts m sub p e = let parts = and_parts _ _ e in (eqb-true p.no m parts.0, eqb-true p.sub sub parts.1)

pub is_pair_itself : (p : Pair) → is_pair p.no p.sub p ≡ true
is_pair_itself p = and_from _ _ (eq-eqb p.no p.no refl) (eq-eqb p.sub p.sub refl)

pub is_pair_other : (m sub k j : ℕ) (p : Pair) → is_pair m sub p ≡ true → (m ≡ k → sub ≡ j → ⊥) → is_pair k j p ≡ false
is_pair_other m sub k j p e apart =
    let parts = is_pair_parts m sub p e in
    elim (is_pair k j p) as (λ b. is_pair k j p ≡ b → b ≡ false) [
      | true ↦ λ t. let others = is_pair_parts k j p t in absurd (apart (sym parts.0 ∙ others.0) (sym parts.1 ∙ others.1))
      | false ↦ λ t. refl
    ] refl

pub standing_at_key : (m sub : ℕ) (s : Standing) (book : List Standing) → standing_at m sub book ≡ Some s → is_pair m sub s.pair ≡ true
standing_at_key m sub s [] e = absurd (none-some s e)
standing_at_key m sub s (x ∷ xs) e =
    elim (is_pair m sub x.pair) as (λ b. is_pair m sub x.pair ≡ b → cond b (Some x) (standing_at m sub xs) ≡ Some s → is_pair m sub s.pair ≡ true) [
      | true ↦ λ t f. subst (λ (y : Standing). is_pair m sub y.pair ≡ true) (same_Some x s f) t
      | false ↦ λ t f. standing_at_key m sub s xs f
    ] refl e

pub standing_at_its : (m sub : ℕ) (s : Standing) (book : List Standing) → standing_at m sub book ≡ Some s → (s.pair.no ≡ m) × (s.pair.sub ≡ sub)
standing_at_its m sub s book e = is_pair_parts m sub s.pair (standing_at_key m sub s book e)

-- under its own message and subscription
pub standing_at_own : (m sub : ℕ) (s : Standing) (book : List Standing) → standing_at m sub book ≡ Some s → standing_at s.pair.no s.pair.sub book ≡ Some s
standing_at_own m sub s book e =
    let its = standing_at_its m sub s book e in
    ap (λ n. standing_at n s.pair.sub book) its.0 ∙ ap (λ n. standing_at m n book) its.1 ∙ e

cond-map : (f : Standing → Standing) (b : Bool) (s : Standing) (o : Option Standing) → cond b (Some (f s)) (option_map f o) ≡ option_map f (cond b (Some s) o)
cond-map f true s o = refl
cond-map f false s o = refl

-- a change of standings that leaves the pairs
pub standing_at-map : (f : Standing → Standing) → ((s : Standing) → (f s).pair ≡ s.pair) → (m sub : ℕ) (book : List Standing) → standing_at m sub (map f book) ≡ option_map f (standing_at m sub book)
standing_at-map f pairs m sub [] = refl
standing_at-map f pairs m sub (x ∷ xs) =
    ap (λ p. cond (is_pair m sub p) (Some (f x)) (standing_at m sub (map f xs))) (pairs x)
    ∙ ap (cond (is_pair m sub x.pair) (Some (f x))) (standing_at-map f pairs m sub xs)
    ∙ cond-map f (is_pair m sub x.pair) x (standing_at m sub xs)

abbrev pub or_else : Option Standing → Option Standing → Option Standing
or_else None other = other
or_else (Some s) other = Some s

cond-or_else : (b : Bool) (s : Standing) (o other : Option Standing) → cond b (Some s) (or_else o other) ≡ or_else (cond b (Some s) o) other
cond-or_else true s o other = refl
cond-or_else false s o other = refl

pub standing_at-append : (m sub : ℕ) (xs ys : List Standing) → standing_at m sub (xs ++ ys) ≡ or_else (standing_at m sub xs) (standing_at m sub ys)
standing_at-append m sub [] ys = refl
standing_at-append m sub (x ∷ xs) ys =
    ap (cond (is_pair m sub x.pair) (Some x)) (standing_at-append m sub xs ys)
    ∙ cond-or_else (is_pair m sub x.pair) x (standing_at m sub xs) (standing_at m sub ys)

-- only the standing of one pair is changed
pub record MovesOnly (f : Standing → Standing) (k j : ℕ) : Type 0 where
  pub pairs : (s : Standing) → (f s).pair ≡ s.pair
  pub others : (s : Standing) → is_pair k j s.pair ≡ false → f s ≡ s

-- in a book the first of which is of another pair
not_first : (k j : ℕ) (x : Standing) (xs : List Standing) → standing_at k j (x ∷ xs) ≡ None → (is_pair k j x.pair ≡ false) × (standing_at k j xs ≡ None)
not_first k j x xs e =
    elim (is_pair k j x.pair) as (λ b. cond b (Some x) (standing_at k j xs) ≡ None → (b ≡ false) × (standing_at k j xs ≡ None)) [
      | true ↦ λ f. absurd (none-some x (sym f))
      | false ↦ λ f. (refl, f)
    ] e

pub moved_none : (f : Standing → Standing) (k j : ℕ) → MovesOnly f k j → (book : List Standing) → standing_at k j book ≡ None → map f book ≡ book
moved_none f k j only [] e = refl
moved_none f k j only (x ∷ xs) e =
    let first = not_first k j x xs e in
    ap (λ y. y ∷ map f xs) (only.others x first.0) ∙ ap (λ ys. x ∷ ys) (moved_none f k j only xs first.1)

-- a sum changes by what the one standing changes
pub sum_moved : (g : Standing → ℕ) (f : Standing → Standing) (k j : ℕ) → MovesOnly f k j → (book : List Standing) → AreDistinct book → (s : Standing) → standing_at k j book ≡ Some s → sum_by g (map f book) + g s ≡ sum_by g book + g (f s)
sum_moved g f k j only [] distinct s e = absurd (none-some s e)
sum_moved g f k j only (x ∷ xs) distinct s e =
    elim (is_pair k j x.pair) as (λ b. is_pair k j x.pair ≡ b → cond b (Some x) (standing_at k j xs) ≡ Some s → sum_by g (map f (x ∷ xs)) + g s ≡ sum_by g (x ∷ xs) + g (f s)) [
      | true ↦ λ t is.
          let same = same_Some x s is in
          let its = is_pair_parts k j x.pair t in
          let none = subst (λ n. standing_at k n xs ≡ None) its.1 (subst (λ n. standing_at n x.pair.sub xs ≡ None) its.0 distinct.0) in
          let rest = moved_none f k j only xs none in
          omega (arith, sum_by-cons g (f x) (map f xs), sum_by-cons g x xs, ap (sum_by g) rest, ap g same, ap (λ y. g (f y)) same)
      | false ↦ λ t is.
          omega (arith, sum_by-cons g (f x) (map f xs), sum_by-cons g x xs, ap g (only.others x t), sum_moved g f k j only xs distinct.1 s is)
    ] refl e

pub distinct-map : (f : Standing → Standing) → ((s : Standing) → (f s).pair ≡ s.pair) → (book : List Standing) → AreDistinct book → AreDistinct (map f book)
distinct-map f pairs [] d = tt
distinct-map f pairs (x ∷ xs) d = (
  ap (λ (p : Pair). standing_at p.no p.sub (map f xs)) (pairs x) ∙ standing_at-map f pairs x.pair.no x.pair.sub xs ∙ ap (option_map f) d.0,
  distinct-map f pairs xs d.1,
)

own_first : (x : Standing) (xs : List Standing) → standing_at x.pair.no x.pair.sub (x ∷ xs) ≡ Some x
own_first x xs = ap (λ b. cond b (Some x) (standing_at x.pair.no x.pair.sub xs)) (is_pair_itself x.pair)

pub distinct-append : (xs ys : List Standing) → AreDistinct xs → AreDistinct ys → ((m sub : ℕ) (s : Standing) → standing_at m sub xs ≡ Some s → standing_at m sub ys ≡ None) → AreDistinct (xs ++ ys)
distinct-append [] ys d e apart = e
distinct-append (x ∷ xs) ys d e apart = (
  standing_at-append x.pair.no x.pair.sub xs ys ∙ ap (λ o. or_else o (standing_at x.pair.no x.pair.sub ys)) d.0 ∙ apart x.pair.no x.pair.sub x (own_first x xs),
  distinct-append xs ys d.1 e (λ m sub s is.
      elim (is_pair m sub x.pair) as (λ b. is_pair m sub x.pair ≡ b → standing_at m sub ys ≡ None) [
        | true ↦ λ t. apart m sub x (ap (λ b. cond b (Some x) (standing_at m sub xs)) t)
        | false ↦ λ t. apart m sub s (ap (λ b. cond b (Some x) (standing_at m sub xs)) t ∙ is)
      ] refl),
)

-- ---- the pairs of a new message

pub fresh_elsewhere : (n : ℕ) (event : List ℕ) (hops now : ℕ) (aims : List Aim) (m sub : ℕ) → (n ≡ m → ⊥) → standing_at m sub (fresh n event hops now aims) ≡ None
fresh_elsewhere n event hops now [] m sub apart = refl
fresh_elsewhere n event hops now (aim ∷ aims) m sub apart =
    ap (λ b. cond b (Some (fresh_one n event hops now aim)) (standing_at m sub (fresh n event hops now aims))) (and_left _ _ (ne_eqb n m apart))
    ∙ fresh_elsewhere n event hops now aims m sub apart

pub fresh_none : (n : ℕ) (event : List ℕ) (hops now : ℕ) (aims : List Aim) (m sub : ℕ) → has_sub sub aims ≡ false → standing_at m sub (fresh n event hops now aims) ≡ None
fresh_none n event hops now [] m sub e = refl
fresh_none n event hops now (aim ∷ aims) m sub e =
    let parts = Rattle.std.proofs.lemmas.Bool.or_parts _ _ e in
    ap (λ b. cond b (Some (fresh_one n event hops now aim)) (standing_at m sub (fresh n event hops now aims))) (and_right (n == m) _ parts.0)
    ∙ fresh_none n event hops now aims m sub parts.1

pub fresh_distinct : (n : ℕ) (event : List ℕ) (hops now : ℕ) (aims : List Aim) → AreOnce aims → AreDistinct (fresh n event hops now aims)
fresh_distinct n event hops now [] once = tt
fresh_distinct n event hops now (aim ∷ aims) once = (fresh_none n event hops now aims n aim.sub once.0, fresh_distinct n event hops now aims once.1)
