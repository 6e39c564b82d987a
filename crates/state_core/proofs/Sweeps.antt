-- The keys of rows that are not live, one behind the other.
use Rattle.std.proofs.Common.{◌≡◌, ℕ, ◌+◌, ◌≤◌, Bool, true, false, cond, not, List, [], ◌∷◌, ◌++◌, map, filter, take, drop, length, Option, Some, None, is_some, unwrap_or, refl, ap, sym, ◌∙◌, subst, arith}
use Rattle.std.specs.Prelude.{slice_get, T}
use Rattle.std.specs.Ordering.{is_lt, ordering_reverse}
use Rattle.std.specs.declared.cmp.Ordering.{Ordering}
use Rattle.std.specs.declared.cmp.Ordering.TheVariants.{Less, Equal, Greater}
use Rattle.std.specs.Cmp.{tied_itself}
use Rattle.std.specs.FinMap.{entries, entries_sorted, is_sorted}
use Rattle.std.specs.FinMap.Entries.{below_all}
use Rattle.std.proofs.lemmas.Cmp.{nat_list_cmp_total}
use Rattle.std.proofs.lemmas.Bool.{false≢true, and_parts}
use Rattle.std.proofs.lemmas.List.{take-append-drop, take_all, map-append, length-drop, drop-drop}
use Rattle.std.proofs.Math.Seq.{take-add}
use Rattle.keeper_core.specs.Rows.{Rows, Row, byte_order, is_live, is_behind, lapsed, next_lapsed}
use Rattle.keeper_core.specs.declared.changes.Change.{Change}
use Rattle.keeper_core.specs.declared.changes.Change.TheVariants.{Remove}
use Rattle.std.specs.List.{AllByRecursion}
use Rattle.std.proofs.lemmas.List.Elements.{All-from_recursion}
use Rattle.keeper_core.specs.Changes.{IsBelow, VersionsAreBelow}
use Rattle.state_core.proofs.Writes.{upserts-append, numbered-append}
use Rattle.state_core.specs.Write.{Write, upsert, removal, upserts, numbered, sweep}

-- all keys stand behind this one
abbrev pub Below : List ℕ → List (List ℕ) → Type 0
Below key [] = Unit {0}
Below key (other ∷ others) = (byte_order key other ≡ Less) × Below key others

-- each key stands behind those before it
abbrev pub Rises : List (List ℕ) → Type 0
Rises [] = Unit {0}
Rises (key ∷ keys) = Below key keys × Rises keys

pub true_of : (b : Bool) → T b → b ≡ true
true_of true h = refl
true_of false h = absurd h

less : (o : Ordering) → is_lt o ≡ true → o ≡ Less
less Less e = refl
less Equal e = absurd (false≢true e)
less Greater e = absurd (false≢true e)

-- the keys of those entries whose rows pass a test
abbrev pub keys_where : (Row → Bool) → List (List ℕ × Row) → List (List ℕ)
keys_where p es = map (λ entry. entry.0) (filter (λ entry. p entry.1) es)

pub below_keys : (p : Row → Bool) (key : List ℕ) (es : List (List ℕ × Row)) → below_all byte_order key es ≡ true → Below key (keys_where p es)
below_keys p key [] h = tt
below_keys p key (e ∷ es) h =
    let parts = and_parts _ _ h in
    let rest = below_keys p key es parts.1 in
    elim (p e.1) as (λ b. Below key (map (λ entry. entry.0) (cond b (e ∷ filter (λ entry. p entry.1) es) (filter (λ entry. p entry.1) es)))) [ true ↦ (less _ parts.0, rest) | false ↦ rest ]

rises_keys : (p : Row → Bool) (es : List (List ℕ × Row)) → is_sorted byte_order es ≡ true → Rises (keys_where p es)
rises_keys p [] h = tt
rises_keys p (e ∷ es) h =
    let parts = and_parts _ _ h in
    let rest = rises_keys p es parts.1 in
    elim (p e.1) as (λ b. Rises (map (λ entry. entry.0) (cond b (e ∷ filter (λ entry. p entry.1) es) (filter (λ entry. p entry.1) es)))) [ true ↦ (below_keys p e.0 es parts.0, rest) | false ↦ rest ]

rises_lapsed : (rows : Rows) (moment : ℕ) → Rises (lapsed rows moment)
rises_lapsed rows moment = rises_keys (λ row. not (is_live moment row)) (entries rows) (true_of _ (entries_sorted rows))

-- those behind a key that stands before them all
behind_below : (key : List ℕ) (keys : List (List ℕ)) → Below key keys → filter (is_behind (Some key)) keys ≡ keys
behind_below key [] h = refl
behind_below key (other ∷ others) h =
    ap (λ o. cond (is_lt o) (other ∷ filter (is_behind (Some key)) others) (filter (is_behind (Some key)) others)) h.0
    ∙ ap (λ xs. other ∷ xs) (behind_below key others h.1)

below_middle : (key : List ℕ) (a : List (List ℕ)) (other : List ℕ) (b : List (List ℕ)) → Below key (a ++ other ∷ b) → byte_order key other ≡ Less
below_middle key [] other b h = h.0
below_middle key (x ∷ a) other b h = below_middle key a other b h.1

-- those behind a key among them
behind_middle : (a : List (List ℕ)) (key : List ℕ) (b : List (List ℕ)) → Rises (a ++ key ∷ b) → filter (is_behind (Some key)) (a ++ key ∷ b) ≡ b
behind_middle [] key b h =
    ap (λ o. cond (is_lt o) (key ∷ filter (is_behind (Some key)) b) (filter (is_behind (Some key)) b)) (tied_itself nat_list_cmp_total key)
    ∙ behind_below key b h.0
behind_middle (x ∷ a) key b h =
    ap (λ o. cond (is_lt o) (x ∷ filter (is_behind (Some key)) (a ++ key ∷ b)) (filter (is_behind (Some key)) (a ++ key ∷ b)))
    (nat_list_cmp_total.antisymm key x ∙ ap ordering_reverse (below_middle x a key b h.0))
    ∙ behind_middle a key b h.1

behind_none : (keys : List (List ℕ)) → filter (is_behind None) keys ≡ keys
behind_none [] = refl
behind_none (key ∷ keys) = ap (λ xs. key ∷ xs) (behind_none keys)

tail_is : {X : Type 0} (xs : List X) (x : X) → slice_get xs 0 ≡ Some x → xs ≡ x ∷ drop 1 xs
tail_is [] x h = absurd (false≢true (ap is_some h))
tail_is (y ∷ ys) x h = ap (λ o. unwrap_or o y ∷ ys) h

none_is : {X : Type 0} (xs : List X) → slice_get xs 0 ≡ None → xs ≡ []
none_is [] h = refl
none_is (y ∷ ys) h = absurd (false≢true (sym (ap is_some h)))

first_of_drop : {X : Type 0} (n : ℕ) (xs : List X) (x : X) → slice_get (drop n xs) 0 ≡ Some x → xs ≡ take n xs ++ x ∷ drop (n + 1) xs
first_of_drop n xs x h =
    sym (take-append-drop n xs)
    ∙ ap (λ ys. take n xs ++ ys) (tail_is (drop n xs) x h)
    ∙ ap (λ ys. take n xs ++ x ∷ ys) (drop-drop 1 n xs)

take_first_more : {X : Type 0} (n : ℕ) (xs : List X) (x : X) → slice_get (drop n xs) 0 ≡ Some x → take (n + 1) xs ≡ take n xs ++ x ∷ []
take_first_more n xs x h = take-add n 1 xs ∙ ap (λ ys. take n xs ++ take 1 ys) (tail_is (drop n xs) x h)

-- the keys that are not live, as far as a sweep has come
pub record Swept (rows : Rows) (moment count : ℕ) (after : Option (List ℕ)) (changes : List Change) : Type 0 where
  pub changes_are : changes ≡ map (λ key. Remove key) (take count (lapsed rows moment))
  pub behind : filter (is_behind after) (lapsed rows moment) ≡ drop count (lapsed rows moment)

pub swept_none : (rows : Rows) (moment : ℕ) → Swept rows moment 0 None []
swept_none rows moment = record { changes_are = refl; behind = behind_none (lapsed rows moment) }

swept_more : (rows : Rows) (moment count : ℕ) (after : Option (List ℕ)) (changes : List Change) (key : List ℕ) → Swept rows moment count after changes
    → next_lapsed rows after moment ≡ Some key → Swept rows moment (count + 1) (Some key) (changes ++ Remove key ∷ [])
swept_more rows moment count after changes key swept is =
    let first : slice_get (drop count (lapsed rows moment)) 0 ≡ Some key = ap (λ keys. slice_get keys 0) (sym swept.behind) ∙ is in
    let whole = first_of_drop count (lapsed rows moment) key first in
    record {
      changes_are =
          ap (λ xs. xs ++ Remove key ∷ []) swept.changes_are
          ∙ sym (map-append (λ k. Remove k) (take count (lapsed rows moment)) (key ∷ []))
          ∙ ap (map (λ k. Remove k)) (sym (take_first_more count (lapsed rows moment) key first));
      behind =
          ap (filter (is_behind (Some key))) whole
          ∙ behind_middle (take count (lapsed rows moment)) key (drop (count + 1) (lapsed rows moment)) (subst Rises whole (rises_lapsed rows moment));
    }

-- the same with the removal as it was made
pub swept_pushed : (rows : Rows) (moment count : ℕ) (after : Option (List ℕ)) (changes new : List Change) (key copy : List ℕ) → Swept rows moment count after changes
    → next_lapsed rows after moment ≡ Some key → copy ≡ key → new ≡ changes ++ Remove copy ∷ [] → Swept rows moment (count + 1) (Some key) new
swept_pushed rows moment count after changes new key copy swept is copied pushed =
    subst (Swept rows moment (count + 1) (Some key)) (ap (λ k. changes ++ Remove k ∷ []) (sym copied) ∙ sym pushed) (swept_more rows moment count after changes key swept is)

-- removals get no number
pub numbered-removals : (next : ℕ) (keys : List (List ℕ)) → numbered next (map (λ key. removal key) keys) ≡ map (λ key. Remove key) keys
numbered-removals next [] = refl
numbered-removals next (key ∷ keys) = ap (λ xs. Remove key ∷ xs) (numbered-removals next keys)

pub upserts-removals : (keys : List (List ℕ)) → upserts (map (λ key. removal key) keys) ≡ 0
upserts-removals [] = refl
upserts-removals (key ∷ keys) = upserts-removals keys

-- the sweep and then the writes
pub numbered-swept : (rows : Rows) (moment next : ℕ) (writes : List Write) → numbered next (sweep rows moment) ++ numbered next writes ≡ numbered next (sweep rows moment ++ writes)
numbered-swept rows moment next writes =
    let none = upserts-removals (take 1024 (lapsed rows moment)) in
    ap (λ n. numbered next (sweep rows moment) ++ numbered n writes) (omega (arith, none)) ∙ sym (numbered-append next (sweep rows moment) writes)

pub upserts-swept : (rows : Rows) (moment : ℕ) (writes : List Write) → upserts (sweep rows moment ++ writes) ≡ upserts writes
upserts-swept rows moment writes = omega (arith, upserts-append (sweep rows moment) writes, upserts-removals (take 1024 (lapsed rows moment)))

-- no version is given from the next on
below_numbered : (next limit : ℕ) (writes : List Write) → next + upserts writes ≤ limit → AllByRecursion (IsBelow limit) (numbered next writes)
below_numbered next limit [] few = tt
below_numbered next limit (upsert key value until ∷ writes) few = (omega (arith, few), below_numbered (next + 1) limit writes (omega (arith, few)))
below_numbered next limit (removal key ∷ writes) few = (tt, below_numbered next limit writes few)

pub versions_below : (next limit : ℕ) (writes : List Write) → next + upserts writes ≤ limit → VersionsAreBelow limit (numbered next writes)
versions_below next limit writes few = All-from_recursion (IsBelow limit) _ (below_numbered next limit writes few)

-- the sweep, where no further key is found after `count` of them
pub swept_all : (rows : Rows) (moment next count : ℕ) (after : Option (List ℕ)) (changes : List Change) → Swept rows moment count after changes
    → next_lapsed rows after moment ≡ None → count ≤ 1024 → changes ≡ numbered next (sweep rows moment)
swept_all rows moment next count after changes swept is few =
    let none : drop count (lapsed rows moment) ≡ [] = none_is _ (ap (λ keys. slice_get keys 0) (sym swept.behind) ∙ is) in
    let fewer : length (lapsed rows moment) ≤ count = omega (arith, length-drop count (lapsed rows moment), ap length none) in
    swept.changes_are
    ∙ ap (map (λ key. Remove key)) (take_all count (lapsed rows moment) fewer ∙ sym (take_all 1024 (lapsed rows moment) (omega (arith, fewer, few))))
    ∙ sym (numbered-removals next (take 1024 (lapsed rows moment)))

-- and where there were enough
pub swept_most : (rows : Rows) (moment next : ℕ) (after : Option (List ℕ)) (changes : List Change) → Swept rows moment 1024 after changes → changes ≡ numbered next (sweep rows moment)
swept_most rows moment next after changes swept = swept.changes_are ∙ sym (numbered-removals next (take 1024 (lapsed rows moment)))
