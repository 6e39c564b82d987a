-- How deep values that are kept stand.
use Rattle.std.proofs.Common.{◌≡◌, ℕ, zero, suc, ◌+◌, ◌-◌, ◌<◌, ◌≤◌, max, Bool, true, false, cond, ltb, List, [], ◌∷◌, ◌++◌, length, take, drop, get_or, length-drop, refl, sym, ap, subst, ◌∙◌, arith, append_assoc}
use Rattle.std.proofs.lemmas.Bool.{lt-ltb, le-ltb}
use Rattle.std.proofs.lemmas.List.{take_all}
use Rattle.json_text.specs.declared.spot.Spot.{Spot}
use Rattle.json_text.specs.declared.spot.Entry.{Entry}
use Rattle.json_text.specs.declared.doc.Doc.{Doc}
use Rattle.json_text.specs.Forest.{Forest, empty, grows, count}
use Rattle.json_text.specs.Reading.{entries}
use Rattle.json_text.specs.Doc.{bytes_read, values_kept, StandAt, Shallower, ForFirst}
use Rattle.json_text.specs.Shape.{is_holder, IsEmpty, AreInRow, levels, nesting, IsPlaced}
use Rattle.json_text.specs.Levels.{levels_below}
use Rattle.json_text.proofs.Walks.{first_entry, no_entries, behind, own_spot, own_depth, stands_inside}
use Rattle.json_text.proofs.ValueFacts.{ValueAt, fact_at, placed_in}
use Rattle.std.proofs.Math.Logic.{∥∥₁_elim}
use Rattle.std.proofs.Math.Nat.{ℕ_set}
use Rattle.std.proofs.Math.Bridge.{le_prop}

-- so many levels, from so deep on
abbrev lifted : ℕ → ℕ → ℕ
lifted k zero = zero
lifted k (suc n) = suc (k + n)

lifted_max : (k a b : ℕ) → lifted k (max a b) ≡ max (lifted k a) (lifted k b)
lifted_max k zero zero = refl
lifted_max k zero (suc b) = let e : max zero (suc b) ≡ suc b = omega arith in ap (lifted k) e ∙ omega arith
lifted_max k (suc a) zero = let e : max (suc a) zero ≡ suc a = omega arith in ap (lifted k) e ∙ omega arith
lifted_max k (suc a) (suc b) = let e : max (suc a) (suc b) ≡ suc (max a b) = omega arith in ap (lifted k) e ∙ omega arith

lifted_none : (n : ℕ) → lifted 0 n ≡ n
lifted_none zero = refl
lifted_none (suc n) = omega arith

deeper : (depth : ℕ) (e : Entry) (others : List Entry) → depth < e.depth → levels_below depth (e ∷ others) ≡ max (cond (is_holder e.spot.kind) (e.depth - depth) 0) (levels_below depth others)
deeper depth e others lt = let yes : ltb depth e.depth ≡ true = lt-ltb depth e.depth lt in rw yes refl

-- none of what stands behind a row
pub none_below : (depth : ℕ) (values : Forest) (others : List Entry) → Shallower depth others → levels_below depth (entries depth values ++ others) ≡ 0
unfolding entries
none_below depth empty [] h = refl
none_below depth empty (o ∷ others) h = let no : ltb depth o.depth ≡ false = le-ltb depth o.depth (omega (arith, h)) in rw no refl
none_below depth (grows s c l) others h = let no : ltb depth depth ≡ false = le-ltb depth depth (omega arith) in rw no refl

grown : (k : ℕ) (b : Bool) (inner : ℕ) → (b ≡ false → inner ≡ 0) → max (cond b (suc k) 0) (lifted (suc k) inner) ≡ lifted k (levels b inner)
grown k true zero leaf = omega arith
grown k true (suc n) leaf = let e : suc n + 1 ≡ suc (suc n) = omega arith in omega (arith, ap (lifted k) e)
grown k false inner leaf = ap (λ n. max 0 (lifted (suc k) n)) (leaf refl) ∙ omega arith

empty_nesting : (c : Forest) → IsEmpty c → nesting c ≡ 0
unfolding nesting
empty_nesting empty h = refl
empty_nesting (grows s c l) h = absurd h

-- the levels of values that stand deeper
below : (names : Bool) (from to depth k : ℕ) (values : Forest) (others : List Entry) → AreInRow names from to values → levels_below depth (entries (suc (depth + k)) values ++ others) ≡ max (lifted k (nesting values)) (levels_below depth others)
unfolding nesting
below names from to depth k empty others h = omega (arith, ap (λ l. levels_below depth (l ++ others)) (no_entries (suc (depth + k))))
below names from to depth k (grows s c l) others h =
    let d = suc (depth + k) in
    let e : Entry = record { spot = s; depth = d; size = 1 + count c } in
    let cells : entries d (grows s c l) ++ others ≡ e ∷ (entries (suc d) c ++ (entries d l ++ others)) = ap (λ x. x ++ others) (first_entry d s c l) ∙ ap (λ x. e ∷ x) (append_assoc (entries (suc d) c) (entries d l) others) in
    let held = below _ (s.span.start + 1) (s.span.end - 1) depth (suc k) c (entries d l ++ others) h.1 in
    let same : suc (depth + suc k) ≡ suc d = omega arith in
    let held' : levels_below depth (entries (suc d) c ++ (entries d l ++ others)) ≡ max (lifted (suc k) (nesting c)) (levels_below depth (entries d l ++ others)) = subst (λ n. levels_below depth (entries n c ++ (entries d l ++ others)) ≡ max (lifted (suc k) (nesting c)) (levels_below depth (entries d l ++ others))) same held in
    let rest = below names s.span.end to depth k l others h.2 in
    let own = deeper depth e (entries (suc d) c ++ (entries d l ++ others)) (omega arith) in
    let far : d - depth ≡ suc k = omega arith in
    let own' = ap (levels_below depth) cells ∙ own ∙ ap (λ n. max (cond (is_holder s.kind) n 0) (levels_below depth (entries (suc d) c ++ (entries d l ++ others)))) far in
    let up = grown k (is_holder s.kind) (nesting c) (λ no. empty_nesting c (h.0.leaf no)) in
    let lift = lifted_max k (levels (is_holder s.kind) (nesting c)) (nesting l) in
    omega (arith, own', held', rest, up, lift)

-- of a value's own row
pub levels_held : (doc : Doc) (n : ℕ) (s : Spot) (c l : Forest) (names : Bool) (from to : ℕ) (h : StandAt doc n (grows s c l)) → AreInRow names from to c → levels_below h.depth (drop (n + 1) (values_kept doc)) ≡ nesting c
levels_held doc n s c l names from to h row =
    let same : suc (h.depth + 0) ≡ suc h.depth = omega arith in
    let rest = entries h.depth l ++ h.others in
    let held = subst (λ d. levels_below h.depth (entries d c ++ rest) ≡ max (lifted 0 (nesting c)) (levels_below h.depth rest)) same (below names from to h.depth 0 c rest row) in
    omega (arith, ap (levels_below h.depth) (behind doc n s c l h), held, none_below h.depth l h.others h.end, lifted_none (nesting c))

levels_yes : (b : Bool) (inner : ℕ) → b ≡ true → levels b inner ≡ inner + 1
levels_yes true inner e = refl
levels_yes false inner e = let bad : ⊥ = cc in absurd bad

levels_no : (b : Bool) (inner : ℕ) → b ≡ false → 0 ≡ levels b inner
levels_no false inner e = refl
levels_no true inner e = let bad : ⊥ = cc in absurd bad

-- what `nesting` answers at a list or a map
pub nesting_is : (doc : Doc) (n : ℕ) (e : Entry) (rest : List Entry) (held r : ℕ) (values : Forest) → e ≡ get_or (values_kept doc) n e → rest ≡ drop (n + 1) (values_kept doc) → held ≡ levels_below e.depth rest → is_holder e.spot.kind ≡ true → (held ≤ 64 → r ≡ held + 1) → StandAt doc n values → ForFirst values (λ spot children later. r ≡ levels (is_holder spot.kind) (nesting children))
nesting_is doc n e rest held r empty own is_rest is holder exact h = tt
nesting_is doc n e rest held r (grows s c l) own is_rest is holder exact h = ∥∥₁_elim doc.read (ℕ_set _ _) (λ holds. known (fact_at (IsPlaced (bytes_read doc)) doc n s c l (placed_in doc n holds (stands_inside doc n s c l h)) h))
  where
    known : IsPlaced (bytes_read doc) s c → r ≡ levels (is_holder s.kind) (nesting c)
    known placed =
        let yes : is_holder s.kind ≡ true = ap is_holder (ap (λ x. x.kind) (sym (own_spot doc n e (grows s c l) own h))) ∙ holder in
        let depth = own_depth doc n e s c l h own in
        let inner : held ≡ nesting c = is ∙ ap (λ d. levels_below d rest) depth ∙ ap (levels_below h.depth) is_rest ∙ levels_held doc n s c l _ _ _ h placed.held in
        let up = levels_yes (is_holder s.kind) (nesting c) yes in
        exact (omega (arith, inner, up, placed.deep)) ∙ ap (λ k. k + 1) inner ∙ sym up

-- and at another value
pub no_nesting : (doc : Doc) (n : ℕ) (e : Entry) (values : Forest) → e ≡ get_or (values_kept doc) n e → is_holder e.spot.kind ≡ false → StandAt doc n values → ForFirst values (λ spot children later. 0 ≡ levels (is_holder spot.kind) (nesting children))
no_nesting doc n e empty own word h = tt
no_nesting doc n e (grows s c l) own word h = levels_no (is_holder s.kind) (nesting c) (ap is_holder (ap (λ x. x.kind) (sym (own_spot doc n e (grows s c l) own h))) ∙ word)

pub rest_is : (xs : List Entry) (n : ℕ) → take (length xs - n) (drop n xs) ≡ drop n xs
rest_is xs n = take_all (length xs - n) (drop n xs) (omega (arith, length-drop n xs))

pub nesting_low : (doc : Doc) (n r : ℕ) → n < length (values_kept doc) → ((values : Forest) → StandAt doc n values → ForFirst values (λ spot children later. r ≡ levels (is_holder spot.kind) (nesting children))) → r ≤ 64
nesting_low doc n r inside is = ∥∥₁_elim doc.read le_prop (λ holds. low (placed_in doc n holds inside))
  where
    low : ValueAt (IsPlaced (bytes_read doc)) doc n → r ≤ 64
    low at = omega (arith, is (grows at.spot at.children at.later) at.stands, at.fact.deep)
