-- Names in a set that is kept in their order.
use Rattle.std.proofs.Common.{◌≡◌, ◌<◌, ◌+◌, ◌⊎◌, ◌↔◌, ℕ, zero, suc, List, [], ◌∷◌, ◌++◌, map, take, length, get_or, refl, ap, sym, subst, ◌∙◌, inl, inr, ⊎_elim, arith, Bor, Result, Ok, Err, IfOk}
use Rattle.std.specs.Prelude.{Contains}
use Rattle.std.specs.declared.cmp.Ordering.{Ordering}
use Rattle.std.specs.declared.cmp.Ordering.TheVariants.{Less, Equal, Greater}
use Rattle.std.specs.Ordering.{nat_cmp, is_eq, match_ordering}
use Rattle.std.specs.Cmp.Lexicographic.{slice_cmp}
use Rattle.std.specs.BTreeSet.{insert_key}
use Rattle.std.specs.List.Sorted.{IsStrictlySortedBy}
use Rattle.std.proofs.lemmas.Map.Text.{is_eq-slice_cmp}
use Rattle.std.proofs.lemmas.Slice.Eq.{bytes_eq-Decides}
use Rattle.std.proofs.lemmas.List.Elements.{Contains-append_left, Contains-push, Contains-push_cases, Contains-get_or}
use Rattle.std.proofs.lemmas.List.{take_more, length-map, get_or-map}
use Rattle.std.proofs.Math.Seq.{take-length}
use Rattle.std.proofs.lemmas.Map.Keys.{Less-from_sorted}
use Rattle.side_world.specs.Files.{IsYamlName, IsListing}

-- the bytes of the names
abbrev pub bytes_of : List (Bor (List ℕ)) → List (List ℕ)
bytes_of names = map (λ (name : Bor (List ℕ)). name.now) names

abbrev pub in_order : Bor (List ℕ) → Bor (List ℕ) → Ordering
in_order x y = slice_cmp nat_cmp x.now y.now

pub here : {X : Type 0} (x : X) (xs : List X) → Contains (x ∷ xs) x
here x xs = (0, omega arith, refl)

pub behind : {X : Type 0} (x y : X) (xs : List X) → Contains xs y → Contains (x ∷ xs) y
behind x y xs has = (suc has.0, omega (arith, has.1), has.2)

pub here_or_behind : {X : Type 0} (x y : X) (xs : List X) → Contains (x ∷ xs) y → (y ≡ x) ⊎ Contains xs y
here_or_behind {X} x y xs has = cases has.0 has.1 has.2 where
  cases : (k : ℕ) → k < length (x ∷ xs) → get_or (x ∷ xs) k y ≡ y → (y ≡ x) ⊎ Contains xs y
  cases zero within is = inl (sym is)
  cases (suc k) within is = inr (k, omega (arith, within), is)

pub cons_iff : {X : Type 0} (x y : X) (xs : List X) → Contains (x ∷ xs) y ↔ ((y ≡ x) ⊎ Contains xs y)
cons_iff {X} x y xs = (
  here_or_behind x y xs,
  λ either. ⊎_elim (λ (e : y ≡ x). subst (λ (z : X). Contains (x ∷ xs) z) (sym e) (here x xs)) (λ (has : Contains xs y). behind x y xs has) either,
)

-- one name more in the set
abbrev Adds : List (Bor (List ℕ)) → List (Bor (List ℕ)) → Bor (List ℕ) → List ℕ → Type 0
Adds before after name other = Contains (bytes_of after) other ↔ ((other ≡ name.now) ⊎ Contains (bytes_of before) other)

by_order : (first : Bor (List ℕ)) (names rest : List (Bor (List ℕ))) (name : Bor (List ℕ)) (other : List ℕ) (o : Ordering) → in_order name first ≡ o → Adds names rest name other → Adds (first ∷ names) (match_ordering o (name ∷ first ∷ names) (first ∷ names) (first ∷ rest)) name other
by_order first names rest name other Less is more = cons_iff name.now other (bytes_of (first ∷ names))
by_order first names rest name other Equal is more =
    let same : name.now ≡ first.now = (bytes_eq-Decides name.now first.now).0 (sym (is_eq-slice_cmp name.now first.now) ∙ ap is_eq is) in (
      λ has. inr has,
      λ either. ⊎_elim
          (λ (e : other ≡ name.now). subst (λ (z : List ℕ). Contains (bytes_of (first ∷ names)) z) (sym (e ∙ same)) (here first.now (bytes_of names)))
          (λ (has : Contains (bytes_of (first ∷ names)) other). has) either,
    )
by_order first names rest name other Greater is more =
    let old = cons_iff first.now other (bytes_of names) in
    let new = cons_iff first.now other (bytes_of rest) in (
      λ has. ⊎_elim
          (λ (e : other ≡ first.now). inr (old.1 (inl e)))
          (λ (in_rest : Contains (bytes_of rest) other). ⊎_elim
          (λ (e : other ≡ name.now). inl e)
          (λ (in_names : Contains (bytes_of names) other). inr (old.1 (inr in_names))) (more.0 in_rest)) (new.0 has),
      λ either. ⊎_elim
          (λ (e : other ≡ name.now). new.1 (inr (more.1 (inl e))))
          (λ (has : Contains (bytes_of (first ∷ names)) other). ⊎_elim
          (λ (e : other ≡ first.now). new.1 (inl e))
          (λ (in_names : Contains (bytes_of names) other). new.1 (inr (more.1 (inr in_names)))) (old.0 has)) either,
    )

pub adds : (names : List (Bor (List ℕ))) (name : Bor (List ℕ)) (other : List ℕ) → Adds names (insert_key in_order names name) name other
adds [] name other = cons_iff name.now other []
adds (first ∷ names) name other =
    by_order first names (insert_key in_order names name) name other (in_order name first) refl (adds names name other)

-- what is kept of the first names: those that end so
abbrev pub KeptOf : List (List ℕ) → List (Bor (List ℕ)) → Type 0
KeptOf names kept = (name : List ℕ) → Contains (bytes_of kept) name ↔ (IsYamlName name × Contains names name)

pub kept_none : KeptOf [] []
kept_none = λ name. (λ has. absurd (omega (arith, has.1)), λ both. absurd (omega (arith, both.1.1)))

-- a name that ends so was put in
pub kept_in : (names : List (List ℕ)) (kept after : List (Bor (List ℕ))) (name : Bor (List ℕ)) → KeptOf names kept → IsYamlName name.now → after ≡ insert_key in_order kept name → KeptOf (names ++ name.now ∷ []) after
kept_in names kept after name so_far ends is = subst (λ (z : List (Bor (List ℕ))). KeptOf (names ++ name.now ∷ []) z) (sym is) (λ other.
    let put = adds kept name other in (
      λ has. ⊎_elim
          (λ (e : other ≡ name.now). (subst IsYamlName (sym e) ends, subst (λ (z : List ℕ). Contains (names ++ name.now ∷ []) z) (sym e) (Contains-push names name.now)))
          (λ (old : Contains (bytes_of kept) other). let both = (so_far other).0 old in (both.0, Contains-append_left names (name.now ∷ []) other both.1)) (put.0 has),
      λ both. ⊎_elim
          (λ (old : Contains names other). put.1 (inr ((so_far other).1 (both.0, old))))
          (λ (e : name.now ≡ other). put.1 (inl (sym e))) (Contains-push_cases names name.now other both.1),
    ))

-- one that doesn't was passed over
pub kept_out : (names : List (List ℕ)) (kept : List (Bor (List ℕ))) (name : List ℕ) → KeptOf names kept → (¬ IsYamlName name) → KeptOf (names ++ name ∷ []) kept
kept_out names kept name so_far other_end = λ other. (
  λ has. let both = (so_far other).0 has in (both.0, Contains-append_left names (name ∷ []) other both.1),
  λ both. ⊎_elim
      (λ (old : Contains names other). (so_far other).1 (both.0, old))
      (λ (e : name ≡ other). absurd (other_end (subst IsYamlName (sym e) both.0))) (Contains-push_cases names name other both.1),
)

-- the same, by the place of the name
pub kept_in_at : (names : List (List ℕ)) (i : ℕ) (d : List ℕ) (kept after : List (Bor (List ℕ))) (name : Bor (List ℕ)) → KeptOf (take i names) kept → i < length names → name.now ≡ get_or names i d → IsYamlName name.now → after ≡ insert_key in_order kept name → KeptOf (take (i + 1) names) after
kept_in_at names i d kept after name so_far within at ends is =
    subst (λ (z : List (List ℕ)). KeptOf z after) (sym (take_more names i d within ∙ ap (λ (z : List ℕ). take i names ++ z ∷ []) (sym at)))
    (kept_in (take i names) kept after name so_far ends is)

pub kept_out_at : (names : List (List ℕ)) (i : ℕ) (d : List ℕ) (kept : List (Bor (List ℕ))) (name : List ℕ) → KeptOf (take i names) kept → i < length names → name ≡ get_or names i d → (¬ IsYamlName name) → KeptOf (take (i + 1) names) kept
kept_out_at names i d kept name so_far within at other_end =
    subst (λ (z : List (List ℕ)). KeptOf z kept) (sym (take_more names i d within ∙ ap (λ (z : List ℕ). take i names ++ z ∷ []) (sym at)))
    (kept_out (take i names) kept name so_far other_end)

-- the names of a set are a listing
pub listing : (kept : List (Bor (List ℕ))) (names listed : List (List ℕ)) → listed ≡ bytes_of kept → IsStrictlySortedBy in_order kept → KeptOf names kept → IsListing listed
listing kept names listed is ordered kept_of = subst IsListing (sym is) (record {
  rising = λ i j d first second.
      let here = λ (k : ℕ) (within : k < length (bytes_of kept)). get_or-map (λ (name : Bor (List ℕ)). name.now) kept k (record { ref_ptr = (0, 0); now = d }) d (simp length-map at within) in
      rw (here i (omega (arith, first, second)), here j second) (Less-from_sorted in_order kept i j (record { ref_ptr = (0, 0); now = d }) ordered first (simp length-map at second));
  named = λ k d within. ((kept_of (get_or (bytes_of kept) k d)).0 (Contains-get_or (bytes_of kept) k d within)).0;
})

-- the same of a call that copies them, where all names were looked at
pub listed_all : {E : Type 0} (result : Result (List (List ℕ)) E) (names : List (List ℕ)) (i : ℕ) (kept : List (Bor (List ℕ))) → IfOk result (λ listed. listed ≡ bytes_of kept) → IsStrictlySortedBy in_order kept → KeptOf (take i names) kept → i ≡ length names → IfOk result IsListing × IfOk result (λ listed. (name : List ℕ) → Contains listed name ↔ (IsYamlName name × Contains names name))
listed_all (Ok listed) names i kept is ordered kept_of all = (
  listing kept (take i names) listed is ordered kept_of,
  subst (λ (z : List (List ℕ)). (name : List ℕ) → Contains z name ↔ (IsYamlName name × Contains names name)) (sym is)
      (subst (λ (z : List (List ℕ)). KeptOf z kept) (rw all (take-length names)) kept_of),
)
listed_all (Err e) names i kept is ordered kept_of all = (is, is)
