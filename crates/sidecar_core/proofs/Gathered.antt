-- Lists that are gathered place by place.
use Rattle.std.proofs.Common.{◌≡◌, ◌∙◌, ◌<◌, ◌+◌, ℕ, Bool, List, [], ◌∷◌, ◌++◌, length, map, take, slice_index_or, sym, ap}
use Rattle.std.specs.List.{filter}
use Rattle.std.proofs.lemmas.List.{map-append, take_more}
use Rattle.std.proofs.lemmas.List.Elements.{filter-append}

module _ {A : Type 0} (xs : List A) (i : ℕ) (x : A) (low : i < length xs) (is : x ≡ slice_index_or xs i x) where
  -- one more of a list
  pub one_more : take (i + 1) xs ≡ take i xs ++ x ∷ []
  one_more = take_more xs i x low ∙ (λ j. take i xs ++ sym is j ∷ [])

  -- one more of what is made of each
  pub more_made : {B : Type 0} (f : A → B) (ys : List B) (y : B) → ys ≡ map f (take i xs) → y ≡ f x → ys ++ y ∷ [] ≡ map f (take (i + 1) xs)
  more_made f ys y made of = (λ j. made j ++ of j ∷ []) ∙ sym (map-append f (take i xs) (x ∷ [])) ∙ ap (map f) (sym one_more)

  -- one more that is chosen, or none
  pub more_chosen : (p : A → Bool) → filter p (take (i + 1) xs) ≡ filter p (take i xs) ++ filter p (x ∷ [])
  more_chosen p = ap (filter p) one_more ∙ filter-append p (take i xs) (x ∷ [])
