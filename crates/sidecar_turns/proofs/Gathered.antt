-- A list that is gathered place by place from those that are chosen of another.
use Rattle.std.proofs.Common.{◌≡◌, ◌∙◌, ◌<◌, ◌+◌, ℕ, Bool, List, [], ◌∷◌, ◌++◌, length, map, take, slice_index_or, sym, ap}
use Rattle.std.specs.List.{filter}
use Rattle.std.proofs.lemmas.List.{map-append, take_more}
use Rattle.std.proofs.lemmas.List.Elements.{filter-append}

-- one more that is chosen, or none, and what is made of it
pub more_made : {A B : Type 0} (xs : List A) (i : ℕ) (x : A) → i < length xs → x ≡ slice_index_or xs i x → (p : A → Bool) (f : A → B) (ys after : List B) → ys ≡ map f (filter p (take i xs)) → after ≡ ys ++ map f (filter p (x ∷ []))
    → after ≡ map f (filter p (take (i + 1) xs))
more_made xs i x low is p f ys after made added =
    let one-more : take (i + 1) xs ≡ take i xs ++ x ∷ [] = take_more xs i x low ∙ (λ j. take i xs ++ sym is j ∷ []) in
    let chosen : filter p (take (i + 1) xs) ≡ filter p (take i xs) ++ filter p (x ∷ []) = ap (filter p) one-more ∙ filter-append p (take i xs) (x ∷ []) in
    added ∙ ap (λ l. l ++ map f (filter p (x ∷ []))) made ∙ sym (ap (map f) chosen ∙ map-append f (filter p (take i xs)) (filter p (x ∷ [])))
