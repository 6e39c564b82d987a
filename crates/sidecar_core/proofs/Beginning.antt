-- What all objects of a configuration begin with.
use Rattle.std.proofs.Common.{◌≡◌, ◌∙◌, ℕ, List, [], ◌∷◌, All, length, map, get_or, sym, ap, subst}
use Rattle.std.proofs.lemmas.List.{length-map, get_or_default}
use Rattle.std.proofs.lemmas.List.Elements.{All-nil, All-cons, All-head, All-tail}
use Rattle.std.proofs.lemmas.Simd.{map-map}
use mathlib.Core.Option.{some}
use lib.ListN.{get_elem?}
use Rattle.turn_cell.proofs.Lists.{one_place, in_range}
use Rattle.atomic_table.proofs.Lists.{at_index}

-- what holds of all holds of the one at a place
pub all_at : {A : Type 0} (P : A → Type 0) (xs : List A) → All P xs → (k : ℕ) (x : A) → get_elem? xs k ≡ some x → P x
all_at P xs all k x at = let low = in_range xs k x at in
    subst P (one_place xs k (get_or xs k x) x (at_index xs k (get_or xs k x) low (get_or_default xs k x (get_or xs k x) low)) at) (all k x low)

-- what holds of all that is made holds of each that it is made of
pub all_unmap : {A B : Type 0} (P : B → Type 0) (f : A → B) (xs : List A) → All P (map f xs) → All (λ x. P (f x)) xs
all_unmap P f [] all = All-nil (λ x. P (f x))
all_unmap P f (x ∷ xs) all = All-cons (λ x. P (f x)) x xs (All-head P (f x) (map f xs) all) (all_unmap P f xs (All-tail P (f x) (map f xs) all))

-- as many as what is made of them
pub as_many : {A B : Type 0} (f : A → B) (xs : List A) (ys : List B) → map f xs ≡ ys → length xs ≡ length ys
as_many f xs ys is = sym (length-map xs f) ∙ ap length is

-- made of what they begin with
pub made_of : {A B C : Type 0} (f : B → C) (g : A → B) (xs : List A) (ys : List B) (zs : List C) → map g xs ≡ ys → map f ys ≡ zs → map (λ x. f (g x)) xs ≡ zs
made_of f g xs ys zs one other = sym (map-map f g xs) ∙ ap (map f) one ∙ other
