-- Two ways to cut one list.
use Rattle.std.proofs.Common.{◌≡◌, List, [], ◌∷◌, ◌++◌, length, take, drop, ◌⊎◌, inl, inr, refl, sym, ap, ◌∙◌}
use Rattle.std.proofs.lemmas.List.{take_at, drop_at}
use Rattle.std.proofs.lemmas.List.Elements.{All-nil, All-cons, All-head, All-tail}
use Rattle.std.specs.List.{All}

same_cell : {A : Type 0} {x y : A} {xs ys : List A} → x ∷ xs ≡ y ∷ ys → (x ≡ y) × (xs ≡ ys)
same_cell e = (cc, cc)

same_cells : {A : Type 0} {x y : A} {xs ys : List A} → x ≡ y → xs ≡ ys → x ∷ xs ≡ y ∷ ys
same_cells e f = cc

-- of two fronts of one list one begins the other
pub split_append : {A : Type 0} (f k a b : List A) → f ++ k ≡ a ++ b
    → ((m : List A) × (f ≡ a ++ m) × (b ≡ m ++ k)) ⊎ ((m : List A) × (a ≡ f ++ m) × (k ≡ m ++ b))
split_append [] k a b e = inr (a, refl, e)
split_append (x ∷ f) k [] b e = inl (x ∷ f, refl, sym e)
split_append (x ∷ f) k (y ∷ a) b e =
    let cell = same_cell e in
    elim (split_append f k a b cell.1) [
      | inl w ↦ inl (w.0, same_cells cell.0 w.1, w.2)
      | inr w ↦ inr (w.0, same_cells (sym cell.0) w.1, w.2)
    ]

-- fronts of one length are one
pub append_same : {A : Type 0} (a x b y : List A) → length a ≡ length b → a ++ x ≡ b ++ y → (a ≡ b) × (x ≡ y)
append_same a x b y len e = (
  sym (take_at a x (length a) refl) ∙ ap (take (length a)) e ∙ take_at b y (length a) (sym len),
  sym (drop_at a x (length a) refl) ∙ ap (drop (length a)) e ∙ drop_at b y (length a) (sym len),
)

-- what each element of a list has, each of its front has
pub All-front : {X : Type 0} (P : X → Type 0) (xs ys : List X) → All P (xs ++ ys) → All P xs
All-front P [] ys all = All-nil P
All-front P (x ∷ xs) ys all =
    All-cons P x xs (All-head P x (xs ++ ys) all) (All-front P xs ys (All-tail P x (xs ++ ys) all))
