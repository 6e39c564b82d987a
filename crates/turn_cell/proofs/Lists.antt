-- Sums of a number for each element, and lists that begin alike.
use Rattle.std.proofs.Common.{◌≡◌, ◌⊎◌, ℕ, zero, suc, ◌+◌, ◌<◌, ◌≤◌, List, [], ◌∷◌, ◌++◌, length, set, All, sum_by, refl, sym, ap, ◌∙◌, subst, inl, inr, ⊎_elim, arith, append_assoc, length-append}
use Rattle.std.proofs.lemmas.List.Sums.{sum_by-cons}
use Rattle.std.proofs.lemmas.List.Elements.{All-nil, All-cons, All-head, All-tail}
use mathlib.Core.Option.{some, some-injective, some-ne-none}
use mathlib.Core.List.{IsPrefix}
use lib.ListN.{get_elem?}

module _ {A : Type 0} where
  pub in_range : (l : List A) (i : ℕ) (a : A) → get_elem? l i ≡ some a → i < length l
  in_range [] i a e = absurd (some-ne-none a (sym e))
  in_range (x ∷ xs) zero a e = omega arith
  in_range (x ∷ xs) (suc i) a e = omega (arith, in_range xs i a e)

  pub there : (l : List A) (k : ℕ) → k < length l → (a : A) × (get_elem? l k ≡ some a)
  there [] k h = absurd (omega arith)
  there (x ∷ xs) zero h = (x, refl)
  there (x ∷ xs) (suc k) h = there xs k (omega arith)

  pub at_end : (l : List A) (a b : A) (j : ℕ) → get_elem? (l ++ a ∷ []) j ≡ some b → (get_elem? l j ≡ some b) ⊎ ((j ≡ length l) × (a ≡ b))
  at_end [] a b zero e = inr (refl, some-injective a b e)
  at_end [] a b (suc j) e = absurd (some-ne-none b (sym e))
  at_end (x ∷ xs) a b zero e = inl e
  at_end (x ∷ xs) a b (suc j) e = ⊎_elim inl (λ t. inr (ap suc t.0, t.1)) (at_end xs a b j e)

  pub at_seam : (xs : List A) (y : A) (ys : List A) → get_elem? (xs ++ y ∷ ys) (length xs) ≡ some y
  at_seam [] y ys = refl
  at_seam (x ∷ xs) y ys = at_seam xs y ys

  pub one_place : (l : List A) (i : ℕ) (a b : A) → get_elem? l i ≡ some a → get_elem? l i ≡ some b → a ≡ b
  one_place l i a b p q = some-injective a b (sym p ∙ q)

  pub sum_at : (f : A → ℕ) (l : List A) (i : ℕ) (a : A) → get_elem? l i ≡ some a → f a ≤ sum_by f l
  sum_at f [] i a e = absurd (some-ne-none a (sym e))
  sum_at f (x ∷ xs) zero a e = let same : f x ≡ f a = ap f (some-injective x a e) in omega (arith, sum_by-cons f x xs)
  sum_at f (x ∷ xs) (suc i) a e = omega (arith, sum_by-cons f x xs, sum_at f xs i a e)

  pub sum_set : (f : A → ℕ) (l : List A) (i : ℕ) (a b : A) → get_elem? l i ≡ some a → sum_by f (set l i b) + f a ≡ sum_by f l + f b
  sum_set f [] i a b e = absurd (some-ne-none a (sym e))
  sum_set f (x ∷ xs) zero a b e = let same : f x ≡ f a = ap f (some-injective x a e) in omega (arith, sum_by-cons f x xs, sum_by-cons f b xs)
  sum_set f (x ∷ xs) (suc i) a b e = omega (arith, sum_by-cons f x xs, sum_by-cons f x (set xs i b), sum_set f xs i a b e)

  pub sum_le_length : (f : A → ℕ) → ((a : A) → f a ≤ 1) → (l : List A) → sum_by f l ≤ length l
  sum_le_length f small [] = omega arith
  sum_le_length f small (x ∷ xs) = omega (arith, sum_by-cons f x xs, small x, sum_le_length f small xs)

  pub sum_le_sum : (f g : A → ℕ) → ((a : A) → f a ≤ g a) → (l : List A) → sum_by f l ≤ sum_by g l
  sum_le_sum f g small [] = omega arith
  sum_le_sum f g small (x ∷ xs) = omega (arith, sum_by-cons f x xs, sum_by-cons g x xs, small x, sum_le_sum f g small xs)

  -- where the first element makes up the whole sum, no other counts
  pub only_first : (f : A → ℕ) (l : List A) (a b : A) (j : ℕ) → get_elem? l 0 ≡ some a → f a ≡ 1 → sum_by f l ≡ 1 → get_elem? l j ≡ some b → f b ≡ 1 → j ≡ 0
  only_first f [] a b j p one all q two = absurd (some-ne-none a (sym p))
  only_first f (x ∷ xs) a b zero p one all q two = refl
  only_first f (x ∷ xs) a b (suc j) p one all q two = let same : f x ≡ f a = ap f (some-injective x a p) in absurd (omega (arith, sum_by-cons f x xs, sum_at f xs j b q))

  pub none_else : (f g : A → ℕ) → ((a : A) → f a ≤ g a) → (l : List A) (a : A) → get_elem? l 0 ≡ some a → g a ≡ 1 → sum_by g l ≡ 1 → f a ≡ 0 → sum_by f l ≡ 0
  none_else f g small [] a p one all nought = absurd (some-ne-none a (sym p))
  none_else f g small (x ∷ xs) a p one all nought = let e = some-injective x a p in let same : g x ≡ g a = ap g e in let same' : f x ≡ f a = ap f e in omega (arith, sum_by-cons g x xs, sum_by-cons f x xs, sum_le_sum f g small xs)

  pub prefix_more : (a l m : List A) → IsPrefix a l → IsPrefix a (l ++ m)
  prefix_more a l m h = (h.0 ++ m, sym (append_assoc a h.0 m) ∙ ap (λ (z : List A). z ++ m) h.1)

  pub prefix_length : (a l : List A) → IsPrefix a l → length a ≤ length l
  prefix_length a l h = omega (arith, length-append a h.0, ap length h.1)

  abbrev tail : List A → List A
  tail [] = []
  tail (x ∷ xs) = xs

  abbrev head : A → List A → A
  head d [] = d
  head d (x ∷ xs) = x

  -- of two that begin one list, the shorter begins the longer
  pub prefix_order : (a b l : List A) → IsPrefix a l → IsPrefix b l → length a ≤ length b → IsPrefix a b
  prefix_order [] b l h k le = (b, refl)
  prefix_order (x ∷ a) [] l h k le = absurd (omega arith)
  prefix_order (x ∷ a) (y ∷ b) l h k le = let e : x ≡ y = ap (head x) (h.1 ∙ sym k.1) in let t = prefix_order a b (tail l) (h.0, ap tail h.1) (k.0, ap tail k.1) (omega arith) in (t.0, λ i. e i ∷ t.1 i)

  pub prefix_all : (P : A → Type 0) (a l : List A) → IsPrefix a l → All P l → All P a
  prefix_all P [] l h all = All-nil P
  prefix_all P (x ∷ a) [] h all = absurd (omega (arith, prefix_length (x ∷ a) [] h))
  prefix_all P (x ∷ a) (y ∷ l) h all = let e : y ≡ x = ap (head x) (sym h.1) in All-cons P x a (subst P e (All-head P y l all)) (prefix_all P a l (h.0, ap tail h.1) (All-tail P y l all))
