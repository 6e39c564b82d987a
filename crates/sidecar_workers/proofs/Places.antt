-- Lists by their places, and sums of a number for each element.
use Rattle.std.proofs.Common.{◌≡◌, ℕ, zero, suc, ◌+◌, ◌<◌, ◌≤◌, List, [], ◌∷◌, length, set, sum_by, sym, ap, ◌∙◌, arith}
use Rattle.std.proofs.lemmas.List.Sums.{sum_by-cons}
use mathlib.Core.Option.{some, some-injective, some-ne-none}
use lib.ListN.{get_elem?}

module _ {A : Type 0} where
  pub in_range : (l : List A) (i : ℕ) (a : A) → get_elem? l i ≡ some a → i < length l
  in_range [] i a e = absurd (some-ne-none a (sym e))
  in_range (x ∷ xs) zero a e = omega arith
  in_range (x ∷ xs) (suc i) a e = omega (arith, in_range xs i a e)

  pub one_place : (l : List A) (i : ℕ) (a b : A) → get_elem? l i ≡ some a → get_elem? l i ≡ some b → a ≡ b
  one_place l i a b p q = some-injective a b (sym p ∙ q)

  pub sum_at : (f : A → ℕ) (l : List A) (i : ℕ) (a : A) → get_elem? l i ≡ some a → f a ≤ sum_by f l
  sum_at f [] i a e = absurd (some-ne-none a (sym e))
  sum_at f (x ∷ xs) zero a e = let same : f x ≡ f a = ap f (some-injective x a e) in omega (arith, sum_by-cons f x xs)
  sum_at f (x ∷ xs) (suc i) a e = omega (arith, sum_by-cons f x xs, sum_at f xs i a e)

  -- a sum after one element was changed
  pub sum_set : (f : A → ℕ) (l : List A) (i : ℕ) (a b : A) → get_elem? l i ≡ some a → sum_by f (set l i b) + f a ≡ sum_by f l + f b
  sum_set f [] i a b e = absurd (some-ne-none a (sym e))
  sum_set f (x ∷ xs) zero a b e = let same : f x ≡ f a = ap f (some-injective x a e) in omega (arith, sum_by-cons f x xs, sum_by-cons f b xs)
  sum_set f (x ∷ xs) (suc i) a b e = omega (arith, sum_by-cons f x xs, sum_by-cons f x (set xs i b), sum_set f xs i a b e)

  -- where the first element makes up the whole sum, no other counts
  pub only_first : (f : A → ℕ) (l : List A) (a b : A) (j : ℕ) → get_elem? l 0 ≡ some a → f a ≡ 1 → sum_by f l ≡ 1 → get_elem? l j ≡ some b → f b ≡ 1 → j ≡ 0
  only_first f [] a b j p one all q two = absurd (some-ne-none a (sym p))
  only_first f (x ∷ xs) a b zero p one all q two = ap (λ (n : ℕ). n) (omega arith)
  only_first f (x ∷ xs) a b (suc j) p one all q two = let same : f x ≡ f a = ap f (some-injective x a p) in absurd (omega (arith, sum_by-cons f x xs, sum_at f xs j b q))
