-- How many entries a put and a removal leave, and what that makes of two sides.
use Rattle.std.proofs.Common.{◌≡◌, ◌+◌, ◌≤◌, ℕ, Bool, true, false, cond, not, List, [], ◌∷◌, ◌++◌, length, is_some, ap, arith, length-append}
use Rattle.std.specs.Ordering.{eq_by_cmp}
use Rattle.std.specs.FinMap.{find, put, is_sorted}
use Rattle.std.specs.FinMap.Entries.{length-put, length_without}
use Rattle.ledger_core.specs.Place.{place_order}
use Rattle.ledger_core.specs.Row.{Row, Entry}
use Rattle.ledger_core.specs.Tree.{without, AreAlike, AreNearlyAlike}
use Rattle.ledger_core.specs.Books.{put_all}
use Rattle.ledger_core.proofs.Sorted.{Key, total, holds, sorted_put}

-- as many, or one more
pub record IsOneMoreAtMost (less more : ℕ) : Type 0 where
  pub least : less ≤ more
  pub most : more ≤ less + 1

at_most_one : (b : Bool) (n m : ℕ) → m ≡ cond b n (n + 1) → IsOneMoreAtMost n m
at_most_one true n m e = record { least = omega (arith, e); most = omega (arith, e) }
at_most_one false n m e = record { least = omega (arith, e); most = omega (arith, e) }

pub put_size : (es : List Entry) (k : Key) (row : Row) → is_sorted place_order es ≡ true → IsOneMoreAtMost (length es) (length (put place_order k row es))
put_size es k row sorted = at_most_one (is_some (find place_order k es)) (length es) _ (length-put place_order total k row es (holds _ sorted))

one_less : (b : Bool) (n m : ℕ) → cond b 1 0 + m ≡ n → IsOneMoreAtMost m n
one_less true n m e = record { least = omega (arith, e); most = omega (arith, e) }
one_less false n m e = record { least = omega (arith, e); most = omega (arith, e) }

pub without_size : (es : List Entry) (k : Key) → is_sorted place_order es ≡ true → IsOneMoreAtMost (length (without k es)) (length es)
without_size es k sorted = one_less (is_some (find place_order k es)) (length es) _ (length_without place_order total k es (holds _ sorted))

-- the same of any list, but for how many go
pub without_fewer : (es : List Entry) (k : Key) → length (without k es) ≤ length es
without_fewer [] k = omega arith
without_fewer (x ∷ xs) k =
    let rest = without_fewer xs k in
    elim (eq_by_cmp place_order k x.0) as (λ b. length (cond (not b) (x ∷ without k xs) (without k xs)) ≤ length (x ∷ xs)) [
      | true ↦ omega (arith, rest)
      | false ↦ omega (arith, rest)
    ]

pub put_all_size : (xs es : List Entry) → is_sorted place_order es ≡ true → length (put_all xs es) ≤ length es + length xs
put_all_size [] es sorted = omega arith
put_all_size (x ∷ xs) es sorted =
    let one = (put_size es x.0 x.1 sorted).most in
    let rest = put_all_size xs (put place_order x.0 x.1 es) (sorted_put es x.0 x.1 sorted) in
    omega (arith, one, rest)

-- ---- two sides, of which one changed by a row at most

pub left_more : (l l' r : ℕ) → AreAlike l r → IsOneMoreAtMost l l' → AreNearlyAlike l' r
left_more l l' r alike one = let a = alike.left_most in let b = alike.right_most in let m = one.most in let n = one.least in record { left_most = omega (arith, a, m); right_most = omega (arith, b, n) }

pub right_more : (l r r' : ℕ) → AreAlike l r → IsOneMoreAtMost r r' → AreNearlyAlike l r'
right_more l r r' alike one = let a = alike.left_most in let b = alike.right_most in let m = one.most in let n = one.least in record { left_most = omega (arith, a, n); right_most = omega (arith, b, m) }

pub left_less : (l l' r : ℕ) → AreAlike l r → IsOneMoreAtMost l' l → AreNearlyAlike l' r
left_less l l' r alike one = let a = alike.left_most in let b = alike.right_most in let m = one.most in let n = one.least in record { left_most = omega (arith, a, n); right_most = omega (arith, b, m) }

pub right_less : (l r r' : ℕ) → AreAlike l r → IsOneMoreAtMost r' r → AreNearlyAlike l r'
right_less l r r' alike one = let a = alike.left_most in let b = alike.right_most in let m = one.most in let n = one.least in record { left_most = omega (arith, a, m); right_most = omega (arith, b, n) }

-- ---- what a further row asks of the room

pub sides_size : (d l : List Entry) (x : Entry) (r : List Entry) → d ≡ l ++ x ∷ r → length l + length r + 1 ≡ length d
sides_size d l x r is = omega (arith, length-append l (x ∷ r), ap length is)
