-- Digits at the beginning of a text, and the number that they write where it is cut off.
use Rattle.std.proofs.Common.{◌≡◌, ◌<◌, ◌≤◌, ◌+◌, ◌-◌, ◌*◌, inl, inr, ℕ, min, cond, List, [], ◌∷◌, Bool, true, false, arith, refl}
use Rattle.std.proofs.Math.Nat.{le-mul_of_pos_right, mul-le-mul_right}
use Rattle.std.proofs.lemmas.Bool.{cases_lt}
use Rattle.std.proofs.lemmas.Bool.Decides.{nat_tests}
use Rattle.std.proofs.lemmas.List.Sums.{take_while-cons}
use Rattle.std.specs.Char.{digit_value, is_ascii_digit}
use Rattle.std.specs.Int.{IsInRange}
use Rattle.std.specs.Str.Parse.{AllDigits}
use Rattle.side_base.specs.Decimal.{digits_at}

-- a digit's value
pub digit_value-of_digit : (c : ℕ) → is_ascii_digit c ≡ true → digit_value c < 10
digit_value-of_digit c h = grind (arith, nat_tests)

AllDigits-cond : (c : ℕ) (ds : List ℕ) (b : Bool) → is_ascii_digit c ≡ b → AllDigits 10 ds → AllDigits 10 (cond b (c ∷ ds) [])
AllDigits-cond c ds true is rest = (digit_value-of_digit c is, rest)
AllDigits-cond c ds false is rest = tt

pub AllDigits-digits_at : (text : List ℕ) → AllDigits 10 (digits_at text)
AllDigits-digits_at [] = tt
AllDigits-digits_at (c ∷ cs) =
    rw (take_while-cons is_ascii_digit c cs)
    (AllDigits-cond c (digits_at cs) (is_ascii_digit c) refl (AllDigits-digits_at cs))

pub digit_value-is : (c : ℕ) → IsInRange 48 57 c → digit_value c ≡ c - 48
digit_value-is c h = grind (arith, nat_tests)

-- a product and a sum that are cut off after each step are the whole one, cut off once
pub min-mul : (n k limit : ℕ) → 1 ≤ k → min (min n limit * k) limit ≡ min (n * k) limit
min-mul n k limit h = elim (cases_lt limit n) [
  | inl over ↦
      (let cut : min n limit ≡ limit = omega arith in
      rw cut (omega (arith, le-mul_of_pos_right limit h, mul-le-mul_right k (let at : limit ≤ n = omega arith in at))))
  | inr under ↦ (let whole : min n limit ≡ n = omega arith in rw whole refl)
]

pub min-add : (a b limit : ℕ) → min (min a limit + b) limit ≡ min (a + b) limit
min-add a b limit = omega arith

pub min-mul-add : (n k d limit : ℕ) → 1 ≤ k → min (min (min n limit * k) limit + d) limit ≡ min (n * k + d) limit
min-mul-add n k d limit h = rw (min-mul n k limit h) (min-add (n * k) d limit)
