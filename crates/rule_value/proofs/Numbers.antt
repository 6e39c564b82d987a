-- Numbers that are read digit by digit, and cut off where they leave 64 bits.
use Rattle.std.proofs.Common.{◌≡◌, ◌∙◌, ap, sym, ℕ, min, ◌+◌, ◌-◌, ◌*◌, ◌^◌, ◌≤◌, Bool, true, false, cond, ◌&&◌, List, ◌∷◌, Some, None, arith, inl, inr}
use Rattle.std.specs.List.{list_all}
use Rattle.std.specs.Char.{is_ascii_digit, digit_value}
use Rattle.std.specs.Str.Parse.{digits_value_after}
use Rattle.std.proofs.lemmas.Bool.{cases_lt}
use Rattle.rule_value.specs.Wholes.{whole, is_within, if_within, digits_after}

over : (below : Bool) (n : ℕ) → 2 ^ 64 - 1 ≤ n → is_within below n ≡ false
over true n h = grind arith
over false n h = grind arith

none_over : (below : Bool) (n : ℕ) → 2 ^ 64 - 1 ≤ n → if_within below n ≡ None
none_over below n h = ap (λ b. cond b (Some (whole below n)) None) (over below n h)

pub capped : (below : Bool) (n size : ℕ) → size ≡ min n (2 ^ 64 - 1) → if_within below size ≡ if_within below n
capped below n size is = elim (cases_lt (2 ^ 64 - 1) n) [
  | inl more ↦ (none_over below size (omega arith) ∙ sym (none_over below n (omega arith)))
  | inr less ↦ ap (if_within below) (omega (arith, is))
]

pub digit_on : (below : Bool) (n digit : ℕ) (digits : List ℕ) → is_ascii_digit digit ≡ true → digits_after below n (digit ∷ digits) ≡ digits_after below (n * 10 + digit_value digit) digits
digit_on below n digit digits is = ap (λ b. cond (b && list_all is_ascii_digit digits) (if_within below (digits_value_after 10 n (digit ∷ digits))) None) is

pub no_digit : (below : Bool) (n digit : ℕ) (digits : List ℕ) → is_ascii_digit digit ≡ false → digits_after below n (digit ∷ digits) ≡ None
no_digit below n digit digits is = ap (λ b. cond (b && list_all is_ascii_digit digits) (if_within below (digits_value_after 10 n (digit ∷ digits))) None) is
