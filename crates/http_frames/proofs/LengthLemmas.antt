-- What a value that is a length is.
use Rattle.std.proofs.Common.{◌≡◌, ℕ, ◌+◌, ◌*◌, ◌-◌, ◌^◌, ◌<◌, ◌≤◌, Bool, true, false, not, cond, ◌&&◌, subst, zero, suc, List, [], ◌∷◌, length, get_or, drop, refl, sym, ap, ◌∙◌, arith, pow-add}
use Rattle.std.proofs.Math.Nat.{pow-le-pow_right}
use Rattle.std.proofs.lemmas.Bool.{and_parts, or_parts, ltb-true, leb-true}
use Rattle.std.proofs.lemmas.Bool.Decides.{nat_tests}
use Rattle.std.specs.List.{list_all, list_any}
use Rattle.std.specs.Char.{is_ascii_digit, digit_value}
use Rattle.std.specs.Prelude.{codes}
use Rattle.side_base.specs.declared.message.Field.{Field}
use Rattle.http_frames.specs.HeadRules.{is_length, is_bad_length, is_named, any_value, content_length}
use Rattle.std.specs.Str.Parse.{digits_value}
use Rattle.std.proofs.lemmas.List.{at_drop_more}

pub record IsDigits (value : List ℕ) : Type 0 where
  pub some : 0 < length value
  pub short : length value ≤ 18
  pub digits : (i : ℕ) → i < length value → is_ascii_digit (get_or value i 0) ≡ true

list_all-at : {X : Type 0} (p : X → Bool) (xs : List X) (i : ℕ) (d : X) → list_all p xs ≡ true → i < length xs → p (get_or xs i d) ≡ true
list_all-at p [] i d e h = absurd (omega arith)
list_all-at p (x ∷ xs) zero d e h = (and_parts _ _ e).0
list_all-at p (x ∷ xs) (suc i) d e h = list_all-at p xs i d (and_parts _ _ e).1 (omega arith)

pub length_digits : (value : List ℕ) → is_length value ≡ true → IsDigits value
unfolding is_length
length_digits value e =
    let first = and_parts _ _ e in
    let second = and_parts _ _ first.1 in record {
      some = ltb-true _ _ first.0;
      short = leb-true _ _ second.0;
      digits = λ i. list_all-at is_ascii_digit value i 0 second.1;
    }

-- a digit's byte, and its value
pub digit_is : (byte : ℕ) → is_ascii_digit byte ≡ true → (48 ≤ byte) × (byte ≤ 57) × (digit_value byte ≡ byte - 48)
digit_is byte e = (grind (arith, nat_tests), grind (arith, nat_tests), grind (arith, nat_tests))

pub digit_more : (number digit i : ℕ) → number < 10 ^ i → digit < 10 → number * 10 + digit < 10 ^ (i + 1)
digit_more number digit i below small = omega (arith, pow-add 10 i 1)

pub below_top : (i : ℕ) → i < 18 → 10 ^ (i + 1) ≤ 10 ^ 18
below_top i h = pow-le-pow_right {n = 10} (omega arith) {j = 18} (omega arith)

list_any-at : {X : Type 0} (p : X → Bool) (xs : List X) (i : ℕ) (d : X) → list_any p xs ≡ false → i < length xs → p (get_or xs i d) ≡ false
list_any-at p [] i d e h = absurd (omega arith)
list_any-at p (x ∷ xs) zero d e h = (or_parts _ _ e).0
list_any-at p (x ∷ xs) (suc i) d e h = list_any-at p xs i d (or_parts _ _ e).1 (omega arith)

not_false : (b : Bool) → not b ≡ false → b ≡ true
not_false true e = refl
not_false false e = absurd (cc)

-- where the lengths are in order, a field of that name has one
pub length_at : (fields : List Field) (i : ℕ) (field : Field) → is_bad_length fields ≡ false → i < length fields
    → field ≡ get_or fields i field → is_named (codes "content-length") field ≡ true → is_length field.value ≡ true
unfolding is_bad_length any_value
length_at fields i field good inside same named =
    let none = list_any-at _ fields i field (or_parts _ _ good).1 inside in
    let P : Field → Type 0 = λ f. (is_named (codes "content-length") f && not (is_length f.value)) ≡ false in
    let here = subst P (sym same) none in
    not_false _ (rw named at here)

-- what is left of the fields tells the length as all of them do, where the first of them is no length
pub content_length_more : (fields : List Field) (i : ℕ) (field : Field) → i < length fields → field ≡ get_or fields i field
    → content_length (drop i fields)
    ≡ cond (is_named (codes "content-length") field) (digits_value 10 field.value) (content_length (drop (i + 1) fields))
unfolding content_length
content_length_more fields i field inside same =
    at_drop_more content_length fields i field inside
    ∙ ap (λ (f : Field). cond (is_named (codes "content-length") f) (digits_value 10 f.value) (content_length (drop (i + 1) fields))) (sym same)
