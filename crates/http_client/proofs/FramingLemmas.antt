-- Fields by their names.
use Rattle.std.proofs.Common.{◌≡◌, ℕ, ◌-◌, ◌^◌, ◌<◌, ◌≤◌, min, Bool, true, false, cond, List, [], ◌∷◌, ◌++◌, length, map, find, Some, refl, sym, ap, ◌∙◌, subst, arith, append-nil, take, drop, take-append-drop}
use Rattle.std.specs.Prelude.{option_map}
use Rattle.std.specs.List.{filter, count_by, prefix_len}
use Rattle.http_client.proofs.AheadLemmas.{front_is}
use Rattle.std.proofs.lemmas.List.Sums.{length-filter}
use Rattle.side_base.specs.declared.message.Field.{Field}
use Rattle.side_base.specs.Field.{is_named, first_named, first_value}
use Rattle.std.specs.Char.{is_ascii_digit}
use Rattle.std.specs.Str.Parse.{AllDigits, digits_value}
use Rattle.std.proofs.lemmas.Int.Digits.{digits_value-lt}
use Rattle.std.proofs.Math.Nat.{pow-le-pow_right}
use Rattle.side_base.specs.Decimal.{digits_at, after_digits}
use Rattle.http_client.specs.Replies.{values_of, IsLength}

value_in : Field → List ℕ
value_in field = field.value

-- no field of the name
pub no_value : (name : List ℕ) (fields : List Field) → count_by (is_named name) fields ≡ 0 → values_of name fields ≡ []
unfolding values_of
no_value name fields none = of_none (filter (is_named name) fields) (length-filter (is_named name) fields ∙ none) where
  of_none : (found : List Field) → length found ≡ 0 → map (λ (field : Field). field.value) found ≡ []
  of_none [] is = refl
  of_none (field ∷ found) is = absurd (omega (arith, is))

-- the first of the name is the first that the filter finds
first_found : (name : List ℕ) (fields : List Field) (value : List ℕ) → option_map (λ (field : Field). field.value) (find (is_named name) fields) ≡ Some value
    → (rest : List Field) × (field : Field) × (filter (is_named name) fields ≡ field ∷ rest) × (field.value ≡ value)
first_found name [] value is = absurd (cc)
first_found name (field ∷ fields) value is = by (first_found name fields value) (is_named name field) is where
  by : (option_map (λ (f : Field). f.value) (find (is_named name) fields) ≡ Some value → (rest : List Field) × (other : Field) × (filter (is_named name) fields ≡ other ∷ rest) × (other.value ≡ value))
      → (b : Bool) → option_map (λ (f : Field). f.value) (cond b (Some field) (find (is_named name) fields)) ≡ Some value
      → (rest : List Field) × (other : Field) × (cond b (field ∷ filter (is_named name) fields) (filter (is_named name) fields) ≡ other ∷ rest) × (other.value ≡ value)
  by later true here = (filter (is_named name) fields, field, refl, cc)
  by later false there = later there

-- one field of the name
pub one_value : (name : List ℕ) (fields : List Field) (value : List ℕ) → count_by (is_named name) fields ≡ 1 → first_value name fields ≡ Some value → values_of name fields ≡ value ∷ []
unfolding values_of first_value first_named
one_value name fields value one is =
    let found = first_found name fields value is in
    let alone : length (found.1 ∷ found.0) ≡ 1 = sym (ap length found.2) ∙ (length-filter (is_named name) fields ∙ one) in
    ap (map (λ (field : Field). field.value)) found.2 ∙ of_one found.0 found.1 alone found.3 where
      of_one : (rest : List Field) (field : Field) → length (field ∷ rest) ≡ 1 → field.value ≡ value → map (λ (f : Field). f.value) (field ∷ rest) ≡ value ∷ []
      of_one [] field alone same = ap (λ (v : List ℕ). v ∷ []) same
      of_one (other ∷ rest) field alone same = absurd (omega (arith, alone))

-- a value that is its own digits is a length
whole_digits : (value : List ℕ) → digits_at value ++ after_digits value ≡ value
whole_digits value =
    let n = prefix_len is_ascii_digit value in
    let front : take (length (take n value)) value ≡ take n value = front_is value (take n value) (drop n value) (sym (take-append-drop n value)) in
    ap (λ (t : List ℕ). t ++ after_digits value) (sym front) ∙ take-append-drop (length (take n value)) value

nothing : (xs : List ℕ) → length xs ≡ 0 → xs ≡ []
nothing [] is = refl
nothing (x ∷ xs) is = absurd (omega (arith, is))

pub length_is : (value digits rest : List ℕ) (n : ℕ) → digits ≡ digits_at value → rest ≡ after_digits value → length rest ≡ 0 → AllDigits 10 digits
    → 0 < length digits → length digits ≤ 18 → n ≡ min (digits_value 10 digits) (2 ^ 64 - 1) → IsLength value n
length_is value digits rest n is behind empty decimal some short number =
    let none : after_digits value ≡ [] = sym behind ∙ nothing rest empty in
    let same : digits ≡ value = is ∙ (sym (append-nil (digits_at value)) ∙ (ap (λ (t : List ℕ). digits_at value ++ t) (sym none) ∙ whole_digits value)) in
    let below : digits_value 10 digits < 10 ^ 18 = omega (arith, digits_value-lt 10 digits decimal, pow-le-pow_right {n = 10} (omega arith) {j = 18} short) in
    let exact : n ≡ digits_value 10 digits = omega (arith, number, below) in record {
      some = subst (λ (v : List ℕ). 0 < length v) same some;
      short = subst (λ (v : List ℕ). length v ≤ 18) same short;
      digits = subst (AllDigits 10) same decimal;
      is = exact ∙ ap (digits_value 10) same;
    }
