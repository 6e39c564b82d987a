-- What the fields of a head say, found field by field from the last one on.
use Rattle.std.proofs.Common.{◌≡◌, ℕ, ◌+◌, ◌-◌, ◌<◌, ◌≤◌, Bool, true, false, not, cond, ◌&&◌, ◌||◌, List, [], ◌∷◌, length, drop, get_or, Option, Some, None, refl, sym, ap, ◌∙◌, subst, arith, nat_lt, length-drop}
use Rattle.std.specs.Prelude.{codes, ◌==◌}
use Rattle.std.specs.Str.Parse.{digits_value}
use Rattle.std.proofs.lemmas.Bool.{or_parts}
use Rattle.std.proofs.lemmas.List.{drop_more}
use Rattle.std.proofs.lemmas.List.Sums.{count_by-le-length, sum_by-cons}
use Rattle.side_base.specs.declared.message.Field.{Field}
use Rattle.side_base.specs.Field.{is_same_word}
use Rattle.http_chunks.specs.Chunked.{BODY_LIMIT}
use Rattle.http_frames.specs.declared.refusal.FrameErr.{FrameErr}
use Rattle.http_frames.specs.declared.refusal.FrameErr.TheVariants.{TooManyHeaders, BadHost, BothLengths, TransferCoding, BadLength, Coding, TooLong}
use Rattle.http_frames.specs.declared.rules.Said.{Said}
use Rattle.http_frames.specs.HeadRules.{FIELD_LIMIT, is_named, count_named, any_value, is_length, is_chunked, is_bad_host, is_bad_coding, is_bad_length, is_encoded, content_length, fields_refusal, asks_to_continue}
use Rattle.http_frames.specs.Said.{IsSaid, IsMore, broken, asks}

-- one field more

count_more : (name : List ℕ) (field : Field) (fields : List Field) (old new : ℕ) → old ≡ count_named name fields
    → new ≡ cond (is_named name field) (old + 1) old → new ≡ count_named name (field ∷ fields)
unfolding count_named
count_more name field fields old new was is =
    is ∙ ap (λ n. cond (is_named name field) (n + 1) n) was ∙ counted (is_named name field) (count_named name fields)
    ∙ sym (sum_by-cons (λ (f : Field). cond (is_named name f) 1 0) field fields)
  where
    counted : (b : Bool) (n : ℕ) → cond b (n + 1) n ≡ cond b 1 0 + n
    counted true n = omega arith
    counted false n = omega arith

any_more : (test : List ℕ → Bool) (name : List ℕ) (field : Field) (fields : List Field) (old new : Bool) → old ≡ any_value test name fields
    → new ≡ (is_named name field && test field.value || old) → new ≡ any_value test name (field ∷ fields)
unfolding any_value
any_more test name field fields old new was is = is ∙ ap (λ b. (is_named name field && test field.value) || b) was

number_more : (field : Field) (fields : List Field) (old new : ℕ) (other : Bool)
    → (other ≡ false → old ≡ content_length fields)
    → (is_named (codes "content-length") field ≡ false → new ≡ old)
    → (is_named (codes "content-length") field ≡ true → is_length field.value ≡ true → new ≡ digits_value 10 field.value)
    → (is_named (codes "content-length") field && not (is_length field.value) || other) ≡ false → new ≡ content_length (field ∷ fields)
unfolding content_length
number_more field fields old new other was past here good =
    by_name (is_named (codes "content-length") field) (is_length field.value) past here good
  where
    by_name : (named fits : Bool) → (named ≡ false → new ≡ old) → (named ≡ true → fits ≡ true → new ≡ digits_value 10 field.value)
        → (named && not fits || other) ≡ false → new ≡ cond named (digits_value 10 field.value) (content_length fields)
    by_name true true past here good = here refl refl
    by_name true false past here good = absurd (cc)
    by_name false fits past here good = past refl ∙ was good

pub said_more : (field : Field) (fields : List Field) (old new : Said) → IsSaid fields old → IsMore field old new → IsSaid (field ∷ fields) new
said_more field fields old new was is = record {
  hosts = count_more _ field fields old.hosts new.hosts was.hosts is.hosts;
  lengths = count_more _ field fields old.lengths new.lengths was.lengths is.lengths;
  codings = count_more _ field fields old.codings new.codings was.codings is.codings;
  other_length = any_more _ _ field fields old.other_length new.other_length was.other_length is.other_length;
  other_coding = any_more _ _ field fields old.other_coding new.other_coding was.other_coding is.other_coding;
  encoded = any_more _ _ field fields old.encoded new.encoded was.encoded is.encoded;
  expects = any_more _ _ field fields old.expects new.expects was.expects is.expects;
  length = λ good. number_more field fields old.length new.length old.other_length was.length is.other is.number (sym is.other_length ∙ good);
}

-- one field more of a list, at its place
pub said_at : (fields : List Field) (i : ℕ) (field : Field) (old new : Said) → i < length fields → field ≡ get_or fields i field
    → IsSaid (drop (i + 1) fields) old → IsMore field old new → IsSaid (drop i fields) new
said_at fields i field old new inside same was is =
    subst (λ (fs : List Field). IsSaid fs new) (sym (drop_more fields i field inside ∙ ap (λ z. z ∷ drop (i + 1) fields) (sym same))) (said_more field (drop (i + 1) fields) old new was is)

pub said_before : (fields : List Field) (i : ℕ) (field : Field) (old new : Said) → 0 < i → i ≤ length fields → field ≡ get_or fields (i - 1) field
    → IsSaid (drop i fields) old → IsMore field old new → IsSaid (drop (i - 1) fields) new
said_before fields i field old new some within same was is =
    let P : ℕ → Type 0 = λ n. IsSaid (drop n fields) old in
    let place : i ≡ i - 1 + 1 = omega arith in
    said_at fields (i - 1) field old new (omega arith) same (subst P place was) is

pub said_nothing : IsSaid [] (record {
  hosts = 0;
  lengths = 0;
  codings = 0;
  other_length = false;
  other_coding = false;
  encoded = false;
  expects = false;
  length = 0;
})
unfolding count_named any_value content_length
said_nothing = record {
  hosts = refl;
  lengths = refl;
  codings = refl;
  other_length = refl;
  other_coding = refl;
  encoded = refl;
  expects = refl;
  length = λ good. refl;
}

-- no more fields have a name than there are
pub said_few : (fields : List Field) (said : Said) → IsSaid fields said
    → (said.hosts ≤ length fields) × (said.lengths ≤ length fields) × (said.codings ≤ length fields)
unfolding count_named
said_few fields said is = (
  omega (arith, is.hosts, count_by-le-length (is_named (codes "host")) fields),
  omega (arith, is.lengths, count_by-le-length (is_named (codes "content-length")) fields),
  omega (arith, is.codings, count_by-le-length (is_named (codes "transfer-encoding")) fields),
)

-- there is room for one more
pub said_room : (fields : List Field) (i : ℕ) (said : Said) (n : ℕ) → 0 < i → i ≤ length fields → length fields ≡ n → n < 18446744073709551616
    → IsSaid (drop i fields) said
    → (said.hosts + 1 < 18446744073709551616) × (said.lengths + 1 < 18446744073709551616) × (said.codings + 1 < 18446744073709551616)
said_room fields i said n some within is small was =
    let few = said_few (drop i fields) said was in (
      omega (arith, few.0, length-drop i fields),
      omega (arith, few.1, length-drop i fields),
      omega (arith, few.2, length-drop i fields),
    )

-- what is told of all fields

pub chunked_same : (fields : List Field) (said : Said) → IsSaid fields said → nat_lt 0 said.codings ≡ is_chunked fields
unfolding is_chunked
chunked_same fields said is = ap (nat_lt 0) is.codings

good_other : (fields : List Field) (said : Said) → IsSaid fields said → is_bad_length fields ≡ false → said.other_length ≡ false
unfolding is_bad_length
good_other fields said is good = is.other_length ∙ (or_parts _ _ good).1

pub length_same : (fields : List Field) (said : Said) → IsSaid fields said → is_bad_length fields ≡ false → said.length ≡ content_length fields
length_same fields said is good = is.length (good_other fields said is good)

pub asks_same : (minor : ℕ) (fields : List Field) (said : Said) → IsSaid fields said → is_bad_length fields ≡ false
    → asks minor said ≡ asks_to_continue minor fields
unfolding asks asks_to_continue
asks_same minor fields said is good =
    ap (λ b. minor == 1 && (b && (nat_lt 0 said.codings || nat_lt 0 said.length))) is.expects
    ∙ ap (λ b. minor == 1 && (any_value (λ value. is_same_word value (codes "100-continue")) (codes "expect") fields && (b || nat_lt 0 said.length))) (chunked_same fields said is)
    ∙ ap (λ n. minor == 1 && (any_value (λ value. is_same_word value (codes "100-continue")) (codes "expect") fields && (is_chunked fields || nat_lt 0 n))) (length_same fields said is good)

-- the rules, as a function of what they test
abbrev rows : Bool → Bool → Bool → Bool → Bool → Bool → Bool → Option FrameErr
rows many host both coding bad encoded long = cond many (Some TooManyHeaders) (cond host (Some BadHost) (cond both (Some BothLengths)
    (cond coding (Some TransferCoding) (cond bad (Some BadLength) (cond encoded (Some Coding) (cond long (Some TooLong) None))))))

-- where a length is refused, its number does not count
rows_same : (many host both coding bad encoded one other : Bool) → (bad ≡ false → one ≡ other)
    → rows many host both coding bad encoded one ≡ rows many host both coding bad encoded other
rows_same many host both coding true encoded one other same = refl
rows_same many host both coding false encoded one other same = ap (rows many host both coding false encoded) (same refl)

pub broken_same : (minor : ℕ) (fields : List Field) (said : Said) → IsSaid fields said → broken minor (length fields) said ≡ fields_refusal minor fields
unfolding broken fields_refusal is_bad_host is_chunked is_bad_coding is_bad_length is_encoded
broken_same minor fields said is =
    (λ i. rows (nat_lt FIELD_LIMIT (length fields)) (minor == 1 && not (is.hosts i == 1)) (nat_lt 0 (is.lengths i) && nat_lt 0 (is.codings i))
    (nat_lt 0 (is.codings i) && (minor == 0 || not (is.codings i == 1) || is.other_coding i)) (nat_lt 1 (is.lengths i) || is.other_length i)
    (is.encoded i) (nat_lt BODY_LIMIT said.length))
    ∙ rows_same _ _ _ _ (is_bad_length fields) _ _ _ (λ good. ap (nat_lt BODY_LIMIT) (length_same fields said is good))
