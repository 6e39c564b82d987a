-- Steps of loops over the bytes of a word.
use Rattle.std.proofs.Common.{◌≡◌, ℕ, zero, suc, ◌+◌, ◌<◌, ◌≤◌, Bool, true, false, ◌&&◌, ◌==◌, not, List, [], ◌∷◌, ◌++◌, length, take, drop, refl, sym, ap, ◌∙◌, arith, Option, Some, None}
use Rattle.std.specs.Prelude.{if◌then◌else◌, IfSome}
use Rattle.yaml_lines.specs.Blank.{is_white}
use Rattle.yaml_lines.specs.declared.found.Found.{Found}
use Rattle.yaml_lines.specs.declared.found.Found.TheVariants.{Here as here, Past as past, Nowhere as nowhere, Later as later}
use Rattle.yaml_lines.specs.Found.{place_by, shifted, found_at}
use Rattle.yaml_lines.specs.Plain.{before_white, trimmed, comment_found, comment_place, ends_name, colon_found, colon_place}
use Rattle.yaml_lines.specs.Quoted.{quote_found, paired_after, len_at_end, quoted_len}

pub drop_next : (n : ℕ) (xs : List ℕ) (y : ℕ) (ys : List ℕ) → drop n xs ≡ y ∷ ys → drop (suc n) xs ≡ ys
drop_next zero [] y ys e = cc
drop_next zero (x ∷ xs) y ys e = cc
drop_next (suc n) [] y ys e = cc
drop_next (suc n) (x ∷ xs) y ys e = drop_next n xs y ys e

pub take_next : (n : ℕ) (xs : List ℕ) (y : ℕ) (ys : List ℕ) → drop n xs ≡ y ∷ ys → take (suc n) xs ≡ take n xs ++ (y ∷ [])
take_next zero [] y ys e = cc
take_next zero (x ∷ xs) y ys e = let h : x ≡ y = cc in ap (λ z. z ∷ []) h
take_next (suc n) [] y ys e = cc
take_next (suc n) (x ∷ xs) y ys e = ap (λ l. x ∷ l) (take_next n xs y ys e)

pub trimmed_white : (front : List ℕ) (last : ℕ) → is_white last ≡ true → trimmed (front ++ (last ∷ [])) ≡ trimmed front
unfolding trimmed
trimmed_white [] last w = rw w
trimmed_white (byte ∷ front) last w = ap (before_white byte) (trimmed_white front last w)

pub trimmed_other : (front : List ℕ) (last : ℕ) → is_white last ≡ false → trimmed (front ++ (last ∷ [])) ≡ front ++ (last ∷ [])
unfolding trimmed
trimmed_other [] last w = rw w
trimmed_other (byte ∷ front) last w = ap (before_white byte) (trimmed_other front last w) ∙ whole front
  where
    whole : (front : List ℕ) → before_white byte (front ++ (last ∷ [])) ≡ byte ∷ (front ++ (last ∷ []))
    whole [] = refl
    whole (other ∷ front) = refl

-- the bytes that a loop has still to look at
pub record Left (bytes : List ℕ) (at : ℕ) (left : List ℕ) : Type 0 where
  pub place : left ≡ drop at bytes
  pub inside : at + length left ≡ length bytes

pub left_all : (bytes : List ℕ) → Left bytes 0 bytes
left_all bytes = record { place = refl; inside = omega arith }

pub left_on : (bytes : List ℕ) (at : ℕ) (left : List ℕ) (byte : ℕ) (others : List ℕ) → Left bytes at left → left ≡ byte ∷ others → Left bytes (at + 1) others
left_on bytes at left byte others l e = record {
  place = sym (drop_next at bytes byte others (sym l.place ∙ e)) ∙ ap (λ n. drop n bytes) next;
  inside = omega (arith, l.inside, ap length e);
}
  where
    next : suc at ≡ at + 1
    next = omega arith

pub shifted_zero : (o : Option ℕ) → shifted 0 o ≡ o
shifted_zero None = refl
shifted_zero (Some place) = let e : 0 + place ≡ place = omega arith in ap (λ n. Some n) e

some_same : (a b : ℕ) → a ≡ b → Some a ≡ Some b
some_same a b e = ap (λ n. Some n) e

pub shifted_by : (at : ℕ) (f : Found) (others : Option ℕ) → shifted at (place_by f others) ≡ found_at at f others
shifted_by at here others = some_same (at + 0) at (omega arith)
shifted_by at past others = refl
shifted_by at nowhere others = refl
shifted_by at later None = refl
shifted_by at later (Some place) = some_same (at + suc place) (at + 1 + place) (omega arith)

-- a place that is told is none of the later ones
pub told : (at : ℕ) (f : Found) (others : Option ℕ) → (f ≡ later → ⊥) → found_at at f others ≡ found_at at f None
told at here others n = refl
told at past others n = refl
told at nowhere others n = refl
told at later others n = absurd (n refl)

pub no_bytes : (left : List ℕ) → length left ≡ 0 → left ≡ []
no_bytes [] e = refl
no_bytes (byte ∷ left) e = absurd (omega (arith, e))

pub comment_step : (after : Bool) (at byte : ℕ) (others left : List ℕ) (f : Found) → left ≡ byte ∷ others → f ≡ comment_found after byte → shifted at (comment_place after left) ≡ found_at at f (comment_place (byte == 32) others)
unfolding comment_place
comment_step after at byte others left f e v = ap (λ l. shifted at (comment_place after l)) e ∙ shifted_by at (comment_found after byte) (comment_place (byte == 32) others) ∙ ap (λ x. found_at at x (comment_place (byte == 32) others)) (sym v)

pub comment_end : (after : Bool) (at : ℕ) (left : List ℕ) → length left ≡ 0 → shifted at (comment_place after left) ≡ None
unfolding comment_place
comment_end after at left e = ap (λ l. shifted at (comment_place after l)) (no_bytes left e)

pub colon_step : (after : Bool) (at byte : ℕ) (others left : List ℕ) (f : Found) → left ≡ byte ∷ others → f ≡ colon_found after byte others → shifted at (colon_place after left) ≡ found_at at f (colon_place (byte == 32) others)
unfolding colon_place
colon_step after at byte others left f e v = ap (λ l. shifted at (colon_place after l)) e ∙ shifted_by at (colon_found after byte others) (colon_place (byte == 32) others) ∙ ap (λ x. found_at at x (colon_place (byte == 32) others)) (sym v)

pub colon_end : (after : Bool) (at : ℕ) (left : List ℕ) → length left ≡ 0 → shifted at (colon_place after left) ≡ None
unfolding colon_place
colon_end after at left e = ap (λ l. shifted at (colon_place after l)) (no_bytes left e)

pub quote_step : (double paired next : Bool) (at byte : ℕ) (others left : List ℕ) (f : Found) → left ≡ byte ∷ others → f ≡ quote_found double paired byte → next ≡ paired_after double paired byte → shifted at (quoted_len double paired left) ≡ found_at at f (quoted_len double next others)
unfolding quoted_len
quote_step double paired next at byte others left f e v p = ap (λ l. shifted at (quoted_len double paired l)) e ∙ shifted_by at (quote_found double paired byte) (quoted_len double (paired_after double paired byte) others) ∙ ap (λ x. found_at at x (quoted_len double (paired_after double paired byte) others)) (sym v) ∙ ap (λ x. found_at at f (quoted_len double x others)) (sym p)

pub quote_end : (double paired : Bool) (at : ℕ) (left : List ℕ) → length left ≡ 0 → shifted at (quoted_len double paired left) ≡ shifted at (len_at_end double paired)
unfolding quoted_len
quote_end double paired at left e = ap (λ l. shifted at (quoted_len double paired l)) (no_bytes left e)

pub trimmed_none : trimmed [] ≡ []
unfolding trimmed
trimmed_none = refl

pub comment_here : (after : Bool) (byte : ℕ) (f : Found) → f ≡ comment_found after byte → (f ≡ later → ⊥) → f ≡ here
comment_here after byte f e n = by_test (after && byte == 35) e
  where
    by_test : (b : Bool) → f ≡ (if b then here else later) → f ≡ here
    by_test true e = e
    by_test false e = absurd (n e)

pub colon_inside : (after : Bool) (bytes : List ℕ) → IfSome (colon_place after bytes) (λ place. place < length bytes)
unfolding colon_place
colon_inside after [] = tt
colon_inside after (byte ∷ bytes) = by_tests (byte == 58 && ends_name bytes) (after && byte == 35) (colon_place (byte == 32) bytes) (colon_inside (byte == 32) bytes)
  where
    by_tests : (b d : Bool) (o : Option ℕ) → IfSome o (λ place. place < length bytes) → IfSome (place_by (if b then here else if d then nowhere else later) o) (λ place. place < length (byte ∷ bytes))
    by_tests true d o i = omega arith
    by_tests false true o i = tt
    by_tests false false None i = tt
    by_tests false false (Some place) i = omega (arith, i)

pub quote_inside : (double paired : Bool) (bytes : List ℕ) → IfSome (quoted_len double paired bytes) (λ count. count ≤ length bytes)
unfolding quoted_len
quote_inside double paired [] = by_test (paired && not double)
  where
    by_test : (b : Bool) → IfSome (if b then Some 0 else None) (λ count. count ≤ 0)
    by_test true = omega arith
    by_test false = tt
quote_inside double paired (byte ∷ bytes) = by_tests (paired && not double && not (byte == 39)) (double && not paired && byte == 34) (quoted_len double (paired_after double paired byte) bytes) (quote_inside double (paired_after double paired byte) bytes)
  where
    by_tests : (b d : Bool) (o : Option ℕ) → IfSome o (λ count. count ≤ length bytes) → IfSome (place_by (if b then here else if d then past else later) o) (λ count. count ≤ length (byte ∷ bytes))
    by_tests true d o i = omega arith
    by_tests false true o i = omega arith
    by_tests false false None i = tt
    by_tests false false (Some count) i = omega (arith, i)
