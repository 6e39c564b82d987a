-- The bytes that lead from a state of a word to its end.
use Rattle.std.proofs.Common.{◌≡◌, ℕ, zero, suc, ◌+◌, Bool, true, false, ◌||◌, cond, eqb, ltb, List, [], ◌∷◌, ◌++◌, length, drop, Option, Some, None, refl, ap, subst, ◌∙◌, arith}
use Rattle.std.specs.Prelude.{MatchOption}
use Rattle.json_lexemes.specs.declared.kind.Kind.{Kind}
use Rattle.json_lexemes.specs.declared.kind.Kind.TheVariants as kinds
use Rattle.json_lexemes.specs.declared.lexeme.Second.{Second}
use Rattle.json_lexemes.specs.declared.lexeme.Lexeme.{Lexeme}
use Rattle.json_lexemes.specs.declared.lexeme.Lexeme.TheVariants.{Minus as minus, LeadingZero as leading_zero, Integer as integer, Point as point, Decimals as decimals, Exponent as exponent, ExponentSign as exponent_sign, ExponentDigits as exponent_digits, Letters as letters, Plain as plain, Tail as tail, Escape as escape, Digits as digits, Closed as closed}
use Rattle.json_lexemes.specs.Lexeme.{next, ends, literal, next_letter, ends_after_letters, is_digit, is_hex_digit, is_short_escape, within, least, greatest, leads, fraction_from, exponent_from, after_tail, after_digit, Spells, done, more}
use Rattle.json_lexemes.proofs.Tables.{none_some}
use Rattle.json_lexemes.proofs.Courses.{Course, here, on}

-- these bytes and no others go on from a state to the end of a word of this kind
abbrev pub Accepts : Lexeme → List ℕ → Kind → Type 0
Accepts word [] kind = ends word ≡ Some kind
Accepts word (byte ∷ bytes) kind = (after : Lexeme) × (next word byte ≡ Some after) × Accepts after bytes kind

pub accepted : (q : Lexeme) (i : ℕ) (s : List ℕ) (j : ℕ) (t : List ℕ) (kind : Kind) → Spells q i s j t kind → (w : List ℕ) × (s ≡ w ++ t) × (j ≡ i + length w) × Accepts q w kind
accepted q i s j t kind (done e) = ([], refl, (let same : i ≡ i + 0 = omega arith in same), e)
accepted q i (byte ∷ s) j t kind (more {after = after} e h) =
    let behind = accepted after (suc i) s j t kind h in
    (byte ∷ behind.0, ap (λ l. byte ∷ l) behind.1, (let place : j ≡ i + suc (length behind.0) = omega (arith, behind.2) in place), (after, e, behind.3))

pub spelled_out : (q : Lexeme) (i : ℕ) (w t : List ℕ) (j : ℕ) (kind : Kind) → Accepts q w kind → j ≡ i + length w → Spells q i (w ++ t) j t kind
spelled_out q i [] t j kind h e = subst (λ k. Spells q i t k t kind) (let same : i ≡ j = omega (arith, e) in same) (done h)
spelled_out q i (byte ∷ w) t j kind h e = more h.1 (spelled_out h.0 (suc i) w t j kind h.2 (omega (arith, e)))

-- a course in front
pub course_accepts : (a : Lexeme) (s t : List ℕ) (b : Lexeme) (kind : Kind) → Course a s t b → Accepts b t kind → Accepts a s kind
course_accepts a s t b kind here h = h
course_accepts a (byte ∷ s) t b kind (on {after = after} l n p) h = (after, n, course_accepts after s t b kind p h)

-- ---- of which kind a word is

abbrev pub kind_of : Lexeme → Kind
kind_of minus = kinds.Number
kind_of leading_zero = kinds.Number
kind_of integer = kinds.Number
kind_of point = kinds.Number
kind_of decimals = kinds.Number
kind_of exponent = kinds.Number
kind_of exponent_sign = kinds.Number
kind_of exponent_digits = kinds.Number
kind_of (letters kind read) = kind
kind_of (plain high) = kinds.Text
kind_of (tail second count) = kinds.Text
kind_of escape = kinds.Text
kind_of (digits count unit) = kinds.Text
kind_of closed = kinds.Text

pub record KindIf (kind : Kind) (o : Option Lexeme) : Type 0 where
  pub fact : MatchOption o (Unit {0}) (λ word. kind_of word ≡ kind)

none_is : (kind : Kind) → KindIf kind None
none_is kind = record { fact = tt }

some_is : (kind : Kind) (word : Lexeme) → kind_of word ≡ kind → KindIf kind (Some word)
some_is kind word e = record { fact = e }

cond_is : (kind : Kind) (c : Bool) (x y : Option Lexeme) → KindIf kind x → KindIf kind y → KindIf kind (cond c x y)
cond_is kind true x y hx hy = hx
cond_is kind false x y hx hy = hy

digit_is : (byte : ℕ) (word : Lexeme) → kind_of word ≡ kinds.Number → KindIf kinds.Number (cond (is_digit byte) (Some word) None)
digit_is byte word e = cond_is kinds.Number (is_digit byte) (Some word) None (some_is kinds.Number word e) (none_is kinds.Number)

exponent_is : (byte : ℕ) → KindIf kinds.Number (exponent_from byte)
exponent_is byte = cond_is kinds.Number (eqb byte 101 || eqb byte 69) (Some exponent) None (some_is kinds.Number exponent refl) (none_is kinds.Number)

fraction_is : (byte : ℕ) → KindIf kinds.Number (fraction_from byte)
fraction_is byte = cond_is kinds.Number (eqb byte 46) (Some point) (exponent_from byte) (some_is kinds.Number point refl) (exponent_is byte)

letter_is : (kind : Kind) (read : ℕ) (others : List ℕ) (byte : ℕ) → KindIf kind (next_letter kind read others byte)
letter_is kind read [] byte = none_is kind
letter_is kind read (letter ∷ others) byte = cond_is kind (eqb byte letter) (Some (letters kind (read + 1))) None (some_is kind (letters kind (read + 1)) refl) (none_is kind)

after_tail_is : (count : ℕ) → kind_of (after_tail count) ≡ kinds.Text
after_tail_is zero = refl
after_tail_is (suc count) = refl

after_digit_is : (count unit : ℕ) → kind_of (after_digit count unit) ≡ kinds.Text
after_digit_is zero unit = refl
after_digit_is (suc count) unit = refl

tail_is : (second : Second) (count : ℕ) → KindIf kinds.Text (Some (tail second count))
tail_is second count = some_is kinds.Text (tail second count) refl

leads_is : (byte : ℕ) → KindIf kinds.Text (leads byte)
leads_is byte = cond_is kinds.Text (ltb byte 0xc2) None _ (none_is kinds.Text) (cond_is kinds.Text (ltb byte 0xe0) _ _ (tail_is _ _) (cond_is kinds.Text (eqb byte 0xe0) _ _ (tail_is _ _) (cond_is kinds.Text (eqb byte 0xed) _ _ (tail_is _ _)
    (cond_is kinds.Text (ltb byte 0xf0) _ _ (tail_is _ _) (cond_is kinds.Text (eqb byte 0xf0) _ _ (tail_is _ _) (cond_is kinds.Text (ltb byte 0xf4) _ _ (tail_is _ _) (cond_is kinds.Text (eqb byte 0xf4) _ _ (tail_is _ _) (none_is kinds.Text))))))))

string_is : (byte : ℕ) (a b c d : Bool) → KindIf kinds.Text (cond a (Some closed) (cond b (Some escape) (cond c None (cond d (Some (plain false)) (leads byte)))))
string_is byte a b c d = cond_is kinds.Text a (Some closed) _ (some_is kinds.Text closed refl) (cond_is kinds.Text b (Some escape) _ (some_is kinds.Text escape refl) (cond_is kinds.Text c None _ (none_is kinds.Text) (cond_is kinds.Text d (Some (plain false)) (leads byte) (some_is kinds.Text (plain false) refl) (leads_is byte))))

pub next_kind : (q : Lexeme) (byte : ℕ) → KindIf (kind_of q) (next q byte)
unfolding next
next_kind minus byte = cond_is kinds.Number (eqb byte 48) (Some leading_zero) _ (some_is kinds.Number leading_zero refl) (digit_is byte integer refl)
next_kind leading_zero byte = fraction_is byte
next_kind integer byte = cond_is kinds.Number (is_digit byte) (Some integer) (fraction_from byte) (some_is kinds.Number integer refl) (fraction_is byte)
next_kind point byte = digit_is byte decimals refl
next_kind decimals byte = cond_is kinds.Number (is_digit byte) (Some decimals) (exponent_from byte) (some_is kinds.Number decimals refl) (exponent_is byte)
next_kind exponent byte = cond_is kinds.Number (eqb byte 43 || eqb byte 45) (Some exponent_sign) _ (some_is kinds.Number exponent_sign refl) (digit_is byte exponent_digits refl)
next_kind exponent_sign byte = digit_is byte exponent_digits refl
next_kind exponent_digits byte = digit_is byte exponent_digits refl
next_kind (letters kind read) byte = letter_is kind read (drop read (literal kind)) byte
next_kind (plain high) byte = string_is byte (eqb byte 34) (eqb byte 92) (ltb byte 0x20) (ltb byte 0x80)
next_kind (tail second count) byte = cond_is kinds.Text (within (least second) (greatest second) byte) (Some (after_tail count)) None (some_is kinds.Text (after_tail count) (after_tail_is count)) (none_is kinds.Text)
next_kind escape byte = cond_is kinds.Text (eqb byte 117) (Some (digits 3 0)) _ (some_is kinds.Text (digits 3 0) refl) (cond_is kinds.Text (is_short_escape byte) (Some (plain false)) None (some_is kinds.Text (plain false) refl) (none_is kinds.Text))
next_kind (digits count unit) byte = cond_is kinds.Text (is_hex_digit byte) (Some (after_digit count _)) None (some_is kinds.Text (after_digit count _) (after_digit_is count _)) (none_is kinds.Text)
next_kind closed byte = none_is kinds.Text

same_kind : (a b : Kind) → Some a ≡ Some b → b ≡ a
same_kind a b e = let is : b ≡ a = cc in is

letters_end : (kind k : Kind) (others : List ℕ) → ends_after_letters kind others ≡ Some k → k ≡ kind
letters_end kind k [] e = same_kind kind k e
letters_end kind k (letter ∷ others) e = none_some k _ e

pub end_kind : (q : Lexeme) (k : Kind) → ends q ≡ Some k → k ≡ kind_of q
unfolding ends
end_kind minus k e = none_some k _ e
end_kind leading_zero k e = same_kind kinds.Number k e
end_kind integer k e = same_kind kinds.Number k e
end_kind point k e = none_some k _ e
end_kind decimals k e = same_kind kinds.Number k e
end_kind exponent k e = none_some k _ e
end_kind exponent_sign k e = none_some k _ e
end_kind exponent_digits k e = same_kind kinds.Number k e
end_kind (letters kind read) k e = letters_end kind k (drop read (literal kind)) e
end_kind (plain high) k e = none_some k _ e
end_kind (tail second count) k e = none_some k _ e
end_kind escape k e = none_some k _ e
end_kind (digits count unit) k e = none_some k _ e
end_kind closed k e = same_kind kinds.Text k e

pub kind_if : (kind : Kind) (after : Lexeme) (o : Option Lexeme) → o ≡ Some after → KindIf kind o → kind_of after ≡ kind
kind_if kind after o e h = (subst (KindIf kind) e h).fact

-- a word is of the kind of its states
pub accepted_kind : (q : Lexeme) (w : List ℕ) (kind : Kind) → Accepts q w kind → kind ≡ kind_of q
accepted_kind q [] kind h = end_kind q kind h
accepted_kind q (byte ∷ w) kind h = accepted_kind h.0 w kind h.2 ∙ kind_if (kind_of q) h.0 (next q byte) h.1 (next_kind q byte)
