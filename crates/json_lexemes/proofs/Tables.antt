-- The bytes that the tables of words tell apart.
use Rattle.std.proofs.Common.{◌≡◌, ◌⊎◌, inl, inr, ℕ, Bool, true, false, ◌||◌, ◌&&◌, eqb, List, [], ◌∷◌, drop, Option, Some, None, refl, sym, ap, subst, ◌∙◌}
use Rattle.std.proofs.lemmas.Bool.{ne_eqb}
use Rattle.std.proofs.lemmas.Bool.Decides.{eqb_tells}
use Rattle.json_lexemes.specs.declared.kind.Kind.{Kind}
use Rattle.json_lexemes.specs.declared.kind.Kind.TheVariants as kinds
use Rattle.json_lexemes.specs.declared.lexeme.Lexeme.{Lexeme}
use Rattle.json_lexemes.specs.declared.lexeme.Lexeme.TheVariants.{Minus as minus, LeadingZero as leading_zero, Integer as integer, Point as point, Decimals as decimals, Exponent as exponent, ExponentSign as exponent_sign, ExponentDigits as exponent_digits, Letters as letters, Plain as plain, Tail as tail, Escape as escape, Digits as digits, Closed as closed}
use Rattle.json_lexemes.specs.Lexeme.{next, ends, literal, next_letter, ends_after_letters}

pub none_some : {A : Type 0} (x : A) (B : Type 0) → None ≡ Some x → B
none_some x B h = let bad : ⊥ = cc in absurd bad

pub some_none : {A : Type 0} (x : A) (B : Type 0) → Some x ≡ None → B
some_none x B h = let bad : ⊥ = cc in absurd bad

pub false_true : (B : Type 0) → false ≡ true → B
false_true B h = let bad : ⊥ = cc in absurd bad

-- a byte at which f gives something isn't one at which it gives nothing
pub not_byte : {A : Type 0} (f : ℕ → Option A) (byte v : ℕ) (x : A) → f v ≡ None → f byte ≡ Some x → eqb byte v ≡ false
not_byte f byte v x none some = ne_eqb byte v (λ e. none_some x ⊥ (sym none ∙ sym (ap f e) ∙ some))

pub is_it : (byte v : ℕ) → eqb byte v ≡ true → byte ≡ v
is_it byte v h = elim (eqb_tells byte v) [ inl is ↦ is.1 | inr other ↦ false_true (byte ≡ v) (sym other.0 ∙ h) ]

pub or_yes : (a b : Bool) → (a || b) ≡ true → (a ≡ true) ⊎ (b ≡ true)
or_yes true b h = inl refl
or_yes false b h = inr h

pub and_yes : (a b : Bool) → (a && b) ≡ true → (a ≡ true) × (b ≡ true)
and_yes true b h = (refl, h)
and_yes false b h = false_true ((false ≡ true) × (b ≡ true)) h

-- a byte that doesn't go on with a number
pub record NotNumeric (byte : ℕ) : Type 0 where
  pub zero : next leading_zero byte ≡ None
  pub whole : next integer byte ≡ None
  pub fraction : next decimals byte ≡ None
  pub power : next exponent_digits byte ≡ None

pub not_numeric : (byte v : ℕ) → NotNumeric v → byte ≡ v → NotNumeric byte
not_numeric byte v h e = subst NotNumeric (sym e) h

pub at_32 : NotNumeric 32
unfolding next
at_32 = record { zero = refl; whole = refl; fraction = refl; power = refl }

pub at_9 : NotNumeric 9
unfolding next
at_9 = record { zero = refl; whole = refl; fraction = refl; power = refl }

pub at_10 : NotNumeric 10
unfolding next
at_10 = record { zero = refl; whole = refl; fraction = refl; power = refl }

pub at_13 : NotNumeric 13
unfolding next
at_13 = record { zero = refl; whole = refl; fraction = refl; power = refl }

pub at_44 : NotNumeric 44
unfolding next
at_44 = record { zero = refl; whole = refl; fraction = refl; power = refl }

pub at_58 : NotNumeric 58
unfolding next
at_58 = record { zero = refl; whole = refl; fraction = refl; power = refl }

pub at_93 : NotNumeric 93
unfolding next
at_93 = record { zero = refl; whole = refl; fraction = refl; power = refl }

pub at_125 : NotNumeric 125
unfolding next
at_125 = record { zero = refl; whole = refl; fraction = refl; power = refl }

letters_over : (kind : Kind) (read : ℕ) (others : List ℕ) (byte : ℕ) (k : Kind) → ends_after_letters kind others ≡ Some k → next_letter kind read others byte ≡ None
letters_over kind read [] byte k e = refl
letters_over kind read (letter ∷ others) byte k e = none_some k _ e

-- a word that may end doesn't go on with such a byte
pub word_over : (q : Lexeme) (k : Kind) (byte : ℕ) → NotNumeric byte → ends q ≡ Some k → next q byte ≡ None
unfolding next ends
word_over minus k byte h e = none_some k _ e
word_over leading_zero k byte h e = h.zero
word_over integer k byte h e = h.whole
word_over point k byte h e = none_some k _ e
word_over decimals k byte h e = h.fraction
word_over exponent k byte h e = none_some k _ e
word_over exponent_sign k byte h e = none_some k _ e
word_over exponent_digits k byte h e = h.power
word_over (letters kind read) k byte h e = letters_over kind read (drop read (literal kind)) byte k e
word_over (plain high) k byte h e = none_some k _ e
word_over (tail second more) k byte h e = none_some k _ e
word_over escape k byte h e = none_some k _ e
word_over (digits more unit) k byte h e = none_some k _ e
word_over closed k byte h e = refl

number_no_text : (B : Type 0) → Some kinds.Number ≡ Some kinds.Text → B
number_no_text B h = let bad : ⊥ = cc in absurd bad

-- a string that has ended doesn't go on at all
pub text_over : (q : Lexeme) (byte : ℕ) → ends q ≡ Some kinds.Text → next q byte ≡ None
unfolding next ends
text_over minus byte e = none_some kinds.Text _ e
text_over leading_zero byte e = number_no_text _ e
text_over integer byte e = number_no_text _ e
text_over point byte e = none_some kinds.Text _ e
text_over decimals byte e = number_no_text _ e
text_over exponent byte e = none_some kinds.Text _ e
text_over exponent_sign byte e = none_some kinds.Text _ e
text_over exponent_digits byte e = number_no_text _ e
text_over (letters kind read) byte e = letters_over kind read (drop read (literal kind)) byte kinds.Text e
text_over (plain high) byte e = none_some kinds.Text _ e
text_over (tail second more) byte e = none_some kinds.Text _ e
text_over escape byte e = none_some kinds.Text _ e
text_over (digits more unit) byte e = none_some kinds.Text _ e
text_over closed byte e = refl
