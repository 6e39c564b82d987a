-- The bytes that the tables of the grammar tell apart.
use Rattle.std.proofs.Common.{◌≡◌, ◌⊎◌, inl, inr, ℕ, true, false, ◌||◌, cond, eqb, Option, Some, None, refl, ap}
use Rattle.std.proofs.lemmas.Bool.Decides.{eqb_tells}
use Rattle.json_text.specs.declared.spot.Span.{Span}
use Rattle.json_lexemes.specs.declared.lexeme.Lexeme.{Lexeme}
use Rattle.json_lexemes.specs.Lexeme.{begins}
use Rattle.json_text.specs.declared.part.Bracket.{Bracket}
use Rattle.json_text.specs.declared.part.Bracket.TheVariants.{List as list, Map as map}
use Rattle.json_text.specs.declared.part.Part.{Part}
use Rattle.json_text.specs.declared.part.Part.TheVariants.{Start as start, Next as next_part, Named as named, Member as member, Rest as rest}
use Rattle.json_text.specs.Grammar.{is_blank, opens, closes, turns, takes_value, takes_name}
pub use Rattle.json_lexemes.proofs.Tables.{none_some, some_none, false_true, not_byte, is_it, or_yes, and_yes, NotNumeric, word_over, text_over}
use Rattle.json_lexemes.proofs.Tables.{not_numeric, at_32, at_9, at_10, at_13, at_44, at_58, at_93, at_125}

on_byte_is : (wanted byte : ℕ) (here q : Part) → cond (eqb byte wanted) (Some here) None ≡ Some q → byte ≡ wanted
on_byte_is wanted byte here q h = elim (eqb_tells byte wanted) [ inl is ↦ is.1 | inr other ↦ none_some q (byte ≡ wanted) (let no : eqb byte wanted ≡ false = other.0 in rw no at h) ]

pub byte_closes : (level : Option Bracket) (here : Part) (byte : ℕ) → closes level here byte ≡ true → (byte ≡ 93) ⊎ (byte ≡ 125)
unfolding closes
byte_closes None here byte h = false_true _ h
byte_closes (Some list) start byte h = inl (is_it byte 93 h)
byte_closes (Some list) rest byte h = inl (is_it byte 93 h)
byte_closes (Some list) next_part byte h = false_true _ h
byte_closes (Some list) (named name) byte h = false_true _ h
byte_closes (Some list) (member name) byte h = false_true _ h
byte_closes (Some map) start byte h = inr (is_it byte 125 h)
byte_closes (Some map) rest byte h = inr (is_it byte 125 h)
byte_closes (Some map) next_part byte h = false_true _ h
byte_closes (Some map) (named name) byte h = false_true _ h
byte_closes (Some map) (member name) byte h = false_true _ h

pub closes_not_blank : (level : Option Bracket) (here : Part) (byte : ℕ) → closes level here byte ≡ true → is_blank byte ≡ false
closes_not_blank level here byte h = elim (byte_closes level here byte h) [ inl e ↦ ap is_blank e | inr e ↦ ap is_blank e ]

pub closes_level : (level : Option Bracket) (here : Part) (byte : ℕ) → closes level here byte ≡ true → (bracket : Bracket) × (level ≡ Some bracket)
unfolding closes
closes_level None here byte h = false_true _ h
closes_level (Some bracket) here byte h = (bracket, refl)

-- what a comma or a colon is not
pub turn_clear : (level : Option Bracket) (here q : Part) (byte : ℕ) → turns level here byte ≡ Some q → ((byte ≡ 44) ⊎ (byte ≡ 58)) × (is_blank byte ≡ false) × (closes level here byte ≡ false)
unfolding turns closes
turn_clear None here q byte h = none_some q _ h
turn_clear (Some list) rest q byte h = let e = on_byte_is 44 byte next_part q h in (inl e, ap is_blank e, ap (λ b. eqb b 93) e)
turn_clear (Some list) start q byte h = none_some q _ h
turn_clear (Some list) next_part q byte h = none_some q _ h
turn_clear (Some list) (named name) q byte h = none_some q _ h
turn_clear (Some list) (member name) q byte h = none_some q _ h
turn_clear (Some map) rest q byte h = let e = on_byte_is 44 byte next_part q h in (inl e, ap is_blank e, ap (λ b. eqb b 125) e)
turn_clear (Some map) start q byte h = none_some q _ h
turn_clear (Some map) next_part q byte h = none_some q _ h
turn_clear (Some map) (named name) q byte h = let e = on_byte_is 58 byte (member name) q h in (inr e, ap is_blank e, refl)
turn_clear (Some map) (member name) q byte h = none_some q _ h

value_turns : (level : Option Bracket) (here : Part) (byte : ℕ) (n : Option Span) → takes_value level here ≡ Some n → turns level here byte ≡ None
unfolding turns takes_value
value_turns None here byte n h = refl
value_turns (Some list) rest byte n h = none_some n _ h
value_turns (Some list) start byte n h = refl
value_turns (Some list) next_part byte n h = refl
value_turns (Some list) (named name) byte n h = refl
value_turns (Some list) (member name) byte n h = refl
value_turns (Some map) rest byte n h = none_some n _ h
value_turns (Some map) start byte n h = none_some n _ h
value_turns (Some map) next_part byte n h = none_some n _ h
value_turns (Some map) (named name) byte n h = none_some n _ h
value_turns (Some map) (member name) byte n h = refl

value_closes : (level : Option Bracket) (here : Part) (byte : ℕ) (n : Option Span) → takes_value level here ≡ Some n → eqb byte 93 ≡ false → closes level here byte ≡ false
unfolding closes takes_value
value_closes None here byte n h e = refl
value_closes (Some list) rest byte n h e = none_some n _ h
value_closes (Some list) start byte n h e = e
value_closes (Some list) next_part byte n h e = refl
value_closes (Some list) (named name) byte n h e = refl
value_closes (Some list) (member name) byte n h e = refl
value_closes (Some map) rest byte n h e = none_some n _ h
value_closes (Some map) start byte n h e = none_some n _ h
value_closes (Some map) next_part byte n h e = none_some n _ h
value_closes (Some map) (named name) byte n h e = none_some n _ h
value_closes (Some map) (member name) byte n h e = refl

no_blank : (byte : ℕ) → eqb byte 32 ≡ false → eqb byte 9 ≡ false → eqb byte 10 ≡ false → eqb byte 13 ≡ false → is_blank byte ≡ false
no_blank byte a b c d = rw (a, b, c, d) refl

-- what a byte is not where it begins a word, a list or a map, or a name
pub record Clear (level : Option Bracket) (here : Part) (byte : ℕ) : Type 0 where
  pub not_blank : is_blank byte ≡ false
  pub no_close : closes level here byte ≡ false
  pub no_turn : turns level here byte ≡ None

pub word_clear : (level : Option Bracket) (here : Part) (byte : ℕ) (n : Option Span) (first : Lexeme) → takes_value level here ≡ Some n → begins byte ≡ Some first → Clear level here byte × (opens byte ≡ None)
unfolding begins
word_clear level here byte n first takes h =
    let square : eqb byte 91 ≡ false = not_byte begins byte 91 first refl h in
    let brace : eqb byte 123 ≡ false = not_byte begins byte 123 first refl h in (
      record {
        not_blank = no_blank byte (not_byte begins byte 32 first refl h) (not_byte begins byte 9 first refl h) (not_byte begins byte 10 first refl h) (not_byte begins byte 13 first refl h);
        no_close = value_closes level here byte n takes (not_byte begins byte 93 first refl h);
        no_turn = value_turns level here byte n takes;
      },
      rw (square, brace) refl,
    )

pub nested_clear : (level : Option Bracket) (here : Part) (byte : ℕ) (n : Option Span) (bracket : Bracket) → takes_value level here ≡ Some n → opens byte ≡ Some bracket → Clear level here byte
nested_clear level here byte n bracket takes h = record {
  not_blank = no_blank byte (not_byte opens byte 32 bracket refl h) (not_byte opens byte 9 bracket refl h) (not_byte opens byte 10 bracket refl h) (not_byte opens byte 13 bracket refl h);
  no_close = value_closes level here byte n takes (not_byte opens byte 93 bracket refl h);
  no_turn = value_turns level here byte n takes;
}

pub name_clear : (level : Option Bracket) (here : Part) (byte : ℕ) → takes_name level here ≡ true → byte ≡ 34 → Clear level here byte × (takes_value level here ≡ None)
unfolding takes_name takes_value closes turns
name_clear None here byte takes e = false_true _ takes
name_clear (Some list) here byte takes e = false_true _ takes
name_clear (Some map) start byte takes e = (record { not_blank = ap is_blank e; no_close = ap (λ b. eqb b 125) e; no_turn = refl }, refl)
name_clear (Some map) next_part byte takes e = (record { not_blank = ap is_blank e; no_close = refl; no_turn = refl }, refl)
name_clear (Some map) rest byte takes e = false_true _ takes
name_clear (Some map) (named name) byte takes e = false_true _ takes
name_clear (Some map) (member name) byte takes e = false_true _ takes

pub blank_ends : (byte : ℕ) → is_blank byte ≡ true → NotNumeric byte
blank_ends byte h = elim (or_yes (eqb byte 32 || eqb byte 9 || eqb byte 10) (eqb byte 13) h) [
  | inl a ↦ elim (or_yes (eqb byte 32 || eqb byte 9) (eqb byte 10) a) [
    | inl b ↦ elim (or_yes (eqb byte 32) (eqb byte 9) b) [ inl c ↦ not_numeric byte 32 at_32 (is_it byte 32 c) | inr c ↦ not_numeric byte 9 at_9 (is_it byte 9 c) ]
    | inr b ↦ not_numeric byte 10 at_10 (is_it byte 10 b)
  ]
  | inr a ↦ not_numeric byte 13 at_13 (is_it byte 13 a)
]

pub close_ends : (level : Option Bracket) (here : Part) (byte : ℕ) → closes level here byte ≡ true → NotNumeric byte
close_ends level here byte h = elim (byte_closes level here byte h) [ inl e ↦ not_numeric byte 93 at_93 e | inr e ↦ not_numeric byte 125 at_125 e ]

pub turn_ends : (level : Option Bracket) (here q : Part) (byte : ℕ) → turns level here byte ≡ Some q → NotNumeric byte
turn_ends level here q byte h = elim ((turn_clear level here q byte h).0) [ inl e ↦ not_numeric byte 44 at_44 e | inr e ↦ not_numeric byte 58 at_58 e ]
