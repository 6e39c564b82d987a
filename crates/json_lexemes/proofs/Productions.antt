-- The words of the grammar are those of the productions.
use Rattle.std.proofs.Common.{◌≡◌, ◌⊎◌, inl, inr, ℕ, suc, ◌+◌, ◌≤◌, true, false, eqb, List, [], ◌∷◌, ◌++◌, length, Some, None, refl, sym, ap, subst, ◌∙◌, arith}
use Rattle.std.specs.Prelude.{◌↔◌}
use Rattle.std.specs.List.{AllByRecursion}
use Rattle.std.proofs.lemmas.Bool.{ne_eqb, eqb-false}
use Rattle.json_lexemes.specs.declared.kind.Kind.{Kind}
use Rattle.json_lexemes.specs.declared.kind.Kind.TheVariants as kinds
use Rattle.json_lexemes.specs.declared.lexeme.Lexeme.{Lexeme}
use Rattle.json_lexemes.specs.declared.lexeme.Lexeme.TheVariants.{Minus as minus, LeadingZero as leading_zero, Integer as integer, Letters as letters, Plain as plain}
use Rattle.json_lexemes.specs.Lexeme.{begins, is_digit}
use Rattle.json_lexemes.specs.Productions.{Char, IsChar, inside_of, text_of, IsNumber, IsWord}
use Rattle.json_lexemes.specs.Unescape.{unescaped}
use Rattle.json_lexemes.specs.Words.{HasWord, HasProduced}
use Rattle.json_lexemes.proofs.Tables.{none_some, is_it}
use Rattle.json_lexemes.proofs.Accepted.{Accepts, accepted, spelled_out, kind_of, accepted_kind}
use Rattle.json_lexemes.proofs.NumberWords.{chosen, digit_yes, digit_test, number_left, literal_left, literal_accepts, minus_accepts, int_accepts}
use Rattle.json_lexemes.proofs.StringWords.{string_left, string_accepts}
use Rattle.json_lexemes.proofs.CharTexts.{text_is}

-- how a word begins
data Starts (byte : ℕ) (first : Lexeme) : Type 0 where
  quote : byte ≡ 34 → first ≡ plain false → Starts byte first
  dash : byte ≡ 45 → first ≡ minus → Starts byte first
  nought : byte ≡ 48 → first ≡ leading_zero → Starts byte first
  digit : 49 ≤ byte → byte ≤ 57 → first ≡ integer → Starts byte first
  yes : byte ≡ 116 → first ≡ letters (kinds.Flag true) 1 → Starts byte first
  false_word : byte ≡ 102 → first ≡ letters (kinds.Flag false) 1 → Starts byte first
  null_word : byte ≡ 110 → first ≡ letters kinds.Null 1 → Starts byte first

starts : (byte : ℕ) (first : Lexeme) → begins byte ≡ Some first → Starts byte first
unfolding begins
starts byte first e = elim (chosen (eqb byte 34) (plain false) _ first e) [
  | inl a ↦ quote (is_it byte 34 a.0) (sym a.1)
  | inr e1 ↦ elim (chosen (eqb byte 45) minus _ first e1.1) [
    | inl a ↦ dash (is_it byte 45 a.0) (sym a.1)
    | inr e2 ↦ elim (chosen (eqb byte 48) leading_zero _ first e2.1) [
      | inl a ↦ nought (is_it byte 48 a.0) (sym a.1)
      | inr e3 ↦ elim (chosen (is_digit byte) integer _ first e3.1) [
        | inl a ↦ (let d = digit_yes byte a.0 in let other = eqb-false byte 48 e3.0 in digit (omega (arith, d, other)) d.1 (sym a.1))
        | inr e4 ↦ elim (chosen (eqb byte 116) (letters (kinds.Flag true) 1) _ first e4.1) [
          | inl a ↦ yes (is_it byte 116 a.0) (sym a.1)
          | inr e5 ↦ elim (chosen (eqb byte 102) (letters (kinds.Flag false) 1) _ first e5.1) [
            | inl a ↦ false_word (is_it byte 102 a.0) (sym a.1)
            | inr e6 ↦ elim (chosen (eqb byte 110) (letters kinds.Null 1) None first e6.1) [
              | inl a ↦ null_word (is_it byte 110 a.0) (sym a.1)
              | inr e7 ↦ none_some first _ e7.1
            ]
          ]
        ]
      ]
    ]
  ]
]

as_state : (first q : Lexeme) (w : List ℕ) (kind : Kind) → first ≡ q → Accepts first w kind → Accepts q w kind
as_state first q w kind e h = subst (λ x. Accepts x w kind) e h

as_word : (first q : Lexeme) (w bytes : List ℕ) (kind : Kind) → first ≡ q → Accepts first w kind → IsWord (kind_of q) bytes → IsWord kind bytes
as_word first q w bytes kind e h is = subst (λ k. IsWord k bytes) (sym (accepted_kind first w kind h ∙ ap kind_of e)) is

produced : (byte : ℕ) (first : Lexeme) (w : List ℕ) (kind : Kind) → Starts byte first → Accepts first w kind → IsWord kind (byte ∷ w)
produced byte first w kind (quote b f) h =
    let rest = string_left (plain false) w kind (as_state first (plain false) w kind f h) in
    as_word first (plain false) w (byte ∷ w) kind f h (rest.chars, rest.are, ap (λ x. x ∷ w) b ∙ ap (λ l. 34 ∷ l) rest.is)
produced byte first w kind (dash b f) h =
    as_word first minus w (byte ∷ w) kind f h (45 ∷ [], w, ap (λ x. x ∷ w) b, inr refl, number_left minus w kind (as_state first minus w kind f h))
produced byte first w kind (nought b f) h =
    as_word first leading_zero w (byte ∷ w) kind f h ([], byte ∷ w, refl, inl refl, (byte ∷ [], w, refl, inl (b, refl), number_left leading_zero w kind (as_state first leading_zero w kind f h)))
produced byte first w kind (digit l m f) h =
    let rest = number_left integer w kind (as_state first integer w kind f h) in
    as_word first integer w (byte ∷ w) kind f h ([], byte ∷ w, refl, inl refl, (byte ∷ rest.0, rest.1, ap (λ x. byte ∷ x) rest.2, inr ((l, m), rest.3), rest.4))
produced byte first w kind (yes b f) h = as_word first (letters (kinds.Flag true) 1) w (byte ∷ w) kind f h (ap (λ x. x ∷ w) b ∙ ap (λ l. 116 ∷ l) (literal_left (kinds.Flag true) kind 1 w (as_state first (letters (kinds.Flag true) 1) w kind f h)))
produced byte first w kind (false_word b f) h = as_word first (letters (kinds.Flag false) 1) w (byte ∷ w) kind f h (ap (λ x. x ∷ w) b ∙ ap (λ l. 102 ∷ l) (literal_left (kinds.Flag false) kind 1 w (as_state first (letters (kinds.Flag false) 1) w kind f h)))
produced byte first w kind (null_word b f) h = as_word first (letters kinds.Null 1) w (byte ∷ w) kind f h (ap (λ x. x ∷ w) b ∙ ap (λ l. 110 ∷ l) (literal_left kinds.Null kind 1 w (as_state first (letters kinds.Null 1) w kind f h)))

-- ---- and back

record Reads (kind : Kind) (bytes : List ℕ) : Type 0 where
  byte : ℕ
  others : List ℕ
  first : Lexeme
  is : bytes ≡ byte ∷ others
  begin : begins byte ≡ Some first
  accepts : Accepts first others kind

first_ones : (begins 34 ≡ Some (plain false)) × (begins 45 ≡ Some minus) × (begins 116 ≡ Some (letters (kinds.Flag true) 1)) × (begins 102 ≡ Some (letters (kinds.Flag false) 1)) × (begins 110 ≡ Some (letters kinds.Null 1))
unfolding begins
first_ones = (refl, refl, refl, refl, refl)

int_begins : (byte : ℕ) (first : Lexeme) → ((byte ≡ 48) × (first ≡ leading_zero)) ⊎ ((49 ≤ byte) × (byte ≤ 57) × (first ≡ integer)) → begins byte ≡ Some first
unfolding begins
int_begins byte first (inl z) = ap begins z.0 ∙ ap Some (sym z.1)
int_begins byte first (inr d) =
    let a : eqb byte 34 ≡ false = ne_eqb byte 34 (λ e. omega (arith, e, d.0)) in
    let b : eqb byte 45 ≡ false = ne_eqb byte 45 (λ e. omega (arith, e, d.0)) in
    let c : eqb byte 48 ≡ false = ne_eqb byte 48 (λ e. omega (arith, e, d.0)) in
    let is : is_digit byte ≡ true = digit_test byte (omega (arith, d.0), d.1) in
    rw (a, b, c, is) (ap Some (sym d.2))

number_reads : (bytes : List ℕ) → IsNumber bytes → Reads kinds.Number bytes
number_reads bytes (sign, rest, is, inl none, int) =
    let a = int_accepts rest int in
    record { byte = a.0; others = a.1; first = a.2; is = is ∙ ap (λ l. l ++ rest) none ∙ a.3; begin = int_begins a.0 a.2 a.4; accepts = a.5 }
number_reads bytes (sign, rest, is, inr minus_sign, int) =
    record { byte = 45; others = rest; first = minus; is = is ∙ ap (λ l. l ++ rest) minus_sign; begin = first_ones.1; accepts = minus_accepts rest int }

word_reads : (kind : Kind) (bytes : List ℕ) → IsWord kind bytes → Reads kind bytes
word_reads kinds.Null bytes e = record { byte = 110; others = 117 ∷ 108 ∷ 108 ∷ []; first = letters kinds.Null 1; is = e; begin = first_ones.4; accepts = literal_accepts kinds.Null 1 (117 ∷ 108 ∷ 108 ∷ []) refl }
word_reads (kinds.Flag true) bytes e = record { byte = 116; others = 114 ∷ 117 ∷ 101 ∷ []; first = letters (kinds.Flag true) 1; is = e; begin = first_ones.2; accepts = literal_accepts (kinds.Flag true) 1 (114 ∷ 117 ∷ 101 ∷ []) refl }
word_reads (kinds.Flag false) bytes e = record { byte = 102; others = 97 ∷ 108 ∷ 115 ∷ 101 ∷ []; first = letters (kinds.Flag false) 1; is = e; begin = first_ones.3; accepts = literal_accepts (kinds.Flag false) 1 (97 ∷ 108 ∷ 115 ∷ 101 ∷ []) refl }
word_reads kinds.Number bytes h = number_reads bytes h
word_reads kinds.Text bytes (chars, are, e) = record { byte = 34; others = inside_of chars ++ 34 ∷ []; first = plain false; is = e; begin = first_ones.0; accepts = string_accepts (inside_of chars ++ 34 ∷ []) (record { chars = chars; are = are; is = refl }) }
word_reads kinds.List bytes h = absurd h
word_reads kinds.Map bytes h = absurd h

forth : (kind : Kind) (i j : ℕ) (s t : List ℕ) → HasWord kind i s j t → HasProduced kind i s j t
forth kind i j s t (byte, others, first, is, begin, spells) =
    let a = accepted first (suc i) others j t kind spells in
    (byte ∷ a.0, is ∙ ap (λ l. byte ∷ l) a.1, (let place : j ≡ i + suc (length a.0) = omega (arith, a.2) in place), produced byte first a.0 kind (starts byte first begin) a.3)

back : (kind : Kind) (i j : ℕ) (s t : List ℕ) → HasProduced kind i s j t → HasWord kind i s j t
back kind i j s t (bytes, is, place, word) =
    let r = word_reads kind bytes word in
    (r.byte, r.others ++ t, r.first, is ∙ ap (λ l. l ++ t) r.is, r.begin, spelled_out r.first (suc i) r.others t j kind r.accepts (omega (arith, place, ap length r.is)))

pub words : (kind : Kind) (i j : ℕ) (s t : List ℕ) → HasWord kind i s j t ↔ HasProduced kind i s j t
words kind i j s t = (λ h. forth kind i j s t h, λ h. back kind i j s t h)

pub texts : (chars : List Char) → AllByRecursion IsChar chars → unescaped (inside_of chars) ≡ text_of chars
texts chars h = text_is chars h
