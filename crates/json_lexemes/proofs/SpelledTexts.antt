-- A string over the spelling of a text: the text that it spells, and the states that it goes through.
use Rattle.std.proofs.Common.{◌≡◌, inl, inr, ℕ, ◌+◌, ◌-◌, ◌*◌, ◌/◌, ◌%◌, ◌<◌, ◌≤◌, Bool, true, false, ◌&&◌, ◌||◌, cond, eqb, ltb, leb, lt-ltb, le-ltb, le-leb, List, [], ◌∷◌, ◌++◌, Some, refl, sym, ap, subst, ◌∙◌, arith, append_assoc, append-nil}
use Rattle.std.proofs.lemmas.Bool.{cases_lt}
use Rattle.std.proofs.lemmas.Bool.Decides.{eqb_tells, nat_tests}
use Rattle.std.proofs.lemmas.Str.{encode_ascii}
use Rattle.std.specs.Str.{IsUtf8}
use lib.Utf8.{scalar, encode, encodes, scalars, next as next_byte}
use Rattle.json_lexemes.specs.declared.lexeme.Lexeme.TheVariants.{Plain as plain, Digits as digits}
use Rattle.json_lexemes.specs.declared.unescape.Pending.TheVariants.{Between as between}
use Rattle.json_lexemes.specs.Lexeme.{hex_value, is_hex_digit, after_digit, next}
use Rattle.json_lexemes.specs.Surrogates.{is_lone, is_numbered, unit_of}
use Rattle.json_lexemes.specs.Unescape.{unescaped, unescaped_from, unit_with, unit_bytes, after_unit}
use Rattle.byte_lanes.specs.Bytes.{is_special}
use Rattle.byte_lanes.specs.Spelling.{spelled, spelled_byte, hex_digit, short_letter, numbered}
use Rattle.json_lexemes.proofs.Tables.{and_yes}
use Rattle.json_lexemes.proofs.Runs.{not_lone}
use Rattle.json_lexemes.proofs.Utf8Texts.{two, three, four}
use Rattle.json_lexemes.proofs.Pieces.{unescaped_nil}
use Rattle.json_lexemes.proofs.Spelled.{spelled-append, plain_byte}
use Rattle.json_lexemes.proofs.Courses.{Course, here, on, course_on}
use Rattle.json_lexemes.proofs.Characters.{character_course}

-- ---- a digit of a number

hex_back : (n : ℕ) → n < 16 → hex_value (hex_digit n) ≡ n
hex_back n h = elim (cases_lt n 10) [
  | inl lt ↦ (let low : ltb n 10 ≡ true = lt-ltb n 10 lt in let a : leb 48 (n + 48) ≡ true = le-leb 48 (n + 48) (omega arith) in let b : leb (n + 48) 57 ≡ true = le-leb (n + 48) 57 (omega (arith, lt)) in let back : n + 48 - 48 ≡ n = omega arith in rw (low, a, b, back) refl)
  | inr ge ↦ grind (arith, nat_tests)
]

hex_is : (n : ℕ) → n < 16 → is_hex_digit (hex_digit n) ≡ true
hex_is n h = grind (arith, nat_tests)

-- ---- a control by its number

last_digit : (b : ℕ) → b < 32 → unit_with (unit_with (unit_with (unit_with 0 48) 48) (hex_digit (b / 16))) (hex_digit (b % 16)) ≡ b
last_digit b h =
    let first : hex_value (hex_digit (b / 16)) ≡ b / 16 = hex_back (b / 16) (omega (arith, h)) in
    let second : hex_value (hex_digit (b % 16)) ≡ b % 16 = hex_back (b % 16) (omega arith) in
    rw (first, second) (omega (arith, h))

low_unit : (b : ℕ) → b < 32 → unit_bytes 0 b ≡ b ∷ []
low_unit b h =
    let high : leb 0xd800 b ≡ false = grind (arith, nat_tests) in
    let low : leb 0xdc00 b ≡ false = grind (arith, nat_tests) in
    let below : ltb b 0xd800 ≡ true = lt-ltb b 0xd800 (omega (arith, h)) in
    rw (high, low, below) (encode_ascii b (omega (arith, h)))

numbered_text : (b : ℕ) (s : List ℕ) → b < 32 → unescaped_from (between 0) (numbered b ++ s) ≡ b ∷ unescaped_from (between 0) s
unfolding unescaped_from
numbered_text b s h =
    let high : leb 0xd800 b ≡ false = grind (arith, nat_tests) in
    let waits : after_unit b ≡ between 0 = rw high refl in
    ap (λ u. unit_bytes 0 u ++ unescaped_from (after_unit u) s) (last_digit b h) ∙ ap (λ p. unit_bytes 0 b ++ unescaped_from p s) waits ∙ ap (λ l. l ++ unescaped_from (between 0) s) (low_unit b h)

-- ---- the text of a spelling

-- what the spelling of a byte is
other_byte : (b : ℕ) → eqb b 34 ≡ false → eqb b 92 ≡ false → 32 ≤ b → spelled_byte b ≡ b ∷ []
unfolding spelled_byte
other_byte b q s high = let control : ltb b 32 ≡ false = le-ltb b 32 high in rw (q, s, control) refl

control_byte : (b : ℕ) → eqb b 34 ≡ false → eqb b 92 ≡ false → b < 32 → spelled_byte b ≡ cond (eqb (short_letter b) 0) (numbered b) (92 ∷ short_letter b ∷ [])
unfolding spelled_byte
control_byte b q s low = let control : ltb b 32 ≡ true = lt-ltb b 32 low in rw (q, s, control) refl

-- a control has a short escape, or none
record IsControl (b : ℕ) (P : ℕ → Type 0) : Type 0 where
  eight : P 8
  nine : P 9
  ten : P 10
  twelve : P 12
  thirteen : P 13
  others : short_letter b ≡ 0 → P b

controls : (b : ℕ) (P : ℕ → Type 0) → IsControl b P → P b
controls b P h = at 8 h.eight (λ a. at 9 h.nine (λ c. at 10 h.ten (λ d. at 12 h.twelve (λ e. at 13 h.thirteen (λ f. h.others (rw (a, c, d, e, f) refl))))))
  where
    at : (v : ℕ) → P v → (eqb b v ≡ false → P b) → P b
    at v p f = elim (eqb_tells b v) [ inl is ↦ subst P (sym is.1) p | inr not ↦ f not.0 ]

abbrev TextKept : List ℕ → ℕ → Type 0
TextKept s b = unescaped_from (between 0) (spelled_byte b ++ s) ≡ b ∷ unescaped_from (between 0) s

quote_text : (s : List ℕ) → TextKept s 34
unfolding unescaped_from spelled_byte
quote_text s = refl

backslash_text : (s : List ℕ) → TextKept s 92
unfolding unescaped_from spelled_byte
backslash_text s = refl

short_text : (s : List ℕ) → TextKept s 8 × TextKept s 9 × TextKept s 10 × TextKept s 12 × TextKept s 13
unfolding unescaped_from spelled_byte
short_text s = (refl, refl, refl, refl, refl)

control_text : (b : ℕ) (s : List ℕ) → b < 32 → eqb b 34 ≡ false → eqb b 92 ≡ false → TextKept s b
control_text b s low q e = controls b (TextKept s) (record {
  eight = (short_text s).0;
  nine = (short_text s).1;
  ten = (short_text s).2;
  twelve = (short_text s).3;
  thirteen = (short_text s).4;
  others = λ none. by_number none;
})
  where
    by_number : short_letter b ≡ 0 → TextKept s b
    by_number none = ap (λ l. unescaped_from (between 0) (l ++ s)) (control_byte b q e low ∙ ap (λ x. cond (eqb x 0) (numbered b) (92 ∷ x ∷ [])) none) ∙ numbered_text b s low

plain_text : (b : ℕ) (s : List ℕ) → spelled_byte b ≡ b ∷ [] → eqb b 92 ≡ false → TextKept s b
unfolding unescaped_from
plain_text b s is e = ap (λ l. unescaped_from (between 0) (l ++ s)) is ∙ rw e refl

byte_text : (b : ℕ) (s : List ℕ) → TextKept s b
byte_text b s = elim (eqb_tells b 34) [
  | inl is ↦ subst (TextKept s) (sym is.1) (quote_text s)
  | inr not_quote ↦ elim (eqb_tells b 92) [
    | inl is ↦ subst (TextKept s) (sym is.1) (backslash_text s)
    | inr not_backslash ↦ elim (cases_lt b 32) [
      | inl low ↦ control_text b s low not_quote.0 not_backslash.0
      | inr high ↦ plain_text b s (other_byte b not_quote.0 not_backslash.0 high) not_backslash.0
    ]
  ]
]

pub spelled_text : (text : List ℕ) → unescaped (spelled text) ≡ text
spelled_text [] = unescaped_nil (between 0)
spelled_text (b ∷ text) = byte_text b (spelled text) ∙ ap (λ l. b ∷ l) (spelled_text text)

-- ---- the states of a string over a spelling

abbrev Leads : List ℕ → ℕ → Type 0
Leads t b = Course (plain false) (spelled_byte b ++ t) t (plain false)

quote_leads : (t : List ℕ) → Leads t 34
unfolding spelled_byte is_numbered next
quote_leads t = on refl refl (on refl refl here)

backslash_leads : (t : List ℕ) → Leads t 92
unfolding spelled_byte is_numbered next
backslash_leads t = on refl refl (on refl refl here)

short_leads : (t : List ℕ) → Leads t 8 × Leads t 9 × Leads t 10 × Leads t 12 × Leads t 13
unfolding spelled_byte is_numbered next
short_leads t = (on refl refl (on refl refl here), on refl refl (on refl refl here), on refl refl (on refl refl here), on refl refl (on refl refl here), on refl refl (on refl refl here))

low_not_lone : (bytes : List ℕ) (b : ℕ) → b < 32 → unit_of bytes 0 ≡ b → is_lone false bytes 0 ≡ false
low_not_lone bytes b h is =
    let high : leb 0xd800 b ≡ false = grind (arith, nat_tests) in
    let low : leb 0xdc00 b ≡ false = grind (arith, nat_tests) in
    rw (is, high, low) (no_and (is_numbered bytes 0) _)
  where
    no_and : (a c : Bool) → ((a && false && c) || (a && false && true)) ≡ false
    no_and true c = refl
    no_and false c = refl

unit_is : (b : ℕ) (t : List ℕ) → b < 32 → unit_of (numbered b ++ t) 0 ≡ b
unfolding unit_of
unit_is b t h =
    let first : hex_value (hex_digit (b / 16)) ≡ b / 16 = hex_back (b / 16) (omega (arith, h)) in
    let second : hex_value (hex_digit (b % 16)) ≡ b % 16 = hex_back (b % 16) (omega arith) in
    rw (first, second) (omega (arith, h))

digit_next : (count unit d : ℕ) → is_hex_digit d ≡ true → next (digits count unit) d ≡ Some (after_digit count ((16 * unit + hex_value d) % 65536))
unfolding next
digit_next count unit d h = rw h refl

number_leads : (b : ℕ) (t : List ℕ) → b < 32 → Course (plain false) (numbered b ++ t) t (plain false)
unfolding next
number_leads b t h =
    let last : (16 * ((16 * 0 + hex_value (hex_digit (b / 16))) % 65536) + hex_value (hex_digit (b % 16))) % 65536 ≡ b = last_digit b h in
    let high : leb 0xd800 b ≡ false = grind (arith, nat_tests) in
    let ends_plain : after_digit 0 ((16 * ((16 * 0 + hex_value (hex_digit (b / 16))) % 65536) + hex_value (hex_digit (b % 16))) % 65536) ≡ plain false = ap (after_digit 0) last ∙ ap plain (rw high refl) in
    on (low_not_lone (numbered b ++ t) b h (unit_is b t h)) refl (on refl refl (on refl refl (on refl refl
    (on refl (digit_next 1 0 (hex_digit (b / 16)) (hex_is (b / 16) (omega (arith, h)))) (on refl (digit_next 0 ((16 * 0 + hex_value (hex_digit (b / 16))) % 65536) (hex_digit (b % 16)) (hex_is (b % 16) (omega arith)) ∙ ap Some ends_plain) here)))))

control_leads : (b : ℕ) (t : List ℕ) → b < 32 → eqb b 34 ≡ false → eqb b 92 ≡ false → Leads t b
control_leads b t low q e = controls b (Leads t) (record {
  eight = (short_leads t).0;
  nine = (short_leads t).1;
  ten = (short_leads t).2;
  twelve = (short_leads t).3;
  thirteen = (short_leads t).4;
  others = λ none. by_number none;
})
  where
    by_number : short_letter b ≡ 0 → Leads t b
    by_number none = subst (λ l. Course (plain false) (l ++ t) t (plain false)) (sym (control_byte b q e low ∙ ap (λ x. cond (eqb x 0) (numbered b) (92 ∷ x ∷ [])) none)) (number_leads b t low)

plain_leads : (b : ℕ) (t : List ℕ) → 32 ≤ b → b < 128 → eqb b 34 ≡ false → eqb b 92 ≡ false → Course (plain false) (b ∷ t) t (plain false)
unfolding next
plain_leads b t low high q e =
    let control : ltb b 0x20 ≡ false = le-ltb b 0x20 low in
    let ascii : ltb b 0x80 ≡ true = lt-ltb b 0x80 high in
    on (not_lone (b ∷ t) 0 false e) (rw (q, e, control, ascii) refl) here

byte_leads : (b : ℕ) (t : List ℕ) → b < 128 → Leads t b
byte_leads b t ascii = elim (eqb_tells b 34) [
  | inl is ↦ subst (Leads t) (sym is.1) (quote_leads t)
  | inr not_quote ↦ elim (eqb_tells b 92) [
    | inl is ↦ subst (Leads t) (sym is.1) (backslash_leads t)
    | inr not_backslash ↦ elim (cases_lt b 32) [
      | inl low ↦ control_leads b t low not_quote.0 not_backslash.0
      | inr high ↦ subst (λ l. Course (plain false) (l ++ t) t (plain false)) (sym (other_byte b not_quote.0 not_backslash.0 high)) (plain_leads b t high ascii not_quote.0 not_backslash.0)
    ]
  ]
]

-- ---- the whole spelling

high_front : (x : ℕ) (xs : List ℕ) → 128 ≤ x → spelled xs ≡ xs → spelled (x ∷ xs) ≡ x ∷ xs
high_front x xs l e = ap (λ s. s ++ spelled xs) (plain_byte x not_special) ∙ ap (λ s. x ∷ s) e
  where
    not_special : is_special x ≡ false
    not_special = grind (arith, nat_tests)

high_spelled : (c : ℕ) → 128 ≤ c → spelled (encode c) ≡ encode c
high_spelled c l = elim (cases_lt c 2048) [
  | inl low ↦ ap spelled (two c l low) ∙ high_front (192 + c / 64) (next_byte c ∷ []) (omega arith) (high_front (next_byte c) [] (omega arith) refl) ∙ sym (two c l low)
  | inr over ↦ elim (cases_lt c 65536) [
    | inl small ↦ ap spelled (three c over small) ∙ high_front (224 + c / 4096) (next_byte (c / 64) ∷ next_byte c ∷ []) (omega arith) (high_front (next_byte (c / 64)) (next_byte c ∷ []) (omega arith) (high_front (next_byte c) [] (omega arith) refl)) ∙ sym (three c over small)
    | inr large ↦ ap spelled (four c large) ∙ high_front (240 + c / 262144) (next_byte (c / 4096) ∷ next_byte (c / 64) ∷ next_byte c ∷ []) (omega arith) (high_front (next_byte (c / 4096)) (next_byte (c / 64) ∷ next_byte c ∷ []) (omega arith) (high_front (next_byte (c / 64)) (next_byte c ∷ []) (omega arith) (high_front (next_byte c) [] (omega arith) refl))) ∙ sym (four c large)
  ]
]

char_leads : (c : ℕ) (t : List ℕ) → scalar c ≡ true → Course (plain false) (spelled (encode c) ++ t) t (plain false)
char_leads c t ok = elim (cases_lt c 128) [
  | inl ascii ↦ subst (λ l. Course (plain false) (l ++ t) t (plain false)) (sym (append-nil (spelled_byte c)) ∙ ap spelled (sym (encode_ascii c ascii))) (byte_leads c t ascii)
  | inr high ↦ subst (λ l. Course (plain false) (l ++ t) t (plain false)) (sym (high_spelled c high)) (character_course c false t high ok)
]

text_leads : (cs t : List ℕ) → scalars cs ≡ true → Course (plain false) (spelled (encodes cs) ++ t) t (plain false)
text_leads [] t ok = here
text_leads (c ∷ cs) t ok =
    let both = and_yes (scalar c) (scalars cs) ok in
    let front : spelled (encodes (c ∷ cs)) ++ t ≡ spelled (encode c) ++ (spelled (encodes cs) ++ t) = ap (λ l. l ++ t) (spelled-append (encode c) (encodes cs)) ∙ append_assoc (spelled (encode c)) (spelled (encodes cs)) t in
    subst (λ l. Course (plain false) l t (plain false)) (sym front) (course_on (plain false) (spelled (encode c) ++ (spelled (encodes cs) ++ t)) (spelled (encodes cs) ++ t) (plain false) t (plain false) (char_leads c (spelled (encodes cs) ++ t) both.0) (text_leads cs t both.1))

pub spelling_leads : (text t : List ℕ) → IsUtf8 text → Course (plain false) (spelled text ++ t) t (plain false)
spelling_leads text t utf8 = subst (λ l. Course (plain false) (spelled l ++ t) t (plain false)) utf8.1.1 (text_leads utf8.0 t utf8.1.0)
