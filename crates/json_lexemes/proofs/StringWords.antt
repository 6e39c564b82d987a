-- Strings: the diagram of states beside the productions.
use Rattle.std.proofs.Common.{◌≡◌, ◌≢◌, inl, inr, ℕ, zero, suc, ◌+◌, ◌*◌, ◌%◌, ◌<◌, ◌≤◌, Bool, true, false, ◌||◌, cond, eqb, ltb, leb, le-leb, le-ltb, lt-ltb, List, [], ◌∷◌, ◌++◌, Some, None, refl, sym, ap, subst, ◌∙◌, arith, append_assoc}
use Rattle.std.proofs.lemmas.Bool.{cases_lt, leb-true, ltb-true, ltb-false, ne_eqb, eqb-false}
use Rattle.std.proofs.lemmas.Str.{encode_ascii}
use Rattle.std.specs.List.{AllByRecursion}
use lib.Utf8.{scalar, scalar_cases, encode, low_scalar}
use Rattle.json_lexemes.specs.declared.kind.Kind.{Kind}
use Rattle.json_lexemes.specs.declared.kind.Kind.TheVariants as kinds
use Rattle.json_lexemes.specs.declared.lexeme.Second.{Second}
use Rattle.json_lexemes.specs.declared.lexeme.Second.TheVariants.{Any as any}
use Rattle.json_lexemes.specs.declared.lexeme.Lexeme.{Lexeme}
use Rattle.json_lexemes.specs.declared.lexeme.Lexeme.TheVariants.{Plain as plain, Tail as tail, Escape as escape, Digits as digits, Closed as closed}
use Rattle.json_lexemes.specs.Lexeme.{next, ends, is_digit, is_hex_digit, is_short_escape, hex_value, is_high_surrogate, within, least, greatest, leads, after_tail, after_digit}
use Rattle.json_lexemes.specs.Productions.{Char, unescaped, short, numbered, IsChar, IsHexDigit, bytes_of, inside_of}
use Rattle.json_lexemes.proofs.Tables.{none_some, is_it, or_yes, and_yes}
use Rattle.json_lexemes.proofs.Utf8Texts.{Continues, is_lead, high_scalar}
use Rattle.json_lexemes.proofs.Characters.{character_course}
use Rattle.json_lexemes.proofs.Accepted.{Accepts, course_accepts}
use Rattle.json_lexemes.proofs.NumberWords.{chosen, digit_yes, digit_test}

-- ---- tests

hex_yes : (byte : ℕ) → is_hex_digit byte ≡ true → IsHexDigit byte
hex_yes byte h = elim (or_yes (is_digit byte || within 65 70 byte) (within 97 102 byte) h) [
  | inl a ↦ elim (or_yes (is_digit byte) (within 65 70 byte) a) [
    | inl d ↦ inl (digit_yes byte d)
    | inr u ↦ (let both = and_yes (leb 65 byte) (leb byte 70) u in inr (inl (leb-true 65 byte both.0, leb-true byte 70 both.1)))
  ]
  | inr l ↦ (let both = and_yes (leb 97 byte) (leb byte 102) l in inr (inr (leb-true 97 byte both.0, leb-true byte 102 both.1)))
]

or_true : (b : Bool) → (b || true) ≡ true
or_true true = refl
or_true false = refl

pub hex_test : (byte : ℕ) → IsHexDigit byte → is_hex_digit byte ≡ true
hex_test byte (inl d) = ap (λ b. b || within 65 70 byte || within 97 102 byte) (digit_test byte d)
hex_test byte (inr (inl u)) = let low = le-leb 65 byte u.0 in let high = le-leb byte 70 u.1 in rw (low, high) (ap (λ b. b || within 97 102 byte) (or_true (is_digit byte)))
hex_test byte (inr (inr l)) = let low = le-leb 97 byte l.0 in let high = le-leb byte 102 l.1 in rw (low, high) (or_true (is_digit byte || within 65 70 byte))

short_yes : (byte : ℕ) → is_short_escape byte ≡ true → IsChar (short byte)
short_yes byte h = by7 h
  where
    last : {rest : Bool} (v : ℕ) (P : Type 0) → (rest || eqb byte v) ≡ true → (rest ≡ true → P) → (byte ≡ v → P) → P
    last {rest} v P e f g = elim (or_yes rest (eqb byte v) e) [ inl r ↦ f r | inr l ↦ g (is_it byte v l) ]

    by7 : is_short_escape byte ≡ true → IsChar (short byte)
    by7 e = last 116 (IsChar (short byte)) e (λ e. last 114 (IsChar (short byte)) e (λ e. last 110 (IsChar (short byte)) e (λ e. last 102 (IsChar (short byte)) e (λ e. last 98 (IsChar (short byte)) e (λ e. last 47 (IsChar (short byte)) e (λ e. last 92 (IsChar (short byte)) e (λ e. inl (is_it byte 34 e)) (λ i. inr (inl i))) (λ i. inr (inr (inl i)))) (λ i. inr (inr (inr (inl i))))) (λ i. inr (inr (inr (inr (inl i)))))) (λ i. inr (inr (inr (inr (inr (inl i))))))) (λ i. inr (inr (inr (inr (inr (inr (inl i)))))))) (λ i. inr (inr (inr (inr (inr (inr (inr i)))))))

-- each letter of a short escape
pub short_each : (byte : ℕ) (P : ℕ → Type 0) → IsChar (short byte) → P 34 × P 92 × P 47 × P 98 × P 102 × P 110 × P 114 × P 116 → P byte
short_each byte P (inl e) p = subst P (sym e) p.0
short_each byte P (inr (inl e)) p = subst P (sym e) p.1
short_each byte P (inr (inr (inl e))) p = subst P (sym e) p.2
short_each byte P (inr (inr (inr (inl e)))) p = subst P (sym e) p.3
short_each byte P (inr (inr (inr (inr (inl e))))) p = subst P (sym e) p.4
short_each byte P (inr (inr (inr (inr (inr (inl e)))))) p = subst P (sym e) p.5
short_each byte P (inr (inr (inr (inr (inr (inr (inl e))))))) p = subst P (sym e) p.6
short_each byte P (inr (inr (inr (inr (inr (inr (inr e))))))) p = subst P (sym e) p.7

-- ---- what is left of a string, by its state

-- characters, and the last quote
pub record Chars (bytes : List ℕ) : Type 0 where
  pub chars : List Char
  pub are : AllByRecursion IsChar chars
  pub is : bytes ≡ inside_of chars ++ 34 ∷ []

abbrev AreHex : ℕ → List ℕ → Type 0
AreHex count [] = ⊥
AreHex zero (d ∷ []) = IsHexDigit d
AreHex zero (d ∷ e ∷ ds) = ⊥
AreHex (suc count) (d ∷ ds) = IsHexDigit d × AreHex count ds

abbrev Left : Lexeme → List ℕ → Type 0
Left (plain high) bytes = Chars bytes
Left (tail second count) bytes = (ys : List ℕ) × (others : List ℕ) × (bytes ≡ ys ++ others) × Continues second count ys × Chars others
Left escape bytes = Chars (92 ∷ bytes)
Left (digits count unit) bytes = (ds : List ℕ) × (others : List ℕ) × (bytes ≡ ds ++ others) × AreHex count ds × Chars others
Left closed bytes = bytes ≡ []
Left other bytes = Unit {0}

left_as : (word after : Lexeme) (w : List ℕ) → word ≡ after → Left after w → Left word w
left_as word after w e h = subst (λ q. Left q w) (sym e) h

-- one more character in front
one_more : (c : Char) (w others : List ℕ) → IsChar c → w ≡ bytes_of c ++ others → Chars others → Chars w
one_more c w others ok e h = record { chars = c ∷ h.chars; are = (ok, h.are); is = e ∙ ap (λ l. bytes_of c ++ l) h.is ∙ sym (append_assoc (bytes_of c) (inside_of h.chars) (34 ∷ [])) }

ascii_char : (byte : ℕ) → eqb byte 34 ≡ false → eqb byte 92 ≡ false → 32 ≤ byte → byte < 128 → IsChar (unescaped byte)
ascii_char byte q s low high =
    let quote = eqb-false byte 34 q in
    let slash = eqb-false byte 92 s in
    elim (cases_lt byte 34) [
      | inl a ↦ inl (low, omega (arith, a))
      | inr a ↦ elim (cases_lt byte 92) [
        | inl b ↦ inr (inl (omega (arith, a, quote), omega (arith, b)))
        | inr b ↦ inr (inr (inl (omega (arith, b, slash), omega (arith, high))))
      ]
    ]

high_char : (c : ℕ) → scalar c ≡ true → 128 ≤ c → IsChar (unescaped c)
high_char c ok high = elim (scalar_cases c ok) [
  | inl low ↦ inr (inr (inl (omega (arith, high), omega (arith, low))))
  | inr above ↦ inr (inr (inr (above.0, omega (arith, above.1))))
]

plain_left : (byte : ℕ) (after : Lexeme) (w : List ℕ) (a b c d : Bool) → eqb byte 34 ≡ a → eqb byte 92 ≡ b → ltb byte 0x20 ≡ c → ltb byte 0x80 ≡ d → cond a (Some closed) (cond b (Some escape) (cond c None (cond d (Some (plain false)) (leads byte)))) ≡ Some after → Left after w → Chars (byte ∷ w)
plain_left byte after w true b c d ea eb ec ed e h =
    let is : closed ≡ after = cc in
    record { chars = []; are = tt; is = ap (λ x. x ∷ w) (is_it byte 34 ea) ∙ ap (λ l. 34 ∷ l) (left_as closed after w is h) }
plain_left byte after w false true c d ea eb ec ed e h =
    let is : escape ≡ after = cc in
    subst (λ x. Chars (x ∷ w)) (sym (is_it byte 92 eb)) (left_as escape after w is h)
plain_left byte after w false false true d ea eb ec ed e h = none_some after _ e
plain_left byte after w false false false true ea eb ec ed e h =
    let is : plain false ≡ after = cc in
    let low = ltb-false byte 0x20 ec in
    let high = ltb-true byte 0x80 ed in
    one_more (unescaped byte) (byte ∷ w) w (ascii_char byte ea eb low high) (ap (λ l. l ++ w) (sym (encode_ascii byte high))) (left_as (plain false) after w is h)
plain_left byte after w false false false false ea eb ec ed e h =
    let lead = is_lead byte after e in
    let rest = left_as (tail lead.second lead.more) after w (sym lead.is) h in
    let char = lead.begun.char rest.0 rest.3 in
    one_more (unescaped char.c) (byte ∷ w) rest.1 (high_char char.c char.ok char.high) (ap (λ l. byte ∷ l) rest.2 ∙ ap (λ l. l ++ rest.1) (sym char.is)) rest.4

tail_left : (second : Second) (count byte : ℕ) (after : Lexeme) (w : List ℕ) → cond (within (least second) (greatest second) byte) (Some (after_tail count)) None ≡ Some after → Left after w → Left (tail second count) (byte ∷ w)
tail_left second zero byte after w e h = elim (chosen (within (least second) (greatest second) byte) (plain false) None after e) [
  | inl is ↦ (let both = and_yes (leb (least second) byte) (leb byte (greatest second)) is.0 in (byte ∷ [], w, refl, (leb-true (least second) byte both.0, leb-true byte (greatest second) both.1), left_as (plain false) after w is.1 h))
  | inr not ↦ none_some after _ not.1
]
tail_left second (suc count) byte after w e h = elim (chosen (within (least second) (greatest second) byte) (tail any count) None after e) [
  | inl is ↦ (let both = and_yes (leb (least second) byte) (leb byte (greatest second)) is.0 in let rest = left_as (tail any count) after w is.1 h in (byte ∷ rest.0, rest.1, ap (λ l. byte ∷ l) rest.2, (leb-true (least second) byte both.0, leb-true byte (greatest second) both.1, rest.3), rest.4))
  | inr not ↦ none_some after _ not.1
]

four_hex : (w ds others : List ℕ) → w ≡ ds ++ others → AreHex 3 ds → Chars others → Chars (92 ∷ 117 ∷ w)
four_hex w [] others e h c = absurd h
four_hex w (d1 ∷ []) others e h c = absurd h.1
four_hex w (d1 ∷ d2 ∷ []) others e h c = absurd h.1.1
four_hex w (d1 ∷ d2 ∷ d3 ∷ []) others e h c = absurd h.1.1.1
four_hex w (d1 ∷ d2 ∷ d3 ∷ d4 ∷ []) others e h c = one_more (numbered d1 d2 d3 d4) (92 ∷ 117 ∷ w) others (h.0, h.1.0, h.1.1.0, h.1.1.1) (ap (λ l. 92 ∷ 117 ∷ l) e) c
four_hex w (d1 ∷ d2 ∷ d3 ∷ d4 ∷ d5 ∷ ds) others e h c = absurd h.1.1.1

escape_left : (byte : ℕ) (after : Lexeme) (w : List ℕ) → cond (eqb byte 117) (Some (digits 3 0)) (cond (is_short_escape byte) (Some (plain false)) None) ≡ Some after → Left after w → Chars (92 ∷ byte ∷ w)
escape_left byte after w e h = elim (chosen (eqb byte 117) (digits 3 0) (cond (is_short_escape byte) (Some (plain false)) None) after e) [
  | inl is ↦ (let rest = left_as (digits 3 0) after w is.1 h in subst (λ b. Chars (92 ∷ b ∷ w)) (sym (is_it byte 117 is.0)) (four_hex w rest.0 rest.1 rest.2 rest.3 rest.4))
  | inr not ↦ elim (chosen (is_short_escape byte) (plain false) None after not.1) [
    | inl is ↦ one_more (short byte) (92 ∷ byte ∷ w) w (short_yes byte is.0) refl (left_as (plain false) after w is.1 h)
    | inr other ↦ none_some after _ other.1
  ]
]

digits_left : (count unit byte u : ℕ) (after : Lexeme) (w : List ℕ) → cond (is_hex_digit byte) (Some (after_digit count u)) None ≡ Some after → Left after w → Left (digits count unit) (byte ∷ w)
digits_left zero unit byte u after w e h = elim (chosen (is_hex_digit byte) (plain (is_high_surrogate u)) None after e) [
  | inl is ↦ (byte ∷ [], w, refl, hex_yes byte is.0, left_as (plain (is_high_surrogate u)) after w is.1 h)
  | inr not ↦ none_some after _ not.1
]
digits_left (suc count) unit byte u after w e h = elim (chosen (is_hex_digit byte) (digits count u) None after e) [
  | inl is ↦ (let rest = left_as (digits count u) after w is.1 h in (byte ∷ rest.0, rest.1, ap (λ l. byte ∷ l) rest.2, (hex_yes byte is.0, rest.3), rest.4))
  | inr not ↦ none_some after _ not.1
]

left_more : (q : Lexeme) (byte : ℕ) (after : Lexeme) (w : List ℕ) → next q byte ≡ Some after → Left after w → Left q (byte ∷ w)
unfolding next
left_more (plain high) byte after w e h = plain_left byte after w (eqb byte 34) (eqb byte 92) (ltb byte 0x20) (ltb byte 0x80) refl refl refl refl e h
left_more (tail second count) byte after w e h = tail_left second count byte after w e h
left_more escape byte after w e h = escape_left byte after w e h
left_more (digits count unit) byte after w e h = digits_left count unit byte _ after w e h
left_more closed byte after w e h = none_some after _ e
left_more other byte after w e h = tt

left_end : (q : Lexeme) (kind : Kind) → ends q ≡ Some kind → Left q []
unfolding ends
left_end (plain high) kind e = none_some kind _ e
left_end (tail second count) kind e = none_some kind _ e
left_end escape kind e = none_some kind _ e
left_end (digits count unit) kind e = none_some kind _ e
left_end closed kind e = refl
left_end other kind e = tt

pub string_left : (q : Lexeme) (w : List ℕ) (kind : Kind) → Accepts q w kind → Left q w
string_left q [] kind h = left_end q kind h
string_left q (byte ∷ w) kind h = left_more q byte h.0 w h.1 (string_left h.0 w kind h.2)

-- ---- and back

quote_next : (high : Bool) → next (plain high) 34 ≡ Some closed
unfolding next
quote_next high = refl

closed_end : ends closed ≡ Some kinds.Text
unfolding ends
closed_end = refl

slash_next : (high : Bool) → next (plain high) 92 ≡ Some escape
unfolding next
slash_next high = refl

u_next : next escape 117 ≡ Some (digits 3 0)
unfolding next
u_next = refl

short_next : (letter : ℕ) → IsChar (short letter) → next escape letter ≡ Some (plain false)
unfolding next
short_next letter h = short_each letter (λ l. next escape l ≡ Some (plain false)) h (refl, refl, refl, refl, refl, refl, refl, refl)

hex_next : (count unit d : ℕ) → IsHexDigit d → next (digits count unit) d ≡ Some (after_digit count ((16 * unit + hex_value d) % 65536))
unfolding next
hex_next count unit d h = let is = hex_test d h in rw is refl

ascii_next : (c : ℕ) (high : Bool) → eqb c 34 ≡ false → eqb c 92 ≡ false → 32 ≤ c → c < 128 → next (plain high) c ≡ Some (plain false)
unfolding next
ascii_next c high q s low ascii = let a = le-ltb c 0x20 low in let b = lt-ltb c 0x80 ascii in rw (q, s, a, b) refl

-- what a character that stands for itself isn't
pub record Stands (c : ℕ) : Type 0 where
  pub low : 32 ≤ c
  pub quote : c ≢ 34
  pub slash : c ≢ 92
  pub ok : scalar c ≡ true

pub itself : (c : ℕ) → IsChar (unescaped c) → Stands c
itself c (inl h) = record { low = omega (arith, h); quote = λ e. omega (arith, e, h); slash = λ e. omega (arith, e, h); ok = low_scalar c (omega (arith, h)) }
itself c (inr (inl h)) = record { low = omega (arith, h); quote = λ e. omega (arith, e, h); slash = λ e. omega (arith, e, h); ok = low_scalar c (omega (arith, h)) }
itself c (inr (inr (inl h))) = record { low = omega (arith, h); quote = λ e. omega (arith, e, h); slash = λ e. omega (arith, e, h); ok = low_scalar c (omega (arith, h)) }
itself c (inr (inr (inr h))) = record { low = omega (arith, h); quote = λ e. omega (arith, e, h); slash = λ e. omega (arith, e, h); ok = high_scalar c h.0 (omega (arith, h)) }

char_accepts : (c : Char) (w : List ℕ) (high : Bool) → IsChar c → ((still : Bool) → Accepts (plain still) w kinds.Text) → Accepts (plain high) (bytes_of c ++ w) kinds.Text
char_accepts (unescaped c) w high h further =
    let is = itself c h in
    elim (cases_lt c 128) [
      | inl ascii ↦ subst (λ l. Accepts (plain high) (l ++ w) kinds.Text) (sym (encode_ascii c ascii)) (plain false, ascii_next c high (ne_eqb c 34 is.quote) (ne_eqb c 92 is.slash) is.low ascii, further false)
      | inr above ↦ course_accepts (plain high) (encode c ++ w) w (plain false) kinds.Text (character_course c high w above is.ok) (further false)
    ]
char_accepts (short letter) w high h further = (escape, slash_next high, (plain false, short_next letter h, further false))
char_accepts (numbered a b c d) w high h further =
    let u1 = (16 * 0 + hex_value a) % 65536 in
    let u2 = (16 * u1 + hex_value b) % 65536 in
    let u3 = (16 * u2 + hex_value c) % 65536 in
    let u4 = (16 * u3 + hex_value d) % 65536 in
    (escape, slash_next high, (digits 3 0, u_next, (digits 2 u1, hex_next 3 0 a h.0, (digits 1 u2, hex_next 2 u1 b h.1, (digits 0 u3, hex_next 1 u2 c h.2, (plain (is_high_surrogate u4), hex_next 0 u3 d h.3, further (is_high_surrogate u4)))))))

chars_accept : (chars : List Char) (high : Bool) → AllByRecursion IsChar chars → Accepts (plain high) (inside_of chars ++ 34 ∷ []) kinds.Text
chars_accept [] high h = (closed, quote_next high, closed_end)
chars_accept (c ∷ chars) high h =
    subst (λ l. Accepts (plain high) l kinds.Text) (sym (append_assoc (bytes_of c) (inside_of chars) (34 ∷ []))) (char_accepts c (inside_of chars ++ 34 ∷ []) high h.0 (λ still. chars_accept chars still h.1))

pub string_accepts : (w : List ℕ) → Chars w → Accepts (plain false) w kinds.Text
string_accepts w h = subst (λ l. Accepts (plain false) l kinds.Text) (sym h.is) (chars_accept h.chars false h.are)
