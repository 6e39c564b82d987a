-- The text that the characters of a string spell.
use Rattle.std.proofs.Common.{◌≡◌, ◌≢◌, inl, inr, ℕ, ◌+◌, ◌-◌, ◌*◌, ◌/◌, ◌%◌, ◌<◌, ◌≤◌, Bool, true, false, ◌||◌, ◌&&◌, cond, eqb, ltb, leb, le-leb, le-ltb, lt-ltb, List, [], ◌∷◌, ◌++◌, refl, sym, ap, subst, ◌∙◌, arith, append-nil}
use Rattle.std.proofs.lemmas.Bool.{cases_lt, leb-true, ne_eqb}
use Rattle.std.proofs.lemmas.Bool.Decides.{nat_tests}
use Rattle.std.proofs.lemmas.Str.{encode_ascii}
use Rattle.std.specs.List.{AllByRecursion}
use lib.Utf8.{encode, next as next_byte}
use Rattle.json_lexemes.specs.declared.unescape.Pending.TheVariants.{Between as between}
use Rattle.json_lexemes.specs.Lexeme.{within, hex_value, is_high_surrogate, is_low_surrogate}
use Rattle.json_lexemes.specs.Unescape.{unescaped_from, short_value, unit_with, unit_bytes, after_unit, character, character_bytes}
use Rattle.json_lexemes.specs.Productions.{Char, unescaped, short, numbered, IsChar, IsHexDigit, bytes_of, inside_of, number_of, paired, alone, text_of}
use Rattle.json_lexemes.proofs.Tables.{and_yes}
use Rattle.json_lexemes.proofs.Pieces.{unescaped_nil}
use Rattle.json_lexemes.proofs.Utf8Texts.{two, three, four}
use Rattle.json_lexemes.proofs.StringWords.{Stands, itself, short_each}

-- ---- one character, whatever surrogate waits before it

plain_on : (waiting byte : ℕ) (s : List ℕ) → byte ≢ 92 → unescaped_from (between waiting) (byte ∷ s) ≡ byte ∷ unescaped_from (between 0) s
unfolding unescaped_from
plain_on waiting byte s other = let e : eqb byte 92 ≡ false = ne_eqb byte 92 other in rw e refl

itself_on : (waiting c : ℕ) (s : List ℕ) → Stands c → unescaped_from (between waiting) (encode c ++ s) ≡ encode c ++ unescaped_from (between 0) s
itself_on waiting c s h = elim (cases_lt c 128) [
  | inl ascii ↦ ap (λ l. unescaped_from (between waiting) (l ++ s)) (encode_ascii c ascii) ∙ plain_on waiting c s h.slash ∙ ap (λ l. l ++ unescaped_from (between 0) s) (sym (encode_ascii c ascii))
  | inr above ↦ elim (cases_lt c 2048) [
    | inl low ↦ kept (encode c) ((192 + c / 64) ∷ next_byte c ∷ []) (two c above low) (high_on waiting (192 + c / 64) (next_byte c ∷ s) (omega arith) ∙ ap (λ l. (192 + c / 64) ∷ l) (last_on c))
    | inr over ↦ elim (cases_lt c 65536) [
      | inl small ↦ kept (encode c) ((224 + c / 4096) ∷ next_byte (c / 64) ∷ next_byte c ∷ []) (three c over small) (high_on waiting (224 + c / 4096) (next_byte (c / 64) ∷ next_byte c ∷ s) (omega arith) ∙ ap (λ l. (224 + c / 4096) ∷ l) (last_two_on c))
      | inr large ↦ kept (encode c) ((240 + c / 262144) ∷ next_byte (c / 4096) ∷ next_byte (c / 64) ∷ next_byte c ∷ []) (four c large)
          (high_on waiting (240 + c / 262144) (next_byte (c / 4096) ∷ next_byte (c / 64) ∷ next_byte c ∷ s) (omega arith) ∙ ap (λ l. (240 + c / 262144) ∷ l) (high_on 0 (next_byte (c / 4096)) (next_byte (c / 64) ∷ next_byte c ∷ s) (omega arith) ∙ ap (λ l. next_byte (c / 4096) ∷ l) (last_two_on c)))
    ]
  ]
]
  where
    high_on : (waiting byte : ℕ) (s : List ℕ) → 128 ≤ byte → unescaped_from (between waiting) (byte ∷ s) ≡ byte ∷ unescaped_from (between 0) s
    high_on waiting byte s l = plain_on waiting byte s (λ e. omega (arith, e, l))

    last_on : (c : ℕ) → unescaped_from (between 0) (next_byte c ∷ s) ≡ next_byte c ∷ unescaped_from (between 0) s
    last_on c = high_on 0 (next_byte c) s (omega arith)

    last_two_on : (c : ℕ) → unescaped_from (between 0) (next_byte (c / 64) ∷ next_byte c ∷ s) ≡ next_byte (c / 64) ∷ next_byte c ∷ unescaped_from (between 0) s
    last_two_on c = high_on 0 (next_byte (c / 64)) (next_byte c ∷ s) (omega arith) ∙ ap (λ l. next_byte (c / 64) ∷ l) (last_on c)

    kept : (e bytes : List ℕ) → e ≡ bytes → unescaped_from (between waiting) (bytes ++ s) ≡ bytes ++ unescaped_from (between 0) s → unescaped_from (between waiting) (e ++ s) ≡ e ++ unescaped_from (between 0) s
    kept e bytes is h = subst (λ l. unescaped_from (between waiting) (l ++ s) ≡ l ++ unescaped_from (between 0) s) (sym is) h

short_on : (waiting letter : ℕ) (s : List ℕ) → IsChar (short letter) → unescaped_from (between waiting) (92 ∷ letter ∷ s) ≡ short_value letter ∷ unescaped_from (between 0) s
unfolding unescaped_from
short_on waiting letter s h = short_each letter (λ l. unescaped_from (between waiting) (92 ∷ l ∷ s) ≡ short_value l ∷ unescaped_from (between 0) s) h (refl, refl, refl, refl, refl, refl, refl, refl)

hex_small : (d : ℕ) → IsHexDigit d → hex_value d < 16
hex_small d (inl h) = grind (arith, nat_tests)
hex_small d (inr (inl h)) = grind (arith, nat_tests)
hex_small d (inr (inr h)) = grind (arith, nat_tests)

unit_is : (a b c d : ℕ) → IsChar (numbered a b c d) → unit_with (unit_with (unit_with (unit_with 0 a) b) c) d ≡ number_of a b c d
unit_is a b c d h = four_digits (hex_value a) (hex_value b) (hex_value c) (hex_value d) (hex_small a h.0) (hex_small b h.1) (hex_small c h.2) (hex_small d h.3)
  where
    four_digits : (x y z w : ℕ) → x < 16 → y < 16 → z < 16 → w < 16 → (16 * ((16 * ((16 * ((16 * 0 + x) % 65536) + y) % 65536) + z) % 65536) + w) % 65536 ≡ 4096 * x + 256 * y + 16 * z + w
    four_digits x y z w hx hy hz hw = omega arith

numbered_on : (waiting a b c d : ℕ) (s : List ℕ) → IsChar (numbered a b c d) → unescaped_from (between waiting) (bytes_of (numbered a b c d) ++ s) ≡ unit_bytes waiting (number_of a b c d) ++ unescaped_from (after_unit (number_of a b c d)) s
unfolding unescaped_from
numbered_on waiting a b c d s h = ap (λ u. unit_bytes waiting u ++ unescaped_from (after_unit u) s) (unit_is a b c d h)

-- ---- surrogates

number_small : (a b c d : ℕ) → IsChar (numbered a b c d) → number_of a b c d < 65536
number_small a b c d h = omega (arith, hex_small a h.0, hex_small b h.1, hex_small c h.2, hex_small d h.3)

and_no : (b : Bool) → (b && false) ≡ false
and_no true = refl
and_no false = refl

single : (u : ℕ) → character 0 u ≡ u
single u = let none : (is_low_surrogate u && false) ≡ false = and_no (is_low_surrogate u) in rw none refl

alone_bytes : (u : ℕ) → u < 65536 → unit_bytes 0 u ≡ alone u
alone_bytes u small = ap (λ c. cond (is_high_surrogate u) [] (character_bytes c)) (single u) ∙ elim (cases_lt u 0xd800) [
  | inl low ↦ (let a : leb 0xd800 u ≡ false = grind (arith, nat_tests) in let b : leb 0xdc00 u ≡ false = grind (arith, nat_tests) in let c : ltb u 0xd800 ≡ true = lt-ltb u 0xd800 low in rw (a, b, c) refl)
  | inr from_high ↦ elim (cases_lt u 0xdc00) [
    | inl high ↦ (let a : leb 0xd800 u ≡ true = le-leb 0xd800 u from_high in let b : leb u 0xdbff ≡ true = le-leb u 0xdbff (omega (arith, high)) in rw (a, b) refl)
    | inr from_low ↦ elim (cases_lt u 0xe000) [
      | inl low ↦ (let a : leb u 0xdbff ≡ false = grind (arith, nat_tests) in let b : leb 0xdc00 u ≡ true = le-leb 0xdc00 u from_low in let c : leb u 0xdfff ≡ true = le-leb u 0xdfff (omega (arith, low)) in let d : leb 0xd800 u ≡ true = le-leb 0xd800 u from_high in let e : ltb u 0xd800 ≡ false = le-ltb u 0xd800 from_high in let f : leb 0xe000 u ≡ false = grind (arith, nat_tests) in rw (d, a, b, c, e, f) refl)
      | inr past ↦ (let a : leb u 0xdbff ≡ false = grind (arith, nat_tests) in let b : leb 0xdc00 u ≡ true = le-leb 0xdc00 u from_low in let c : leb u 0xdfff ≡ false = grind (arith, nat_tests) in let d : leb 0xd800 u ≡ true = le-leb 0xd800 u from_high in let e : ltb u 0xd800 ≡ false = le-ltb u 0xd800 from_high in let f : leb 0xe000 u ≡ true = le-leb 0xe000 u past in let g : leb u 0x10ffff ≡ true = le-leb u 0x10ffff (omega (arith, small)) in rw (d, a, b, c, e, f, g) refl)
    ]
  ]
]

waits : (u : ℕ) (high : Bool) → is_high_surrogate u ≡ high → (waiting : ℕ) × (after_unit u ≡ between waiting)
waits u true e = (u, ap (λ b. cond b (between u) (between 0)) e)
waits u false e = (0, ap (λ b. cond b (between u) (between 0)) e)

-- a high and a low surrogate
pair_bytes : (u v : ℕ) → is_high_surrogate u ≡ true → is_low_surrogate v ≡ true → unit_bytes u v ≡ encode (paired u v)
pair_bytes u v hu lv =
    let high = and_yes (leb 0xd800 u) (leb u 0xdbff) hu in
    let low = and_yes (leb 0xdc00 v) (leb v 0xdfff) lv in
    let a = leb-true 0xd800 u high.0 in
    let b = leb-true u 0xdbff high.1 in
    let c = leb-true 0xdc00 v low.0 in
    let d = leb-true v 0xdfff low.1 in
    let not_high : leb v 0xdbff ≡ false = grind (arith, nat_tests) in
    let some : ltb 0 u ≡ true = lt-ltb 0 u (omega (arith, a)) in
    let is : character u v ≡ paired u v = ap (λ x. cond (x && ltb 0 u) (paired u v) v) lv ∙ ap (λ x. cond x (paired u v) v) some in
    let e : leb 0xe000 (paired u v) ≡ true = le-leb 0xe000 (paired u v) (omega arith) in
    let f : leb (paired u v) 0x10ffff ≡ true = le-leb (paired u v) 0x10ffff (omega (arith, a, b, c, d)) in
    ap (λ x. cond x [] (character_bytes (character u v))) (ap (λ x. leb 0xd800 v && x) not_high ∙ and_no (leb 0xd800 v)) ∙ ap character_bytes is ∙ whole (paired u v) (ltb (paired u v) 0xd800) (ap (λ x. x && leb (paired u v) 0x10ffff) e ∙ f)
  where
    whole : (c : ℕ) (a : Bool) → within 0xe000 0x10ffff c ≡ true → cond (a || within 0xe000 0x10ffff c) (encode c) [] ≡ encode c
    whole c true h = refl
    whole c false h = ap (λ b. cond b (encode c) []) h

not_paired : (u v : ℕ) → is_low_surrogate v ≡ false → unit_bytes u v ≡ unit_bytes 0 v
not_paired u v lv = ap (λ c. cond (is_high_surrogate v) [] (character_bytes c)) (ap (λ x. cond (x && ltb 0 u) (0x10000 + (u - 0xd800) * 1024 + (v - 0xdc00)) v) lv ∙ sym (single v))

low_not_high : (v : ℕ) → is_low_surrogate v ≡ true → is_high_surrogate v ≡ false
low_not_high v lv =
    let low = and_yes (leb 0xdc00 v) (leb v 0xdfff) lv in
    let c = leb-true 0xdc00 v low.0 in
    let not_high : leb v 0xdbff ≡ false = grind (arith, nat_tests) in
    ap (λ x. leb 0xd800 v && x) not_high ∙ and_no (leb 0xd800 v)

high_bytes : (u : ℕ) → is_high_surrogate u ≡ true → unit_bytes 0 u ≡ []
high_bytes u h = ap (λ b. cond b [] (character_bytes (character 0 u))) h

-- a number, and a character that no surrogate before it changes
number_then : (a b c d : ℕ) (s text : List ℕ) → IsChar (numbered a b c d) → ((waiting : ℕ) → unescaped_from (between waiting) s ≡ text) → unescaped_from (between 0) (bytes_of (numbered a b c d) ++ s) ≡ alone (number_of a b c d) ++ text
number_then a b c d s text h further =
    let u = number_of a b c d in
    let w = waits u (is_high_surrogate u) refl in
    numbered_on 0 a b c d s h ∙ ap (λ l. l ++ unescaped_from (after_unit u) s) (alone_bytes u (number_small a b c d h)) ∙ ap (λ p. alone u ++ unescaped_from p s) w.1 ∙ ap (λ l. alone u ++ l) (further w.0)

-- two numbers
two_numbers : (a b c d e f g k : ℕ) (s text whole : List ℕ) (high low : Bool) → IsChar (numbered a b c d) → IsChar (numbered e f g k) → is_high_surrogate (number_of a b c d) ≡ high → is_low_surrogate (number_of e f g k) ≡ low → unescaped_from (between 0) s ≡ text → unescaped_from (between 0) (bytes_of (numbered e f g k) ++ s) ≡ whole
    → unescaped_from (between 0) (bytes_of (numbered a b c d) ++ (bytes_of (numbered e f g k) ++ s)) ≡ cond (high && low) (encode (paired (number_of a b c d) (number_of e f g k)) ++ text) (alone (number_of a b c d) ++ whole)
two_numbers a b c d e f g k s text whole true true h1 h2 hu lv t w =
    let u = number_of a b c d in
    let v = number_of e f g k in
    let s' = bytes_of (numbered e f g k) ++ s in
    numbered_on 0 a b c d s' h1 ∙ ap (λ l. l ++ unescaped_from (after_unit u) s') (high_bytes u hu) ∙ ap (λ b. unescaped_from (cond b (between u) (between 0)) s') hu ∙ numbered_on u e f g k s h2 ∙ ap (λ l. l ++ unescaped_from (after_unit v) s) (pair_bytes u v hu lv)
    ∙ ap (λ b. encode (paired u v) ++ unescaped_from (cond b (between v) (between 0)) s) (low_not_high v lv) ∙ ap (λ l. encode (paired u v) ++ l) t
two_numbers a b c d e f g k s text whole true false h1 h2 hu lv t w =
    let u = number_of a b c d in
    let v = number_of e f g k in
    let s' = bytes_of (numbered e f g k) ++ s in
    numbered_on 0 a b c d s' h1 ∙ ap (λ l. l ++ unescaped_from (after_unit u) s') (alone_bytes u (number_small a b c d h1)) ∙ ap (λ b. alone u ++ unescaped_from (cond b (between u) (between 0)) s') hu
    ∙ ap (λ l. alone u ++ l) (numbered_on u e f g k s h2 ∙ ap (λ l. l ++ unescaped_from (after_unit v) s) (not_paired u v lv) ∙ sym (numbered_on 0 e f g k s h2) ∙ w)
two_numbers a b c d e f g k s text whole false low h1 h2 hu lv t w =
    let u = number_of a b c d in
    let s' = bytes_of (numbered e f g k) ++ s in
    numbered_on 0 a b c d s' h1 ∙ ap (λ l. l ++ unescaped_from (after_unit u) s') (alone_bytes u (number_small a b c d h1)) ∙ ap (λ b. alone u ++ unescaped_from (cond b (between u) (between 0)) s') hu ∙ ap (λ l. alone u ++ l) w

pub text_is : (chars : List Char) → AllByRecursion IsChar chars → unescaped_from (between 0) (inside_of chars) ≡ text_of chars
text_is [] h = unescaped_nil (between 0)
text_is (unescaped c ∷ chars) h = itself_on 0 c (inside_of chars) (itself c h.0) ∙ ap (λ l. encode c ++ l) (text_is chars h.1)
text_is (short letter ∷ chars) h = short_on 0 letter (inside_of chars) h.0 ∙ ap (λ l. short_value letter ∷ l) (text_is chars h.1)
text_is (numbered a b c d ∷ []) h = number_then a b c d [] [] h.0 (λ w. unescaped_nil (between w)) ∙ append-nil (alone (number_of a b c d))
text_is (numbered a b c d ∷ unescaped e ∷ chars) h =
    number_then a b c d (encode e ++ inside_of chars) (encode e ++ text_of chars) h.0 (λ w. itself_on w e (inside_of chars) (itself e h.1.0) ∙ ap (λ l. encode e ++ l) (text_is chars h.1.1))
text_is (numbered a b c d ∷ short letter ∷ chars) h =
    number_then a b c d (92 ∷ letter ∷ inside_of chars) (short_value letter ∷ text_of chars) h.0 (λ w. short_on w letter (inside_of chars) h.1.0 ∙ ap (λ l. short_value letter ∷ l) (text_is chars h.1.1))
text_is (numbered a b c d ∷ numbered e f g k ∷ chars) h =
    two_numbers a b c d e f g k (inside_of chars) (text_of chars) (text_of (numbered e f g k ∷ chars)) (is_high_surrogate (number_of a b c d)) (is_low_surrogate (number_of e f g k)) h.0 h.1.0 refl refl (text_is chars h.1.1) (text_is (numbered e f g k ∷ chars) h.1)
