-- From a string's bytes to the text that it spells.
use Rattle.std.proofs.Common.{◌≡◌, inl, inr, ℕ, zero, suc, ◌+◌, ◌<◌, ◌≤◌, Bool, true, false, ◌||◌, cond, eqb, ltb, leb, List, [], ◌∷◌, ◌++◌, length, Some, None, refl, sym, ap, subst, ◌∙◌, arith, append_assoc}
use Rattle.std.proofs.lemmas.Bool.{ltb-true, leb-true, ne_eqb}
use Rattle.std.proofs.lemmas.Str.{encode_ascii, IsUtf8-nil, IsUtf8-encode, IsUtf8-append}
use Rattle.std.specs.Str.{IsUtf8}
use lib.Utf8.{encode, low_scalar}
use Rattle.json_lexemes.specs.declared.kind.Kind.{Kind}
use Rattle.json_lexemes.specs.declared.lexeme.Second.{Second}
use Rattle.json_lexemes.specs.declared.lexeme.Lexeme.{Lexeme}
use Rattle.json_lexemes.specs.declared.lexeme.Second.TheVariants.{Any as any}
use Rattle.json_lexemes.specs.declared.lexeme.Lexeme.TheVariants.{Minus as minus, LeadingZero as leading_zero, Integer as integer, Point as point, Decimals as decimals, Exponent as exponent, ExponentSign as exponent_sign, ExponentDigits as exponent_digits, Letters as letters, Plain as plain, Tail as tail, Escape as escape, Digits as digits, Closed as closed}
use Rattle.json_lexemes.specs.declared.unescape.Pending.{Pending}
use Rattle.json_lexemes.specs.declared.unescape.Pending.TheVariants.{Between as between, Backslash as backslash, Digits as pending_digits}
use Rattle.json_lexemes.specs.Lexeme.{least, greatest, within, leads, after_tail, after_digit, next, ends, Spells, done, more, is_short_escape, is_high_surrogate}
use Rattle.json_lexemes.specs.Unescape.{short_value, character, character_bytes, unit_with, after_unit, unit_bytes, after_byte, completed, unescaped_from}
use Rattle.json_lexemes.proofs.Tables.{none_some, and_yes, or_yes, is_it}
use Rattle.json_lexemes.proofs.Pieces.{unescaped_cons, unescaped_nil}
use Rattle.json_lexemes.proofs.Utf8Texts.{IsOneChar, Begun, begun_utf8, is_lead, high_scalar}

-- how the state of a word and what is open for its text fit together, after the first bytes of a character
abbrev pub Fits : Lexeme → Pending → List ℕ → Type 0
Fits (plain high) pending begun = (waiting : ℕ) × (pending ≡ between waiting) × (begun ≡ [])
Fits (tail second count) pending begun = (waiting : ℕ) × (pending ≡ between waiting) × Begun begun second count
Fits escape pending begun = (waiting : ℕ) × (pending ≡ backslash waiting) × (begun ≡ [])
Fits (digits count unit) pending begun = (waiting : ℕ) × (pending ≡ pending_digits waiting count unit) × (begun ≡ [])
Fits other pending begun = ⊥

-- the rest of the string's inside, up to its last quote
pub record Inside (i : ℕ) (s : List ℕ) (j : ℕ) (t : List ℕ) (pending : Pending) (begun : List ℕ) : Type 0 where
  pub inside : List ℕ
  pub is : s ≡ inside ++ 34 ∷ t
  pub ends : j ≡ i + length inside + 1
  pub text : IsUtf8 (begun ++ unescaped_from pending inside)

-- one more byte in front
inside_more : (i byte : ℕ) (s : List ℕ) (j : ℕ) (t : List ℕ) (pending after : Pending) (begun next_begun piece : List ℕ) → Inside (suc i) s j t after next_begun → after_byte pending byte ≡ after → completed pending byte ≡ piece → ((text : List ℕ) → IsUtf8 (next_begun ++ text) → IsUtf8 (begun ++ (piece ++ text))) → Inside i (byte ∷ s) j t pending begun
inside_more i byte s j t pending after begun next_begun piece h ea ep f = record {
  inside = byte ∷ h.inside;
  is = ap (λ l. byte ∷ l) h.is;
  ends = omega (arith, h.ends);
  text = subst (λ l. IsUtf8 (begun ++ l)) (sym (unescaped_cons pending byte h.inside ∙ ap (λ p. completed pending byte ++ unescaped_from p h.inside) ea ∙ ap (λ p. p ++ unescaped_from after h.inside) ep)) (f (unescaped_from after h.inside) h.text);
}

-- what is known of the rest of the word
abbrev pub Further : Lexeme → ℕ → List ℕ → ℕ → List ℕ → Type 0
Further after i s j t = (pending : Pending) (begun : List ℕ) → Fits after pending begun → Inside i s j t pending begun

no_end : (q : Lexeme) (pending : Pending) (begun : List ℕ) (kind : Kind) → Fits q pending begun → ends q ≡ Some kind → ⊥
unfolding ends
no_end (plain high) pending begun kind f e = none_some kind ⊥ e
no_end (tail second count) pending begun kind f e = none_some kind ⊥ e
no_end escape pending begun kind f e = none_some kind ⊥ e
no_end (digits count unit) pending begun kind f e = none_some kind ⊥ e
no_end minus pending begun kind f e = f
no_end leading_zero pending begun kind f e = f
no_end integer pending begun kind f e = f
no_end point pending begun kind f e = f
no_end decimals pending begun kind f e = f
no_end exponent pending begun kind f e = f
no_end exponent_sign pending begun kind f e = f
no_end exponent_digits pending begun kind f e = f
no_end (letters k read) pending begun kind f e = f
no_end closed pending begun kind f e = f

-- nothing follows the last quote
closed_done : (word : Lexeme) (i : ℕ) (s : List ℕ) (j : ℕ) (t : List ℕ) (kind : Kind) → word ≡ closed → Spells word i s j t kind → (j ≡ i) × (s ≡ t)
unfolding next
closed_done word i s j t kind is (done e) = (refl, refl)
closed_done word i s j t kind is (more {after = after} {byte = byte} n h) = none_some after _ (sym (ap (λ w. next w byte) is) ∙ n)

-- one byte of ASCII before a text
ascii_front : (byte : ℕ) (text : List ℕ) → byte < 128 → IsUtf8 text → IsUtf8 (byte ∷ text)
ascii_front byte text lt u = IsUtf8-append (byte ∷ []) text (subst IsUtf8 (encode_ascii byte lt) (IsUtf8-encode byte (low_scalar byte (omega (arith, lt))))) u

same_word : (after word : Lexeme) → Some word ≡ Some after → after ≡ word
same_word after word e = let is : after ≡ word = cc in is

further_as : (after word : Lexeme) (i : ℕ) (s : List ℕ) (j : ℕ) (t : List ℕ) → after ≡ word → Further after i s j t → Further word i s j t
further_as after word i s j t is f pending begun fits = f pending begun (subst (λ w. Fits w pending begun) (sym is) fits)

no_bytes_yet : (pending : Pending) (begun : List ℕ) (i : ℕ) (s : List ℕ) (j : ℕ) (t : List ℕ) → begun ≡ [] → Inside i s j t pending [] → Inside i s j t pending begun
no_bytes_yet pending begun i s j t e h = subst (λ b. Inside i s j t pending b) (sym e) h

between_bytes : (waiting byte : ℕ) → eqb byte 92 ≡ false → (after_byte (between waiting) byte ≡ between 0) × (completed (between waiting) byte ≡ byte ∷ [])
between_bytes waiting byte e = (rw e refl, rw e refl)

plain_inside : (i byte : ℕ) (s : List ℕ) (j : ℕ) (t : List ℕ) (kind : Kind) (after : Lexeme) (waiting : ℕ) (a b c d : Bool) → eqb byte 34 ≡ a → eqb byte 92 ≡ b → ltb byte 0x20 ≡ c → ltb byte 0x80 ≡ d → cond a (Some closed) (cond b (Some escape) (cond c None (cond d (Some (plain false)) (leads byte)))) ≡ Some after → Spells after (suc i) s j t kind → Further after (suc i) s j t → Inside i (byte ∷ s) j t (between waiting) []
plain_inside i byte s j t kind after waiting true b c d ea eb ec ed e h further =
    let over = closed_done after (suc i) s j t kind (same_word after closed e) h in
    record {
      inside = [];
      is = ap (λ x. x ∷ s) (is_it byte 34 ea) ∙ ap (λ l. 34 ∷ l) over.1;
      ends = omega (arith, over.0);
      text = subst IsUtf8 (sym (unescaped_nil (between waiting))) IsUtf8-nil;
    }
plain_inside i byte s j t kind after waiting false true c d ea eb ec ed e h further =
    inside_more i byte s j t (between waiting) (backslash waiting) [] [] [] (further_as after escape (suc i) s j t (same_word after escape e) further (backslash waiting) [] (waiting, refl, refl)) (rw eb refl) (rw eb refl) (λ text u. u)
plain_inside i byte s j t kind after waiting false false true d ea eb ec ed e h further = none_some after _ e
plain_inside i byte s j t kind after waiting false false false true ea eb ec ed e h further =
    let bytes = between_bytes waiting byte eb in
    inside_more i byte s j t (between waiting) (between 0) [] [] (byte ∷ []) (further_as after (plain false) (suc i) s j t (same_word after (plain false) e) further (between 0) [] (0, refl, refl)) bytes.0 bytes.1 (λ text u. ascii_front byte text (ltb-true byte 0x80 ed) u)
plain_inside i byte s j t kind after waiting false false false false ea eb ec ed e h further =
    let bytes = between_bytes waiting byte eb in
    let lead = is_lead byte after e in
    inside_more i byte s j t (between waiting) (between 0) [] (byte ∷ []) (byte ∷ []) (further_as after (tail lead.second lead.more) (suc i) s j t lead.is further (between 0) (byte ∷ []) (0, refl, lead.begun)) bytes.0 bytes.1 (λ text u. u)

not_backslash : (byte : ℕ) → 128 ≤ byte → eqb byte 92 ≡ false
not_backslash byte h = ne_eqb byte 92 (λ e. omega (arith, h, e))

least_high : (second : Second) → 128 ≤ least second
least_high any = omega arith
least_high Second.FromA0 = omega arith
least_high Second.To9F = omega arith
least_high Second.From90 = omega arith
least_high Second.To8F = omega arith

tail_inside : (second : Second) (count i byte : ℕ) (s : List ℕ) (j : ℕ) (t : List ℕ) (after : Lexeme) (waiting : ℕ) (begun : List ℕ) (a : Bool) → within (least second) (greatest second) byte ≡ a → cond a (Some (after_tail count)) None ≡ Some after → Begun begun second count → Further after (suc i) s j t → Inside i (byte ∷ s) j t (between waiting) begun
tail_inside second count i byte s j t after waiting begun false ea e h further = none_some after _ e
tail_inside second zero i byte s j t after waiting begun true ea e h further =
    let range = and_yes (leb (least second) byte) (leb byte (greatest second)) ea in
    let low = leb-true (least second) byte range.0 in
    let bytes = between_bytes waiting byte (not_backslash byte (omega (arith, low, least_high second))) in
    inside_more i byte s j t (between waiting) (between 0) begun [] (byte ∷ []) (further_as after (plain false) (suc i) s j t (same_word after (plain false) e) further (between 0) [] (0, refl, refl)) bytes.0 bytes.1
    (λ text u. begun_utf8 begun second 0 h (byte ∷ []) text (low, leb-true byte (greatest second) range.1) u)
tail_inside second (suc count) i byte s j t after waiting begun true ea e h further =
    let range = and_yes (leb (least second) byte) (leb byte (greatest second)) ea in
    let low = leb-true (least second) byte range.0 in
    let high = leb-true byte (greatest second) range.1 in
    let bytes = between_bytes waiting byte (not_backslash byte (omega (arith, low, least_high second))) in
    let longer : Begun (begun ++ byte ∷ []) any count = record { char = λ ys c. subst IsOneChar (sym (append_assoc begun (byte ∷ []) ys)) (h.char (byte ∷ ys) (low, high, c)) } in
    inside_more i byte s j t (between waiting) (between 0) begun (begun ++ byte ∷ []) (byte ∷ []) (further_as after (tail any count) (suc i) s j t (same_word after (tail any count) e) further (between 0) (begun ++ byte ∷ []) (0, refl, longer)) bytes.0 bytes.1
    (λ text u. subst IsUtf8 (append_assoc begun (byte ∷ []) text) u)

short_ascii : (byte : ℕ) → is_short_escape byte ≡ true → short_value byte < 128
short_ascii byte h = by 116 h (λ g. by 114 g (λ f. by 110 f (λ e. by 102 e (λ d. by 98 d (λ c. by 47 c (λ b. by 92 b (λ a. at 34 a (omega arith)) (omega arith)) (omega arith)) (omega arith)) (omega arith)) (omega arith)) (omega arith)) (omega arith)
  where
    at : (v : ℕ) → eqb byte v ≡ true → short_value v < 128 → short_value byte < 128
    at v e lt = subst (λ x. short_value x < 128) (sym (is_it byte v e)) lt

    by : {rest : Bool} (v : ℕ) → (rest || eqb byte v) ≡ true → (rest ≡ true → short_value byte < 128) → short_value v < 128 → short_value byte < 128
    by {rest} v e f lt = elim (or_yes rest (eqb byte v) e) [ inl r ↦ f r | inr l ↦ at v l lt ]

escape_inside : (i byte : ℕ) (s : List ℕ) (j : ℕ) (t : List ℕ) (after : Lexeme) (waiting : ℕ) (a b : Bool) → eqb byte 117 ≡ a → is_short_escape byte ≡ b → cond a (Some (digits 3 0)) (cond b (Some (plain false)) None) ≡ Some after → Further after (suc i) s j t → Inside i (byte ∷ s) j t (backslash waiting) []
escape_inside i byte s j t after waiting true b ea eb e further =
    inside_more i byte s j t (backslash waiting) (pending_digits waiting 3 0) [] [] [] (further_as after (digits 3 0) (suc i) s j t (same_word after (digits 3 0) e) further (pending_digits waiting 3 0) [] (waiting, refl, refl)) (rw ea refl) (rw ea refl) (λ text u. u)
escape_inside i byte s j t after waiting false true ea eb e further =
    inside_more i byte s j t (backslash waiting) (between 0) [] [] (short_value byte ∷ []) (further_as after (plain false) (suc i) s j t (same_word after (plain false) e) further (between 0) [] (0, refl, refl)) (rw ea refl) (rw ea refl) (λ text u. ascii_front (short_value byte) text (short_ascii byte eb) u)
escape_inside i byte s j t after waiting false false ea eb e further = none_some after _ e

character_utf8 : (c : ℕ) (a b : Bool) → ltb c 0xd800 ≡ a → within 0xe000 0x10ffff c ≡ b → IsUtf8 (cond (a || b) (encode c) [])
character_utf8 c true b ea eb = IsUtf8-encode c (low_scalar c (ltb-true c 0xd800 ea))
character_utf8 c false true ea eb = (let r = and_yes (leb 0xe000 c) (leb c 0x10ffff) eb in IsUtf8-encode c (high_scalar c (leb-true 0xe000 c r.0) (omega (arith, leb-true c 0x10ffff r.1))))
character_utf8 c false false ea eb = IsUtf8-nil

unit_utf8 : (waiting unit : ℕ) (a : Bool) → is_high_surrogate unit ≡ a → IsUtf8 (cond a [] (character_bytes (character waiting unit)))
unit_utf8 waiting unit true ea = IsUtf8-nil
unit_utf8 waiting unit false ea = character_utf8 (character waiting unit) (ltb (character waiting unit) 0xd800) (within 0xe000 0x10ffff (character waiting unit)) refl refl

after_unit_is : (unit : ℕ) (a : Bool) → is_high_surrogate unit ≡ a → (waiting : ℕ) × (cond a (between unit) (between 0) ≡ between waiting)
after_unit_is unit true e = (unit, refl)
after_unit_is unit false e = (0, refl)

digits_inside : (count unit i byte : ℕ) (s : List ℕ) (j : ℕ) (t : List ℕ) (after : Lexeme) (waiting : ℕ) (a : Bool) → cond a (Some (after_digit count (unit_with unit byte))) None ≡ Some after → Further after (suc i) s j t → Inside i (byte ∷ s) j t (pending_digits waiting count unit) []
digits_inside count unit i byte s j t after waiting false e further = none_some after _ e
digits_inside zero unit i byte s j t after waiting true e further =
    let u = unit_with unit byte in
    let next_waiting = after_unit_is u (is_high_surrogate u) refl in
    inside_more i byte s j t (pending_digits waiting 0 unit) (after_unit u) [] [] (unit_bytes waiting u) (further_as after (plain (is_high_surrogate u)) (suc i) s j t (same_word after (plain (is_high_surrogate u)) e) further (after_unit u) [] (next_waiting.0, next_waiting.1, refl)) refl refl
    (λ text ok. IsUtf8-append (unit_bytes waiting u) text (unit_utf8 waiting u (is_high_surrogate u) refl) ok)
digits_inside (suc count) unit i byte s j t after waiting true e further =
    let u = unit_with unit byte in
    inside_more i byte s j t (pending_digits waiting (suc count) unit) (pending_digits waiting count u) [] [] [] (further_as after (digits count u) (suc i) s j t (same_word after (digits count u) e) further (pending_digits waiting count u) [] (waiting, refl, refl)) refl refl (λ text ok. ok)

word_inside : (q : Lexeme) (i byte : ℕ) (s : List ℕ) (j : ℕ) (t : List ℕ) (kind : Kind) (after : Lexeme) (pending : Pending) (begun : List ℕ) → Fits q pending begun → next q byte ≡ Some after → Spells after (suc i) s j t kind → Further after (suc i) s j t → Inside i (byte ∷ s) j t pending begun
unfolding next
word_inside (plain high) i byte s j t kind after pending begun f e h further =
    no_bytes_yet pending begun i (byte ∷ s) j t f.2 (subst (λ p. Inside i (byte ∷ s) j t p []) (sym f.1) (plain_inside i byte s j t kind after f.0 (eqb byte 34) (eqb byte 92) (ltb byte 0x20) (ltb byte 0x80) refl refl refl refl e h further))
word_inside (tail second count) i byte s j t kind after pending begun f e h further =
    subst (λ p. Inside i (byte ∷ s) j t p begun) (sym f.1) (tail_inside second count i byte s j t after f.0 begun (within (least second) (greatest second) byte) refl e f.2 further)
word_inside escape i byte s j t kind after pending begun f e h further =
    no_bytes_yet pending begun i (byte ∷ s) j t f.2 (subst (λ p. Inside i (byte ∷ s) j t p []) (sym f.1) (escape_inside i byte s j t after f.0 (eqb byte 117) (is_short_escape byte) refl refl e further))
word_inside (digits count unit) i byte s j t kind after pending begun f e h further =
    no_bytes_yet pending begun i (byte ∷ s) j t f.2 (subst (λ p. Inside i (byte ∷ s) j t p []) (sym f.1) (digits_inside count unit i byte s j t after f.0 _ e further))
word_inside minus i byte s j t kind after pending begun f e h further = absurd f
word_inside leading_zero i byte s j t kind after pending begun f e h further = absurd f
word_inside integer i byte s j t kind after pending begun f e h further = absurd f
word_inside point i byte s j t kind after pending begun f e h further = absurd f
word_inside decimals i byte s j t kind after pending begun f e h further = absurd f
word_inside exponent i byte s j t kind after pending begun f e h further = absurd f
word_inside exponent_sign i byte s j t kind after pending begun f e h further = absurd f
word_inside exponent_digits i byte s j t kind after pending begun f e h further = absurd f
word_inside (letters k read) i byte s j t kind after pending begun f e h further = absurd f
word_inside closed i byte s j t kind after pending begun f e h further = absurd f

-- the rest of a string from any of its states on
pub inside_of : (q : Lexeme) (i : ℕ) (s : List ℕ) (j : ℕ) (t : List ℕ) (kind : Kind) → Spells q i s j t kind → Further q i s j t
inside_of q i s j t kind (done e) pending begun f = absurd (no_end q pending begun kind f e)
inside_of q i (byte ∷ s) j t kind (more {after = after} e h) pending begun f = word_inside q i byte s j t kind after pending begun f e h (λ p b g. inside_of after (suc i) s j t kind h p b g)
