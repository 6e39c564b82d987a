-- Whether a surrogate stands alone in a string doesn't hang on what follows the string.
use Rattle.std.proofs.Common.{◌≡◌, ℕ, ◌+◌, ◌*◌, ◌%◌, Bool, true, false, ◌&&◌, ◌||◌, not, cond, eqb, List, [], ◌∷◌, ◌++◌, Some, None, refl, sym, ap, subst, ◌∙◌}
use Rattle.json_lexemes.specs.declared.kind.Kind.{Kind}
use Rattle.json_lexemes.specs.declared.lexeme.Lexeme.{Lexeme}
use Rattle.json_lexemes.specs.declared.lexeme.Lexeme.TheVariants.{Minus as minus, LeadingZero as leading_zero, Integer as integer, Point as point, Decimals as decimals, Exponent as exponent, ExponentSign as exponent_sign, ExponentDigits as exponent_digits, Letters as letters, Plain as plain, Tail as tail, Escape as escape, Digits as digits, Closed as closed}
use Rattle.json_lexemes.specs.Lexeme.{next, ends, hex_value, is_hex_digit, is_short_escape, after_digit, is_high_surrogate}
use Rattle.json_lexemes.specs.Surrogates.{is_numbered, unit_of, is_high_escape, is_low_escape, is_lone, is_lone_in}
use Rattle.json_lexemes.proofs.Accepted.{Accepts}
use Rattle.json_lexemes.proofs.Courses.{Course, here as stop, on as go}
use Rattle.json_lexemes.proofs.Tables.{none_some, is_it}

-- what stands before the end of a string: a byte that begins no escape, an escape without a number, or one with a number
pub data Front : List ℕ → Type 0 where
  other : {b : ℕ} {w : List ℕ} → eqb b 92 ≡ false → Front (b ∷ w)
  short : {b c : ℕ} {w : List ℕ} → eqb b 92 ≡ true → eqb c 117 ≡ false → Front (b ∷ c ∷ w)
  long : {b c d e f g : ℕ} {w : List ℕ} → (high : Bool) → (kind : Kind) → Accepts (plain high) w kind → Front (b ∷ c ∷ d ∷ e ∷ f ∷ g ∷ w)

digit_on : (more unit : ℕ) (w : List ℕ) (kind : Kind) → Accepts (digits more unit) w kind → (d : ℕ) × (rest : List ℕ) × (u : ℕ) × (w ≡ d ∷ rest) × Accepts (after_digit more u) rest kind
unfolding next ends
digit_on more unit [] kind h = none_some kind _ h
digit_on more unit (d ∷ rest) kind h = (d, rest, u, refl, subst (λ q. Accepts q rest kind) (by (is_hex_digit d) h.1) h.2)
  where
    u : ℕ
    u = (16 * unit + hex_value d) % 65536

    by : (b : Bool) → cond b (Some (after_digit more ((16 * unit + hex_value d) % 65536))) None ≡ Some h.0 → h.0 ≡ after_digit more ((16 * unit + hex_value d) % 65536)
    by true e = let is : h.0 ≡ after_digit more ((16 * unit + hex_value d) % 65536) = cc in is
    by false e = none_some h.0 _ e

four_digits : (b c d e f g : ℕ) (w rest_bytes : List ℕ) (high : Bool) (kind : Kind) → w ≡ d ∷ e ∷ f ∷ g ∷ rest_bytes → Accepts (plain high) rest_bytes kind → Front (b ∷ c ∷ w)
four_digits b c d e f g w rest_bytes high kind is h = subst (λ l. Front (b ∷ c ∷ l)) (sym is) (long high kind h)

numbered_front : (b c : ℕ) (w : List ℕ) (kind : Kind) → Accepts (digits 3 0) w kind → Front (b ∷ c ∷ w)
numbered_front b c w kind h =
    let one = digit_on 3 0 w kind h in
    let two = digit_on 2 one.2 one.1 kind one.4 in
    let three = digit_on 1 two.2 two.1 kind two.4 in
    let four = digit_on 0 three.2 three.1 kind three.4 in
    let all : w ≡ one.0 ∷ two.0 ∷ three.0 ∷ four.0 ∷ four.1 = one.3 ∙ ap (λ l. one.0 ∷ l) (two.3 ∙ ap (λ l. two.0 ∷ l) (three.3 ∙ ap (λ l. three.0 ∷ l) four.3)) in
    four_digits b c one.0 two.0 three.0 four.0 w four.1 (is_high_surrogate four.2) kind all four.4

escape_front : (b : ℕ) (w : List ℕ) (kind : Kind) → eqb b 92 ≡ true → Accepts escape w kind → Front (b ∷ w)
unfolding next ends
escape_front b [] kind e h = none_some kind _ h
escape_front b (c ∷ w) kind e h = by (eqb c 117) refl
  where
    by : (x : Bool) → eqb c 117 ≡ x → Front (b ∷ c ∷ w)
    by false is = short e is
    by true is =
        let goes : cond (eqb c 117) (Some (digits 3 0)) (cond (is_short_escape c) (Some (plain false)) None) ≡ Some h.0 = h.1 in
        let there : Some (digits 3 0) ≡ Some h.0 = sym (ap (λ y. cond y (Some (digits 3 0)) (cond (is_short_escape c) (Some (plain false)) None)) is) ∙ goes in
        let same : h.0 ≡ digits 3 0 = cc in
        numbered_front b c w kind (subst (λ q. Accepts q w kind) same h.2)

after_backslash : (high : Bool) (after : Lexeme) → next (plain high) 92 ≡ Some after → after ≡ escape
unfolding next
after_backslash high after e = let is : after ≡ escape = cc in is

pub front_of : (high : Bool) (w : List ℕ) (kind : Kind) → Accepts (plain high) w kind → Front w
unfolding ends
front_of high [] kind h = none_some kind _ h
front_of high (b ∷ w) kind h = by (eqb b 92) refl
  where
    by : (x : Bool) → eqb b 92 ≡ x → Front (b ∷ w)
    by false is = other is
    by true is =
        let byte = is_it b 92 is in
        escape_front b w kind is (subst (λ q. Accepts q w kind) (after_backslash high h.0 (ap (next (plain high)) (sym byte) ∙ h.1)) h.2)

high_same : (w t u : List ℕ) → Front w → is_high_escape (w ++ t) 0 ≡ is_high_escape (w ++ u) 0
unfolding is_numbered unit_of
high_same [] t u front = elim front [ ]
high_same (b ∷ w) t u (other e) = rw e refl
high_same (b ∷ c ∷ w) t u (short l e) = rw (l, e) refl
high_same (b ∷ c ∷ d ∷ e ∷ f ∷ g ∷ w) t u (long high kind h) = refl

low_same : (w t u : List ℕ) → Front w → is_low_escape (w ++ t) 0 ≡ is_low_escape (w ++ u) 0
unfolding is_numbered unit_of
low_same [] t u front = elim front [ ]
low_same (b ∷ w) t u (other e) = rw e refl
low_same (b ∷ c ∷ w) t u (short l e) = rw (l, e) refl
low_same (b ∷ c ∷ d ∷ e ∷ f ∷ g ∷ w) t u (long high kind h) = refl

lone_same : (high : Bool) (w t u : List ℕ) → Front w → is_lone high (w ++ t) 0 ≡ is_lone high (w ++ u) 0
unfolding is_numbered unit_of
lone_same high [] t u front = elim front [ ]
lone_same high (b ∷ w) t u (other e) = rw e refl
lone_same high (b ∷ c ∷ w) t u (short l e) = rw (l, e) refl
lone_same high (b ∷ c ∷ d ∷ e ∷ f ∷ g ∷ w) t u (long after kind h) =
    let all = b ∷ c ∷ d ∷ e ∷ f ∷ g ∷ (w ++ t) in
    ap (λ x. (is_high_escape all 0 && not x) || (is_low_escape all 0 && not high)) (low_same w t u (front_of after w kind h))

lone_in_same : (q : Lexeme) (w t u : List ℕ) (kind : Kind) → Accepts q w kind → is_lone_in q (w ++ t) 0 ≡ is_lone_in q (w ++ u) 0
lone_in_same (plain high) w t u kind h = lone_same high w t u (front_of high w kind h)
lone_in_same minus w t u kind h = refl
lone_in_same leading_zero w t u kind h = refl
lone_in_same integer w t u kind h = refl
lone_in_same point w t u kind h = refl
lone_in_same decimals w t u kind h = refl
lone_in_same exponent w t u kind h = refl
lone_in_same exponent_sign w t u kind h = refl
lone_in_same exponent_digits w t u kind h = refl
lone_in_same (letters word_kind read) w t u kind h = refl
lone_in_same (tail second count) w t u kind h = refl
lone_in_same escape w t u kind h = refl
lone_in_same (digits count unit) w t u kind h = refl
lone_in_same closed w t u kind h = refl

-- the bytes of a word, which are one whatever follows them
pub record Whole (first last : Lexeme) (s u : List ℕ) (kind : Kind) : Type 0 where
  pub bytes : List ℕ
  pub are : s ≡ bytes ++ u
  pub accepts : Accepts first bytes kind
  pub again : (more : List ℕ) → Course first (bytes ++ more) more last

pub whole_word : (first last : Lexeme) (s u : List ℕ) (kind : Kind) → Course first s u last → ends last ≡ Some kind → Whole first last s u kind
whole_word first last s u kind stop over = record { bytes = []; are = refl; accepts = over; again = λ more. stop }
whole_word first last (byte ∷ s) u kind (go {after = after} l n p) over =
    let w = whole_word after last s u kind p over in
    let accepts : Accepts first (byte ∷ w.bytes) kind = (after, n, w.accepts) in
    record {
      bytes = byte ∷ w.bytes;
      are = ap (λ x. byte ∷ x) w.are;
      accepts = accepts;
      again = λ more. go (lone_in_same first (byte ∷ w.bytes) more u kind accepts ∙ ap (λ x. is_lone_in first (byte ∷ x) 0) (sym w.are) ∙ l) n (w.again more);
    }
