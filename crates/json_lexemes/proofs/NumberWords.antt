-- Numbers and literals: the diagram of states beside the productions.
use Rattle.std.proofs.Common.{eq-eqb, append-nil, ◌≡◌, ◌⊎◌, inl, inr, ℕ, ◌+◌, ◌≤◌, Bool, true, false, ◌||◌, cond, eqb, leb, le-leb, List, [], ◌∷◌, ◌++◌, drop, Option, Some, None, refl, sym, ap, subst, ◌∙◌, arith}
use Rattle.std.proofs.lemmas.Bool.{leb-true, ne_eqb, eqb-false}
use Rattle.std.proofs.lemmas.List.{drop-drop}
use Rattle.json_lexemes.specs.declared.kind.Kind.{Kind}
use Rattle.json_lexemes.specs.declared.kind.Kind.TheVariants as kinds
use Rattle.json_lexemes.specs.declared.lexeme.Lexeme.{Lexeme}
use Rattle.json_lexemes.specs.declared.lexeme.Lexeme.TheVariants.{Minus as minus, LeadingZero as leading_zero, Integer as integer, Point as point, Decimals as decimals, Exponent as exponent, ExponentSign as exponent_sign, ExponentDigits as exponent_digits, Letters as letters}
use Rattle.json_lexemes.specs.Lexeme.{next, ends, literal, next_letter, ends_after_letters, is_digit, fraction_from, exponent_from}
use Rattle.json_lexemes.specs.Productions.{Then, Optional, IsDigit, AreDigits, AreSomeDigits, IsMinus, IsPlus, IsInt, IsFrac, IsExp}
use Rattle.json_lexemes.proofs.Tables.{none_some, is_it, or_yes, and_yes}
use Rattle.json_lexemes.proofs.Accepted.{Accepts}

-- ---- tests

pub chosen : {A : Type 0} (c : Bool) (x : A) (y : Option A) (after : A) → cond c (Some x) y ≡ Some after → ((c ≡ true) × (x ≡ after)) ⊎ ((c ≡ false) × (y ≡ Some after))
chosen true x y after e = inl (refl, (let is : x ≡ after = cc in is))
chosen false x y after e = inr (refl, e)

pub digit_yes : (byte : ℕ) → is_digit byte ≡ true → IsDigit byte
digit_yes byte h = let both = and_yes (leb 48 byte) (leb byte 57) h in (leb-true 48 byte both.0, leb-true byte 57 both.1)

pub digit_test : (byte : ℕ) → IsDigit byte → is_digit byte ≡ true
digit_test byte h = let low = le-leb 48 byte h.0 in let high = le-leb byte 57 h.1 in rw (low, high) refl

not_digit : (byte v : ℕ) → byte ≡ v → is_digit v ≡ false → is_digit byte ≡ false
not_digit byte v e h = ap is_digit e ∙ h

-- ---- what is left of a number, by its state

abbrev Fraction : List ℕ → Type 0
Fraction bytes = Then (Optional IsFrac) (Optional IsExp) bytes

abbrev Left : Lexeme → List ℕ → Type 0
Left minus bytes = Then IsInt Fraction bytes
Left leading_zero bytes = Fraction bytes
Left integer bytes = Then AreDigits Fraction bytes
Left point bytes = Then AreSomeDigits (Optional IsExp) bytes
Left decimals bytes = Then AreDigits (Optional IsExp) bytes
Left exponent bytes = Then (Optional (λ sign. IsMinus sign ⊎ IsPlus sign)) AreSomeDigits bytes
Left exponent_sign bytes = AreSomeDigits bytes
Left exponent_digits bytes = AreDigits bytes
Left other bytes = Unit {0}

left_as : (word after : Lexeme) (w : List ℕ) → word ≡ after → Left after w → Left word w
left_as word after w e h = subst (λ q. Left q w) (sym e) h

exponent_left : (byte : ℕ) (after : Lexeme) (w : List ℕ) → exponent_from byte ≡ Some after → Left after w → IsExp (byte ∷ w)
exponent_left byte after w e h = elim (chosen (eqb byte 101 || eqb byte 69) exponent None after e) [
  | inl is ↦ (elim (or_yes (eqb byte 101) (eqb byte 69) is.0) [ inl a ↦ inl (is_it byte 101 a) | inr b ↦ inr (is_it byte 69 b) ], left_as exponent after w is.1 h)
  | inr not ↦ none_some after _ not.1
]

fraction_left : (byte : ℕ) (after : Lexeme) (w : List ℕ) → fraction_from byte ≡ Some after → Left after w → Fraction (byte ∷ w)
fraction_left byte after w e h = elim (chosen (eqb byte 46) point (exponent_from byte) after e) [
  | inl is ↦ (let p = left_as point after w is.1 h in (byte ∷ p.0, p.1, ap (λ l. byte ∷ l) p.2, inr (is_it byte 46 is.0, p.3), p.4))
  | inr not ↦ ([], byte ∷ w, refl, inl refl, inr (exponent_left byte after w not.1 h))
]

digit_left : (byte : ℕ) (word after : Lexeme) (w : List ℕ) → cond (is_digit byte) (Some word) None ≡ Some after → Left after w → IsDigit byte × Left word w
digit_left byte word after w e h = elim (chosen (is_digit byte) word None after e) [
  | inl is ↦ (digit_yes byte is.0, left_as word after w is.1 h)
  | inr not ↦ none_some after _ not.1
]

-- one more byte in front
left_more : (q : Lexeme) (byte : ℕ) (after : Lexeme) (w : List ℕ) → next q byte ≡ Some after → Left after w → Left q (byte ∷ w)
unfolding next
left_more minus byte after w e h = elim (chosen (eqb byte 48) leading_zero (cond (is_digit byte) (Some integer) None) after e) [
  | inl is ↦ (byte ∷ [], w, refl, inl (is_it byte 48 is.0, refl), left_as leading_zero after w is.1 h)
  | inr not ↦ (let d = digit_left byte integer after w not.1 h in (byte ∷ d.1.0, d.1.1, ap (λ l. byte ∷ l) d.1.2, inr (above byte d.0 not.0, d.1.3), d.1.4))
]
  where
    above : (byte : ℕ) → IsDigit byte → eqb byte 48 ≡ false → (49 ≤ byte) × (byte ≤ 57)
    above byte d other = let apart = eqb-false byte 48 other in (omega (arith, d, apart), d.1)
left_more leading_zero byte after w e h = fraction_left byte after w e h
left_more integer byte after w e h = elim (chosen (is_digit byte) integer (fraction_from byte) after e) [
  | inl is ↦ (let d = left_as integer after w is.1 h in (byte ∷ d.0, d.1, ap (λ l. byte ∷ l) d.2, (digit_yes byte is.0, d.3), d.4))
  | inr not ↦ ([], byte ∷ w, refl, tt, fraction_left byte after w not.1 h)
]
left_more point byte after w e h = let d = digit_left byte decimals after w e h in (byte ∷ d.1.0, d.1.1, ap (λ l. byte ∷ l) d.1.2, (d.0, d.1.3), d.1.4)
left_more decimals byte after w e h = elim (chosen (is_digit byte) decimals (exponent_from byte) after e) [
  | inl is ↦ (let d = left_as decimals after w is.1 h in (byte ∷ d.0, d.1, ap (λ l. byte ∷ l) d.2, (digit_yes byte is.0, d.3), d.4))
  | inr not ↦ ([], byte ∷ w, refl, tt, inr (exponent_left byte after w not.1 h))
]
left_more exponent byte after w e h = elim (chosen (eqb byte 43 || eqb byte 45) exponent_sign (cond (is_digit byte) (Some exponent_digits) None) after e) [
  | inl is ↦ (byte ∷ [], w, refl, inr (sign (or_yes (eqb byte 43) (eqb byte 45) is.0)), left_as exponent_sign after w is.1 h)
  | inr not ↦ ([], byte ∷ w, refl, inl refl, digit_left byte exponent_digits after w not.1 h)
]
  where
    sign : (eqb byte 43 ≡ true) ⊎ (eqb byte 45 ≡ true) → IsMinus (byte ∷ []) ⊎ IsPlus (byte ∷ [])
    sign (inl plus) = inr (ap (λ b. b ∷ []) (is_it byte 43 plus))
    sign (inr dash) = inl (ap (λ b. b ∷ []) (is_it byte 45 dash))
left_more exponent_sign byte after w e h = digit_left byte exponent_digits after w e h
left_more exponent_digits byte after w e h = digit_left byte exponent_digits after w e h
left_more other byte after w e h = tt

left_end : (q : Lexeme) (kind : Kind) → ends q ≡ Some kind → Left q []
unfolding ends
left_end minus kind e = none_some kind _ e
left_end leading_zero kind e = ([], [], refl, inl refl, inl refl)
left_end integer kind e = ([], [], refl, tt, ([], [], refl, inl refl, inl refl))
left_end point kind e = none_some kind _ e
left_end decimals kind e = ([], [], refl, tt, inl refl)
left_end exponent kind e = none_some kind _ e
left_end exponent_sign kind e = none_some kind _ e
left_end exponent_digits kind e = tt
left_end other kind e = tt

pub number_left : (q : Lexeme) (w : List ℕ) (kind : Kind) → Accepts q w kind → Left q w
number_left q [] kind h = left_end q kind h
number_left q (byte ∷ w) kind h = left_more q byte h.0 w h.1 (number_left h.0 w kind h.2)

-- ---- and back

abbrev Loops : Lexeme → Lexeme → Type 0
Loops q after = (d : ℕ) → IsDigit d → next q d ≡ Some after

integer_loops : Loops integer integer
unfolding next
integer_loops d h = let is = digit_test d h in rw is refl

point_loops : Loops point decimals
unfolding next
point_loops d h = let is = digit_test d h in rw is refl

decimals_loops : Loops decimals decimals
unfolding next
decimals_loops d h = let is = digit_test d h in rw is refl

exponent_loops : Loops exponent exponent_digits
unfolding next
exponent_loops d h =
    let is = digit_test d h in
    let plus : eqb d 43 ≡ false = ne_eqb d 43 (λ e. omega (arith, e, h)) in
    let dash : eqb d 45 ≡ false = ne_eqb d 45 (λ e. omega (arith, e, h)) in
    rw (plus, dash, is) refl

sign_loops : Loops exponent_sign exponent_digits
unfolding next
sign_loops d h = let is = digit_test d h in rw is refl

power_loops : Loops exponent_digits exponent_digits
unfolding next
power_loops d h = let is = digit_test d h in rw is refl

digits_accept : (q : Lexeme) (ds r : List ℕ) (kind : Kind) → Loops q q → AreDigits ds → Accepts q r kind → Accepts q (ds ++ r) kind
digits_accept q [] r kind loops h a = a
digits_accept q (d ∷ ds) r kind loops h a = (q, loops d h.0, digits_accept q ds r kind loops h.1 a)

some_digits_accept : (q after : Lexeme) (ds r : List ℕ) (kind : Kind) → Loops q after → Loops after after → AreSomeDigits ds → Accepts after r kind → Accepts q (ds ++ r) kind
some_digits_accept q after [] r kind first loops h a = absurd h
some_digits_accept q after (d ∷ ds) r kind first loops h a = (after, first d h.0, digits_accept after ds r kind loops h.1 a)

accepts_as : (q : Lexeme) (w v : List ℕ) (kind : Kind) → w ≡ v → Accepts q v kind → Accepts q w kind
accepts_as q w v kind e a = subst (λ x. Accepts q x kind) (sym e) a

-- a state in which the number may end, and its exponent may come
record Ends (q : Lexeme) : Type 0 where
  end : ends q ≡ Some kinds.Number
  small : next q 101 ≡ Some exponent
  large : next q 69 ≡ Some exponent

zero_ends : Ends leading_zero
unfolding next ends
zero_ends = record { end = refl; small = refl; large = refl }

integer_ends : Ends integer
unfolding next ends
integer_ends = record { end = refl; small = refl; large = refl }

decimals_ends : Ends decimals
unfolding next ends
decimals_ends = record { end = refl; small = refl; large = refl }

power_end : ends exponent_digits ≡ Some kinds.Number
unfolding ends
power_end = refl

sign_next : (next exponent 45 ≡ Some exponent_sign) × (next exponent 43 ≡ Some exponent_sign)
unfolding next
sign_next = (refl, refl)

power_accepts : (w : List ℕ) → Then (Optional (λ sign. IsMinus sign ⊎ IsPlus sign)) AreSomeDigits w → Accepts exponent w kinds.Number
power_accepts w (sign, ds, is, some_sign, some) = accepts_as exponent w (sign ++ ds) kinds.Number is (signed sign some_sign)
  where
    unsigned : (q : Lexeme) → Loops q exponent_digits → Accepts q ds kinds.Number
    unsigned q loops = subst (λ l. Accepts q l kinds.Number) (append-nil ds) (some_digits_accept q exponent_digits ds [] kinds.Number loops power_loops some power_end)

    signed : (sign : List ℕ) → Optional (λ sign. IsMinus sign ⊎ IsPlus sign) sign → Accepts exponent (sign ++ ds) kinds.Number
    signed sign (inl none) = accepts_as exponent (sign ++ ds) ds kinds.Number (ap (λ l. l ++ ds) none) (unsigned exponent exponent_loops)
    signed sign (inr (inl dash)) = accepts_as exponent (sign ++ ds) (45 ∷ ds) kinds.Number (ap (λ l. l ++ ds) dash) (exponent_sign, sign_next.0, unsigned exponent_sign sign_loops)
    signed sign (inr (inr plus)) = accepts_as exponent (sign ++ ds) (43 ∷ ds) kinds.Number (ap (λ l. l ++ ds) plus) (exponent_sign, sign_next.1, unsigned exponent_sign sign_loops)

exp_accepts : (q : Lexeme) (w : List ℕ) → Ends q → Optional IsExp w → Accepts q w kinds.Number
exp_accepts q w h (inl none) = accepts_as q w [] kinds.Number none h.end
exp_accepts q [] h (inr bad) = absurd bad
exp_accepts q (e ∷ w) h (inr (which, power)) = (exponent, elim which [ inl is ↦ ap (next q) is ∙ h.small | inr is ↦ ap (next q) is ∙ h.large ], power_accepts w power)

fraction_accepts : (q : Lexeme) (w : List ℕ) → Ends q → next q 46 ≡ Some point → Fraction w → Accepts q w kinds.Number
fraction_accepts q w h dot (frac, exp, is, some_frac, some_exp) = accepts_as q w (frac ++ exp) kinds.Number is (with_frac frac some_frac)
  where
    with_frac : (frac : List ℕ) → Optional IsFrac frac → Accepts q (frac ++ exp) kinds.Number
    with_frac frac (inl none) = accepts_as q (frac ++ exp) exp kinds.Number (ap (λ l. l ++ exp) none) (exp_accepts q exp h some_exp)
    with_frac [] (inr bad) = absurd bad
    with_frac (p ∷ ds) (inr (is_dot, some)) = (point, ap (next q) is_dot ∙ dot, some_digits_accept point decimals ds exp kinds.Number point_loops decimals_loops some (exp_accepts decimals exp decimals_ends some_exp))

dots : (next leading_zero 46 ≡ Some point) × (next integer 46 ≡ Some point)
unfolding next
dots = (refl, refl)

-- what begins an `int`, and the rest
pub int_accepts : (w : List ℕ) → Then IsInt Fraction w → (byte : ℕ) × (v : List ℕ) × (first : Lexeme) × (w ≡ byte ∷ v) × (((byte ≡ 48) × (first ≡ leading_zero)) ⊎ ((49 ≤ byte) × (byte ≤ 57) × (first ≡ integer))) × Accepts first v kinds.Number
int_accepts w ([], r, is, bad, rest) = absurd bad
int_accepts w (d ∷ ds, r, is, inl zero_alone, rest) = (d, ds ++ r, leading_zero, is, inl (zero_alone.0, refl), accepts_as leading_zero (ds ++ r) r kinds.Number (ap (λ l. l ++ r) zero_alone.1) (fraction_accepts leading_zero r zero_ends dots.0 rest))
int_accepts w (d ∷ ds, r, is, inr more_digits, rest) = (d, ds ++ r, integer, is, inr (more_digits.0.0, more_digits.0.1, refl), digits_accept integer ds r kinds.Number integer_loops more_digits.1 (fraction_accepts integer r integer_ends dots.1 rest))

minus_next : (byte : ℕ) (first : Lexeme) → ((byte ≡ 48) × (first ≡ leading_zero)) ⊎ ((49 ≤ byte) × (byte ≤ 57) × (first ≡ integer)) → next minus byte ≡ Some first
unfolding next
minus_next byte first (inl z) = ap (next minus) z.0 ∙ ap Some (sym z.1)
minus_next byte first (inr d) =
    let other : eqb byte 48 ≡ false = ne_eqb byte 48 (λ e. omega (arith, e, d.0)) in
    let is : is_digit byte ≡ true = digit_test byte (omega (arith, d.0), d.1) in
    rw (other, is) (ap Some (sym d.2))

pub minus_accepts : (w : List ℕ) → Then IsInt Fraction w → Accepts minus w kinds.Number
minus_accepts w h = let a = int_accepts w h in accepts_as minus w (a.0 ∷ a.1) kinds.Number a.3 (a.2, minus_next a.0 a.2 a.4, a.5)

-- ---- literals

letter_step : (kind : Kind) (read : ℕ) (others : List ℕ) (byte : ℕ) (after : Lexeme) → next_letter kind read others byte ≡ Some after → (rest : List ℕ) × (others ≡ byte ∷ rest) × (after ≡ letters kind (read + 1))
letter_step kind read [] byte after e = none_some after _ e
letter_step kind read (letter ∷ others) byte after e = elim (chosen (eqb byte letter) (letters kind (read + 1)) None after e) [
  | inl is ↦ (others, ap (λ b. b ∷ others) (sym (is_it byte letter is.0)), sym is.1)
  | inr not ↦ none_some after _ not.1
]

letters_over : (kind k : Kind) (others : List ℕ) → ends_after_letters kind others ≡ Some k → [] ≡ others
letters_over kind k [] e = refl
letters_over kind k (letter ∷ others) e = none_some k _ e

one_letter : (kind : Kind) (read byte : ℕ) (rest : List ℕ) → drop read (literal kind) ≡ byte ∷ rest → drop (read + 1) (literal kind) ≡ rest
one_letter kind read byte rest e = sym (drop-drop 1 read (literal kind)) ∙ ap (drop 1) e

letter_next : (kind : Kind) (read : ℕ) (byte : ℕ) → next (letters kind read) byte ≡ next_letter kind read (drop read (literal kind)) byte
unfolding next
letter_next kind read byte = refl

letter_end : (kind : Kind) (read : ℕ) → ends (letters kind read) ≡ ends_after_letters kind (drop read (literal kind))
unfolding ends
letter_end kind read = refl

pub literal_left : (kind k : Kind) (read : ℕ) (w : List ℕ) → Accepts (letters kind read) w k → w ≡ drop read (literal kind)
literal_left kind k read [] h = letters_over kind k (drop read (literal kind)) (sym (letter_end kind read) ∙ h)
literal_left kind k read (byte ∷ w) h =
    let s = letter_step kind read (drop read (literal kind)) byte h.0 (sym (letter_next kind read byte) ∙ h.1) in
    ap (λ l. byte ∷ l) (literal_left kind k (read + 1) w (subst (λ q. Accepts q w k) s.2 h.2) ∙ one_letter kind read byte s.0 s.1) ∙ sym s.1

pub literal_accepts : (kind : Kind) (read : ℕ) (w : List ℕ) → drop read (literal kind) ≡ w → Accepts (letters kind read) w kind
literal_accepts kind read [] e = letter_end kind read ∙ ap (ends_after_letters kind) e
literal_accepts kind read (byte ∷ w) e =
    let same : eqb byte byte ≡ true = eq-eqb byte byte refl in
    (letters kind (read + 1), letter_next kind read byte ∙ ap (λ l. next_letter kind read l byte) e ∙ rw same refl, literal_accepts kind (read + 1) w (one_letter kind read byte w e))
