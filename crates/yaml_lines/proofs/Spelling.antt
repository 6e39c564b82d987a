-- What quotes spell: from a text in UTF-8 comes such a text.
use Rattle.std.proofs.Common.{◌≡◌, ℕ, zero, suc, ◌+◌, ◌-◌, ◌*◌, ◌<◌, ◌≤◌, Bool, true, false, ◌&&◌, ◌||◌, ◌==◌, List, [], ◌∷◌, ◌++◌, refl, sym, ap, subst, ◌∙◌, arith, Option, Some, None, option_map, lt-ltb, le-ltb, inl, inr, ◌⊎◌}
use Rattle.std.specs.Prelude.{IsUtf8, if◌then◌else◌, encode_utf8, nat_le}
use lib.Utf8.{scalar, low_scalar}
use Rattle.std.proofs.lemmas.Bool.{true≢false, cases_lt, and_from, and_right, or_from, and_parts, leb-true, le-leb, lt-leb}
use Rattle.std.proofs.lemmas.Str.{IsUtf8-nil, IsUtf8-append, IsUtf8-encode}
use Rattle.yaml_lines.specs.declared.quoted.Escape.{Escape}
use Rattle.yaml_lines.specs.declared.quoted.Escape.TheVariants.{Between as between, Backslash as backslash, Digits as digits}
use Rattle.yaml_lines.specs.Quoted.{paired_after, single_piece, single_text, within, is_hex_digit, hex_value, short_escape, Step, step_with, escape_step, last_digit, digit_step, step, ended, prefixed, stepped, double_text, text_within, FitsEscape}
use Rattle.yaml_lines.proofs.Branches.{if_of}
use Rattle.yaml_lines.proofs.Escapes.{fits_next}
use Rattle.yaml_lines.proofs.Chars.{AreHigh, by_text, utf8_one, apart}

-- single quotes
record SingleOn (paired : Bool) (w bs : List ℕ) : Type 0 where
  next : Bool
  is : single_text paired (w ++ bs) ≡ w ++ single_text next bs

single_byte : (paired : Bool) (b : ℕ) → 128 ≤ b → single_piece paired b ≡ b ∷ []
single_byte true b h = rw (apart b 39 h (omega arith)) refl
single_byte false b h = refl

single_over : (w bs : List ℕ) (paired : Bool) → AreHigh w → SingleOn paired w bs
unfolding single_text
single_over [] bs paired h = record { next = paired; is = refl }
single_over (b ∷ w) bs paired h =
    let on = single_over w bs (paired_after false paired b) h.1 in
    record { next = on.next; is = ap (λ l. l ++ single_text (paired_after false paired b) (w ++ bs)) (single_byte paired b h.0) ∙ ap (λ l. b ∷ l) on.is }

single_utf8 : (bs : List ℕ) → IsUtf8 bs → (paired : Bool) → IsUtf8 (single_text paired bs)
unfolding single_text
single_utf8 bs u = by_text (λ (l : List ℕ). (paired : Bool) → IsUtf8 (single_text paired l)) (λ paired. IsUtf8-nil)
    (λ b l low v again paired. IsUtf8-append (single_piece paired b) (single_text (paired_after false paired b) l)
    (if_of (λ (x : List ℕ). IsUtf8 x) (paired && b == 39) [] (b ∷ []) (λ e. IsUtf8-nil) (λ e. utf8_one b low))
    (again (paired_after false paired b)))
    (λ w l high uw v again paired. let on = single_over w l paired high in subst IsUtf8 (sym on.is) (IsUtf8-append w (single_text on.next l) uw (again on.next)))
    bs u

-- double quotes
same_text : (a b : List ℕ) → Some a ≡ Some b → a ≡ b
same_text a b e = cc

none_some : (text : List ℕ) → None ≡ Some text → ⊥
none_some text e = cc

prefixed_utf8 : (bytes : List ℕ) (o : Option (List ℕ)) (text : List ℕ) → prefixed bytes o ≡ Some text → IsUtf8 bytes → ((t : List ℕ) → o ≡ Some t → IsUtf8 t) → IsUtf8 text
prefixed_utf8 bytes None text e u rest = cc
prefixed_utf8 bytes (Some t) text e u rest = subst IsUtf8 (same_text (bytes ++ t) text e) (IsUtf8-append bytes t u (rest t refl))

abbrev IsStep : Step → Type 0
IsStep s = IsUtf8 s.bytes × FitsEscape s.after

abbrev OfStep : Option Step → Type 0
OfStep None = Unit {0}
OfStep (Some s) = IsStep s

stepped_utf8 : (o : Option Step) (k : Escape → Option (List ℕ)) (text : List ℕ) → OfStep o → ((after : Escape) → FitsEscape after → (t : List ℕ) → k after ≡ Some t → IsUtf8 t) → stepped o k ≡ Some text → IsUtf8 text
stepped_utf8 None k text is rest e = cc
stepped_utf8 (Some s) k text is rest e = prefixed_utf8 s.bytes (k s.after) text e is.0 (λ t h. rest s.after is.1 t h)

abbrev OfShort : Option ℕ → Type 0
OfShort None = Unit {0}
OfShort (Some b) = b < 128

short_low : (b : ℕ) → OfShort (short_escape b)
short_low b =
    if_of OfShort (b == 92) (Some 92) _ (λ e. omega arith)
    (λ e. if_of OfShort (b == 34) (Some 34) _ (λ f. omega arith)
    (λ f. if_of OfShort (b == 47) (Some 47) _ (λ g. omega arith)
    (λ g. if_of OfShort (b == 110) (Some 10) _ (λ h. omega arith)
    (λ h. if_of OfShort (b == 116) (Some 9) None (λ i. omega arith) (λ i. tt)))))

short_step : (o : Option ℕ) → OfShort o → OfStep (option_map (λ b. step_with between (b ∷ [])) o)
short_step None is = tt
short_step (Some b) is = (utf8_one b is, tt)

hex_low : (b : ℕ) → is_hex_digit b ≡ true → hex_value b < 16
hex_low b t = by_tests (within 48 57 b) (within 65 70 b) refl refl t
  where
    bounds : (low high : ℕ) → within low high b ≡ true → (low ≤ b) × (b ≤ high)
    bounds low high t = let p = and_parts (nat_le low b) (nat_le b high) t in (leb-true low b p.0, leb-true b high p.1)

    by_tests : (x y : Bool) → within 48 57 b ≡ x → within 65 70 b ≡ y → (x || y || within 97 102 b) ≡ true → (if x then b - 48 else if y then b - 55 else b - 87) < 16
    by_tests true y e f t = let p = bounds 48 57 e in omega (arith, p.0, p.1)
    by_tests false true e f t = let p = bounds 65 70 f in omega (arith, p.0, p.1)
    by_tests false false e f t = let p = bounds 97 102 t in omega (arith, p.0, p.1)

-- the bytes of a number are those of a character, unless it is half of a pair
high_scalar : (c : ℕ) → 57344 ≤ c → c < 65536 → scalar c ≡ true
high_scalar c l h = rw (le-ltb c 55296 (omega (arith, l)), le-leb 57344 c l, lt-ltb c 1114112 (omega (arith, h))) refl

is_scalar : (unit : ℕ) → unit < 65536 → within 0xd800 0xdfff unit ≡ false → scalar unit ≡ true
is_scalar unit l e = elim (cases_lt unit 55296) [ inl low ↦ low_scalar unit low | inr high ↦ beyond high (cases_lt unit 57344) ]
  where
    beyond : 55296 ≤ unit → (unit < 57344) ⊎ (57344 ≤ unit) → scalar unit ≡ true
    beyond high (inl below) = let half : within 0xd800 0xdfff unit ≡ true = and_from (nat_le 55296 unit) (nat_le unit 57343) (le-leb 55296 unit high) (le-leb unit 57343 (omega (arith, below))) in absurd (true≢false (sym half ∙ e))
    beyond high (inr above) = high_scalar unit above l

character_step : (unit : ℕ) → unit < 65536 → OfStep (last_digit unit)
character_step unit l = by_test (within 0xd800 0xdfff unit) refl
  where
    by_test : (x : Bool) → within 0xd800 0xdfff unit ≡ x → OfStep (option_map (λ bytes. step_with between bytes) (if x then None else Some (encode_utf8 unit)))
    by_test true e = tt
    by_test false e = (IsUtf8-encode unit (is_scalar unit l e), tt)

digit_good : (others unit digit : ℕ) → FitsEscape (digits others unit) → digit < 16 → OfStep (digit_step others (16 * unit + digit))
digit_good zero unit digit fits d = character_step (16 * unit + digit) (omega (arith, fits, d))
digit_good (suc others) unit digit fits d = (IsUtf8-nil, fits_next others unit digit fits d)

low_step : (escape : Escape) (b : ℕ) → b < 128 → FitsEscape escape → OfStep (step escape b)
low_step between b low fits = if_of IsStep (b == 92) (step_with backslash []) (step_with between (b ∷ [])) (λ e. (IsUtf8-nil, tt)) (λ e. (utf8_one b low, tt))
low_step backslash b low fits =
    if_of OfStep (b == 117) (Some (step_with (digits 3 0) [])) (option_map (λ x. step_with between (x ∷ [])) (short_escape b)) (λ e. (IsUtf8-nil, omega arith)) (λ e. short_step (short_escape b) (short_low b))
low_step (digits others unit) b low fits =
    if_of OfStep (is_hex_digit b) (digit_step others (16 * unit + hex_value b)) None (λ e. digit_good others unit (hex_value b) fits (hex_low b e)) (λ e. tt)

-- bytes above ASCII end an escape
high_short : (b : ℕ) → 128 ≤ b → escape_step b ≡ None
high_short b h = rw (apart b 117 h (omega arith), apart b 92 h (omega arith), apart b 34 h (omega arith), apart b 47 h (omega arith), apart b 110 h (omega arith), apart b 116 h (omega arith)) refl

high_hex : (b : ℕ) → 128 ≤ b → is_hex_digit b ≡ false
high_hex b h = or_from (within 48 57 b || within 65 70 b) (within 97 102 b) (or_from (within 48 57 b) (within 65 70 b) (none_within 48 57 (omega (arith, h))) (none_within 65 70 (omega (arith, h)))) (none_within 97 102 (omega (arith, h)))
  where
    none_within : (low high : ℕ) → high < b → within low high b ≡ false
    none_within low high l = and_right (nat_le low b) (nat_le b high) (lt-leb b high l)

high_between : (b : ℕ) → 128 ≤ b → step between b ≡ Some (step_with between (b ∷ []))
high_between b h = rw (apart b 92 h (omega arith)) refl

prefixed_none : (o : Option (List ℕ)) → prefixed [] o ≡ o
prefixed_none None = refl
prefixed_none (Some t) = refl

prefixed_more : (b : ℕ) (w : List ℕ) (o : Option (List ℕ)) → prefixed (b ∷ []) (prefixed w o) ≡ prefixed (b ∷ w) o
prefixed_more b w None = refl
prefixed_more b w (Some t) = refl

double_over : (w bs : List ℕ) → AreHigh w → double_text between (w ++ bs) ≡ prefixed w (double_text between bs)
unfolding double_text
double_over [] bs h = sym (prefixed_none (double_text between bs))
double_over (b ∷ w) bs h =
    ap (λ s. stepped s (λ after. double_text after (w ++ bs))) (high_between b h.0)
    ∙ ap (prefixed (b ∷ [])) (double_over w bs h.1)
    ∙ prefixed_more b w (double_text between bs)

abbrev IsDouble : List ℕ → Type 0
IsDouble bs = (escape : Escape) → FitsEscape escape → (text : List ℕ) → double_text escape bs ≡ Some text → IsUtf8 text

double_end : (escape : Escape) (text : List ℕ) → ended escape ≡ Some text → IsUtf8 text
double_end between text e = subst IsUtf8 (same_text [] text e) IsUtf8-nil
double_end backslash text e = cc
double_end (digits others unit) text e = cc

double_wide : (w bs : List ℕ) → AreHigh w → IsUtf8 w → IsDouble bs → (escape : Escape) → FitsEscape escape → (text : List ℕ) → double_text escape (w ++ bs) ≡ Some text → IsUtf8 text
unfolding double_text
double_wide [] bs high u again escape fits text e = again escape fits text e
double_wide (b ∷ w) bs high u again between fits text e = prefixed_utf8 (b ∷ w) (double_text between bs) text (sym (double_over (b ∷ w) bs high) ∙ e) u (λ t h. again between tt t h)
double_wide (b ∷ w) bs high u again backslash fits text e =
    absurd (none_some text (sym (ap (λ s. stepped s (λ after. double_text after (w ++ bs))) (high_short b high.0)) ∙ e))
double_wide (b ∷ w) bs high u again (digits others unit) fits text e =
    absurd (none_some text (sym (ap (λ x. stepped (if x then digit_step others (16 * unit + hex_value b) else None) (λ after. double_text after (w ++ bs))) (high_hex b high.0)) ∙ e))

double_utf8 : (bs : List ℕ) → IsUtf8 bs → IsDouble bs
unfolding double_text
double_utf8 bs u = by_text IsDouble (λ escape fits text e. double_end escape text e)
    (λ b l low v again escape fits text e. stepped_utf8 (step escape b) (λ after. double_text after l) text (low_step escape b low fits) again e)
    (λ w l high uw v again. double_wide w l high uw again)
    bs u

pub unquoted_utf8 : (double : Bool) (bs text : List ℕ) → IsUtf8 bs → text_within double bs ≡ Some text → IsUtf8 text
unquoted_utf8 true bs text u e = double_utf8 bs u between tt text e
unquoted_utf8 false bs text u e = subst IsUtf8 (same_text (single_text false bs) text e) (single_utf8 bs u false)
