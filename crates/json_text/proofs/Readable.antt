-- Each text and each name that a JSON text holds is UTF-8.
use Rattle.std.proofs.Common.{◌≡◌, ◌⊎◌, inl, inr, ℕ, suc, ◌+◌, ◌-◌, ◌<◌, Bool, true, false, ◌||◌, cond, eqb, List, [], ◌∷◌, ◌++◌, length, take, drop, get_or, Option, Some, None, refl, sym, ap, subst, ◌∙◌, arith}
use Rattle.std.specs.Prelude.{MatchOption}
use Rattle.std.specs.Str.{IsUtf8, is_utf8}
use Rattle.std.proofs.lemmas.Str.{IsUtf8-nil, is_utf8-from_IsUtf8}
use Rattle.std.proofs.lemmas.List.{drop-drop, take-append-le}
use Rattle.json_lexemes.specs.declared.kind.Kind.{Kind}
use Rattle.json_lexemes.specs.declared.kind.Kind.TheVariants as kinds
use Rattle.json_text.specs.declared.spot.Span.{Span}
use Rattle.json_text.specs.declared.spot.Spot.{Spot}
use Rattle.json_text.specs.declared.spot.Entry.{Entry}
use Rattle.json_text.specs.declared.part.Bracket.{Bracket}
use Rattle.json_text.specs.declared.part.Bracket.TheVariants.{List as list, Map as map}
use Rattle.json_text.specs.declared.part.Part.{Part}
use Rattle.json_text.specs.declared.part.Part.TheVariants.{Start as start, Next as next_part, Named as named, Member as member, Rest as rest}
use Rattle.json_lexemes.specs.declared.lexeme.Lexeme.{Lexeme}
use Rattle.json_lexemes.specs.declared.lexeme.Lexeme.TheVariants.{Minus as minus, LeadingZero as leading_zero, Integer as integer, Point as point, Decimals as decimals, Exponent as exponent, ExponentSign as exponent_sign, ExponentDigits as exponent_digits, Letters as letters, Plain as plain, Tail as tail, Escape as escape, Digits as digits, Closed as closed}
use Rattle.json_lexemes.specs.declared.unescape.Pending.TheVariants.{Between as between}
use Rattle.json_text.specs.Forest.{Forest, count}
use Rattle.json_lexemes.specs.Lexeme.{next, begins, ends, Spells, done, more, is_digit, literal, next_letter, ends_after_letters, fraction_from, exponent_from}
use Rattle.json_text.specs.Grammar.{bracket_kind, turns, takes_value, Completes, blank, word, nested, member_name, turn, close, finish}
use Rattle.json_text.specs.Unescape.{unescaped, content, text_in, name_in}
use Rattle.json_text.specs.Reading.{Holds}
use Rattle.json_text.specs.Readable.{IsReadable, TextsAreReadable}
use Rattle.json_text.proofs.Tables.{none_some}
use Rattle.json_lexemes.proofs.StringTexts.{inside_of}
use Rattle.json_text.proofs.Every.{Every, every_kept}

-- ---- numbers and literals are no texts

abbrev Wordy : Lexeme → Type 0
Wordy minus = Unit {0}
Wordy leading_zero = Unit {0}
Wordy integer = Unit {0}
Wordy point = Unit {0}
Wordy decimals = Unit {0}
Wordy exponent = Unit {0}
Wordy exponent_sign = Unit {0}
Wordy exponent_digits = Unit {0}
Wordy (letters kind read) = kind ≡ kinds.Text → ⊥
Wordy other = ⊥

record WordyIf (o : Option Lexeme) : Type 0 where
  fact : MatchOption o (Unit {0}) Wordy

none_is : WordyIf None
none_is = record { fact = tt }

cond_is : (c : Bool) (x y : Option Lexeme) → WordyIf x → WordyIf y → WordyIf (cond c x y)
cond_is true x y hx hy = hx
cond_is false x y hx hy = hy

exponent_is : (byte : ℕ) → WordyIf (exponent_from byte)
exponent_is byte = cond_is (eqb byte 101 || eqb byte 69) (Some exponent) None (record { fact = tt }) none_is

fraction_is : (byte : ℕ) → WordyIf (fraction_from byte)
fraction_is byte = cond_is (eqb byte 46) (Some point) (exponent_from byte) (record { fact = tt }) (exponent_is byte)

letter_is : (kind : Kind) (read : ℕ) (others : List ℕ) (byte : ℕ) → (kind ≡ kinds.Text → ⊥) → WordyIf (next_letter kind read others byte)
letter_is kind read [] byte h = none_is
letter_is kind read (letter ∷ others) byte h = cond_is (eqb byte letter) (Some (letters kind (read + 1))) None (record { fact = h }) none_is

next_wordy : (q : Lexeme) (byte : ℕ) → Wordy q → WordyIf (next q byte)
unfolding next
next_wordy minus byte h = cond_is (eqb byte 48) (Some leading_zero) (cond (is_digit byte) (Some integer) None) (record { fact = tt }) (cond_is (is_digit byte) (Some integer) None (record { fact = tt }) none_is)
next_wordy leading_zero byte h = fraction_is byte
next_wordy integer byte h = cond_is (is_digit byte) (Some integer) (fraction_from byte) (record { fact = tt }) (fraction_is byte)
next_wordy point byte h = cond_is (is_digit byte) (Some decimals) None (record { fact = tt }) none_is
next_wordy decimals byte h = cond_is (is_digit byte) (Some decimals) (exponent_from byte) (record { fact = tt }) (exponent_is byte)
next_wordy exponent byte h = cond_is (eqb byte 43 || eqb byte 45) (Some exponent_sign) (cond (is_digit byte) (Some exponent_digits) None) (record { fact = tt }) (cond_is (is_digit byte) (Some exponent_digits) None (record { fact = tt }) none_is)
next_wordy exponent_sign byte h = cond_is (is_digit byte) (Some exponent_digits) None (record { fact = tt }) none_is
next_wordy exponent_digits byte h = cond_is (is_digit byte) (Some exponent_digits) None (record { fact = tt }) none_is
next_wordy (letters kind read) byte h = letter_is kind read (drop read (literal kind)) byte h
next_wordy (plain high) byte h = absurd h
next_wordy (tail second count) byte h = absurd h
next_wordy escape byte h = absurd h
next_wordy (digits count unit) byte h = absurd h
next_wordy closed byte h = absurd h

number_no_text : kinds.Number ≡ kinds.Text → ⊥
number_no_text e = let bad : ⊥ = cc in bad

letters_end : (kind : Kind) (others : List ℕ) → ends_after_letters kind others ≡ Some kinds.Text → kind ≡ kinds.Text
letters_end kind [] e = let is : kind ≡ kinds.Text = cc in is
letters_end kind (letter ∷ others) e = none_some _ _ e

some_same : (a b : Kind) → Some a ≡ Some b → a ≡ b
some_same a b e = let is : a ≡ b = cc in is

wordy_end : (q : Lexeme) → Wordy q → ends q ≡ Some kinds.Text → ⊥
unfolding ends
wordy_end minus h e = none_some _ ⊥ e
wordy_end leading_zero h e = number_no_text (some_same kinds.Number kinds.Text e)
wordy_end integer h e = number_no_text (some_same kinds.Number kinds.Text e)
wordy_end point h e = none_some _ ⊥ e
wordy_end decimals h e = number_no_text (some_same kinds.Number kinds.Text e)
wordy_end exponent h e = none_some _ ⊥ e
wordy_end exponent_sign h e = none_some _ ⊥ e
wordy_end exponent_digits h e = number_no_text (some_same kinds.Number kinds.Text e)
wordy_end (letters kind read) h e = h (letters_end kind (drop read (literal kind)) e)
wordy_end (plain high) h e = h
wordy_end (tail second count) h e = h
wordy_end escape h e = h
wordy_end (digits count unit) h e = h
wordy_end closed h e = h

wordy_if : (after : Lexeme) (o : Option Lexeme) → o ≡ Some after → WordyIf o → Wordy after
wordy_if after o e h = (subst WordyIf e h).fact

wordy_spells : (q : Lexeme) (i : ℕ) (s : List ℕ) (j : ℕ) (t : List ℕ) (kind : Kind) → Spells q i s j t kind → Wordy q → kind ≡ kinds.Text → ⊥
wordy_spells q i s j t kind (done e) h is = wordy_end q h (e ∙ ap Some is)
wordy_spells q i (byte ∷ s) j t kind (more {after = after} e sp) h is = wordy_spells after (suc i) s j t kind sp (wordy_if after (next q byte) e (next_wordy q byte h)) is

begun_from : (first : Lexeme) (b c d e f g : Bool) → cond b (Some minus) (cond c (Some leading_zero) (cond d (Some integer) (cond e (Some (letters (kinds.Flag true) 1)) (cond f (Some (letters (kinds.Flag false) 1)) (cond g (Some (letters kinds.Null 1)) None))))) ≡ Some first → Wordy first
begun_from first b c d e f g h = wordy_if first _ h (cond_is b (Some minus) _ (record { fact = tt }) (cond_is c (Some leading_zero) _ (record { fact = tt }) (cond_is d (Some integer) _ (record { fact = tt })
    (cond_is e (Some (letters (kinds.Flag true) 1)) _ (record { fact = λ z. (let bad : ⊥ = cc in bad) }) (cond_is f (Some (letters (kinds.Flag false) 1)) _ (record { fact = λ z. (let bad : ⊥ = cc in bad) }) (cond_is g (Some (letters kinds.Null 1)) None (record { fact = λ z. (let bad : ⊥ = cc in bad) }) none_is))))))

begins_from : (byte : ℕ) (first : Lexeme) (a : Bool) (others : Option Lexeme) → eqb byte 34 ≡ a → (others ≡ Some first → Wordy first) → cond a (Some (plain false)) others ≡ Some first → (first ≡ plain false) ⊎ Wordy first
begins_from byte first true others ea f e = inl (let is : first ≡ plain false = cc in is)
begins_from byte first false others ea f e = inr (f e)

begins_is : (byte : ℕ) (first : Lexeme) → begins byte ≡ Some first → (first ≡ plain false) ⊎ Wordy first
unfolding begins
begins_is byte first e = begins_from byte first (eqb byte 34) _ refl (begun_from first (eqb byte 45) (eqb byte 48) (is_digit byte) (eqb byte 116) (eqb byte 102) (eqb byte 110)) e

-- ---- strings

pub drop_tail : (bytes : List ℕ) (i byte : ℕ) (s : List ℕ) → byte ∷ s ≡ drop i bytes → s ≡ drop (suc i) bytes
drop_tail bytes i byte s e = ap (drop 1) e ∙ drop-drop 1 i bytes ∙ ap (λ n. drop n bytes) (let one : i + 1 ≡ suc i = omega arith in one)

spells_rest : (bytes : List ℕ) (q : Lexeme) (i : ℕ) (s : List ℕ) (j : ℕ) (t : List ℕ) (kind : Kind) → Spells q i s j t kind → s ≡ drop i bytes → t ≡ drop j bytes
spells_rest bytes q i s j t kind (done e) h = h
spells_rest bytes q i (byte ∷ s) j t kind (more {after = after} e sp) h = spells_rest bytes after (suc i) s j t kind sp (drop_tail bytes i byte s h)

pub completes_rest : (bytes : List ℕ) (level : Option Bracket) (here : Part) (i : ℕ) (s : List ℕ) (j : ℕ) (t : List ℕ) (values : Forest) → Completes level here i s j t values → s ≡ drop i bytes → t ≡ drop j bytes
completes_rest bytes level here i (byte ∷ s) j t values (blank b c) h = completes_rest bytes level here (suc i) s j t values c (drop_tail bytes i byte s h)
completes_rest bytes level here i (byte ∷ s) j t values (turn {after = after} q c) h = completes_rest bytes level after (suc i) s j t values c (drop_tail bytes i byte s h)
completes_rest bytes level here i (byte ∷ s) j t values (close c) h = drop_tail bytes i byte s h
completes_rest bytes level here i (byte ∷ s) j t values (word {kind = kind} {first = first} {j = k} {t = u} {values = others} takes b sp c) h = completes_rest bytes level rest k u j t others c (spells_rest bytes first (suc i) s k u kind sp (drop_tail bytes i byte s h))
completes_rest bytes level here i (byte ∷ s) j t values (nested {bracket = bracket} {j = k} {t = u} {children = children} {values = others} takes o inner c) h = completes_rest bytes level rest k u j t others c (completes_rest bytes (Some bracket) start (suc i) s k u children inner (drop_tail bytes i byte s h))
completes_rest bytes level here i (byte ∷ s) j t values (member_name {j = k} {t = u} takes e sp c) h = completes_rest bytes level _ k u j t values c (spells_rest bytes (plain false) (suc i) s k u kinds.Text sp (drop_tail bytes i byte s h))
completes_rest bytes level here i s j t values (finish e) h = h

abbrev SpanReadable : List ℕ → Span → Type 0
SpanReadable bytes span = IsUtf8 (unescaped (content bytes span))

string_readable : (bytes : List ℕ) (i byte : ℕ) (s : List ℕ) (j : ℕ) (t : List ℕ) (kind : Kind) → Spells (plain false) (suc i) s j t kind → byte ∷ s ≡ drop i bytes → SpanReadable bytes (record { start = i; end = j })
string_readable bytes i byte s j t kind sp h =
    let found = inside_of (plain false) (suc i) s j t kind sp (between 0) [] (0, refl, refl) in
    let inner = found.inside in
    let len : j - 1 - (i + 1) ≡ length inner = omega (arith, found.ends) in
    let there : drop (i + 1) bytes ≡ inner ++ 34 ∷ t = ap (λ n. drop n bytes) (let one : i + 1 ≡ suc i = omega arith in one) ∙ sym (drop_tail bytes i byte s h) ∙ found.is in
    let same : content bytes (record { start = i; end = j }) ≡ inner = ap (λ n. take n (drop (i + 1) bytes)) len ∙ ap (take (length inner)) there ∙ take-append-le (length inner) inner (34 ∷ t) (omega arith) ∙ take_whole inner in
    subst (λ c. IsUtf8 (unescaped c)) (sym same) found.text
  where
    take_whole : (xs : List ℕ) → take (length xs) xs ≡ xs
    take_whole [] = refl
    take_whole (x ∷ xs) = ap (λ l. x ∷ l) (take_whole xs)

-- ---- the values of a text

abbrev NameReadable : List ℕ → Option Span → Type 0
NameReadable bytes None = Unit {0}
NameReadable bytes (Some span) = SpanReadable bytes span

abbrev PartReadable : List ℕ → Part → Type 0
PartReadable bytes (named span) = SpanReadable bytes span
PartReadable bytes (member span) = SpanReadable bytes span
PartReadable bytes other = Unit {0}

utf8_test : (text : List ℕ) → IsUtf8 text → is_utf8 text ≡ true
utf8_test text u = is_utf8-from_IsUtf8 text u

name_readable : (bytes : List ℕ) (name : Option Span) → NameReadable bytes name → is_utf8 (name_in bytes name) ≡ true
name_readable bytes None h = utf8_test [] IsUtf8-nil
name_readable bytes (Some span) h = utf8_test (unescaped (content bytes span)) h

no_text : (bytes : List ℕ) (spot : Spot) (kind : Kind) → (kind ≡ kinds.Text → ⊥) → is_utf8 (text_in bytes spot kind) ≡ true
no_text bytes spot kinds.Text h = absurd (h refl)
no_text bytes spot kinds.Null h = utf8_test [] IsUtf8-nil
no_text bytes spot (kinds.Flag on) h = utf8_test [] IsUtf8-nil
no_text bytes spot kinds.Number h = utf8_test [] IsUtf8-nil
no_text bytes spot kinds.List h = utf8_test [] IsUtf8-nil
no_text bytes spot kinds.Map h = utf8_test [] IsUtf8-nil

some_text : (bytes : List ℕ) (spot : Spot) (kind : Kind) → SpanReadable bytes spot.span → is_utf8 (text_in bytes spot kind) ≡ true
some_text bytes spot kinds.Text h = utf8_test (unescaped (content bytes spot.span)) h
some_text bytes spot kinds.Null h = utf8_test [] IsUtf8-nil
some_text bytes spot (kinds.Flag on) h = utf8_test [] IsUtf8-nil
some_text bytes spot kinds.Number h = utf8_test [] IsUtf8-nil
some_text bytes spot kinds.List h = utf8_test [] IsUtf8-nil
some_text bytes spot kinds.Map h = utf8_test [] IsUtf8-nil

bracket_no_text : (bracket : Bracket) → bracket_kind bracket ≡ kinds.Text → ⊥
bracket_no_text list e = let bad : ⊥ = cc in bad
bracket_no_text map e = let bad : ⊥ = cc in bad

name_none : (bytes : List ℕ) (name : Option Span) → Some None ≡ Some name → NameReadable bytes name
name_none bytes name e = subst (NameReadable bytes) (let is : None ≡ name = cc in is) tt

name_some : (bytes : List ℕ) (span : Span) (name : Option Span) → Some (Some span) ≡ Some name → SpanReadable bytes span → NameReadable bytes name
name_some bytes span name e h = subst (NameReadable bytes) (let is : Some span ≡ name = cc in is) h

takes_readable : (bytes : List ℕ) (level : Option Bracket) (here : Part) (name : Option Span) → takes_value level here ≡ Some name → PartReadable bytes here → NameReadable bytes name
unfolding takes_value
takes_readable bytes None start name e h = name_none bytes name e
takes_readable bytes None next_part name e h = name_none bytes name e
takes_readable bytes None (named span) name e h = name_none bytes name e
takes_readable bytes None (member span) name e h = name_none bytes name e
takes_readable bytes None rest name e h = none_some _ _ e
takes_readable bytes (Some list) start name e h = name_none bytes name e
takes_readable bytes (Some list) next_part name e h = name_none bytes name e
takes_readable bytes (Some list) (named span) name e h = name_none bytes name e
takes_readable bytes (Some list) (member span) name e h = name_none bytes name e
takes_readable bytes (Some list) rest name e h = none_some _ _ e
takes_readable bytes (Some map) start name e h = none_some _ _ e
takes_readable bytes (Some map) next_part name e h = none_some _ _ e
takes_readable bytes (Some map) (named span) name e h = none_some _ _ e
takes_readable bytes (Some map) (member span) name e h = name_some bytes span name e h
takes_readable bytes (Some map) rest name e h = none_some _ _ e

on_byte_readable : (bytes : List ℕ) (a : Bool) (part after : Part) → cond a (Some part) None ≡ Some after → PartReadable bytes part → PartReadable bytes after
on_byte_readable bytes true part after e h = subst (PartReadable bytes) (let is : part ≡ after = cc in is) h
on_byte_readable bytes false part after e h = none_some after _ e

turns_readable : (bytes : List ℕ) (level : Option Bracket) (here after : Part) (byte : ℕ) → turns level here byte ≡ Some after → PartReadable bytes here → PartReadable bytes after
unfolding turns
turns_readable bytes None here after byte e h = none_some after _ e
turns_readable bytes (Some list) rest after byte e h = on_byte_readable bytes (eqb byte 44) next_part after e tt
turns_readable bytes (Some list) start after byte e h = none_some after _ e
turns_readable bytes (Some list) next_part after byte e h = none_some after _ e
turns_readable bytes (Some list) (named span) after byte e h = none_some after _ e
turns_readable bytes (Some list) (member span) after byte e h = none_some after _ e
turns_readable bytes (Some map) rest after byte e h = on_byte_readable bytes (eqb byte 44) next_part after e tt
turns_readable bytes (Some map) (named span) after byte e h = on_byte_readable bytes (eqb byte 58) (member span) after e h
turns_readable bytes (Some map) start after byte e h = none_some after _ e
turns_readable bytes (Some map) next_part after byte e h = none_some after _ e
turns_readable bytes (Some map) (member span) after byte e h = none_some after _ e

word_readable : (bytes : List ℕ) (i byte : ℕ) (s : List ℕ) (j : ℕ) (t : List ℕ) (kind : Kind) (first : Lexeme) (name : Option Span) → begins byte ≡ Some first → Spells first (suc i) s j t kind → byte ∷ s ≡ drop i bytes → is_utf8 (text_in bytes (record { kind = kind; span = record { start = i; end = j }; name = name }) kind) ≡ true
word_readable bytes i byte s j t kind first name b sp h = elim (begins_is byte first b) [
  | inl is ↦ some_text bytes (record { kind = kind; span = record { start = i; end = j }; name = name }) kind (string_readable bytes i byte s j t kind (subst (λ q. Spells q (suc i) s j t kind) is sp) h)
  | inr wordy ↦ no_text bytes (record { kind = kind; span = record { start = i; end = j }; name = name }) kind (wordy_spells first (suc i) s j t kind sp wordy)
]

values_readable : (bytes : List ℕ) (level : Option Bracket) (here : Part) (i : ℕ) (s : List ℕ) (j : ℕ) (t : List ℕ) (values : Forest) → Completes level here i s j t values → s ≡ drop i bytes → PartReadable bytes here → Every (IsReadable bytes) values
values_readable bytes level here i (byte ∷ s) j t values (blank b c) h p = values_readable bytes level here (suc i) s j t values c (drop_tail bytes i byte s h) p
values_readable bytes level here i (byte ∷ s) j t values (turn {after = after} q c) h p = values_readable bytes level after (suc i) s j t values c (drop_tail bytes i byte s h) (turns_readable bytes level here after byte q p)
values_readable bytes level here i (byte ∷ s) j t values (close c) h p = tt
values_readable bytes level here i (byte ∷ s) j t values (word {name = name} {kind = kind} {first = first} {j = k} {t = u} {values = others} takes b sp c) h p = (
  (word_readable bytes i byte s k u kind first name b sp h, name_readable bytes name (takes_readable bytes level here name takes p)),
  tt,
  values_readable bytes level rest k u j t others c (spells_rest bytes first (suc i) s k u kind sp (drop_tail bytes i byte s h)) tt,
)
values_readable bytes level here i (byte ∷ s) j t values (nested {name = name} {bracket = bracket} {j = k} {t = u} {children = children} {values = others} takes o inner c) h p =
    let s' = drop_tail bytes i byte s h in (
      (no_text bytes (record { kind = bracket_kind bracket; span = record { start = i; end = k }; name = name }) (bracket_kind bracket) (bracket_no_text bracket), name_readable bytes name (takes_readable bytes level here name takes p)),
      values_readable bytes (Some bracket) start (suc i) s k u children inner s' tt,
      values_readable bytes level rest k u j t others c (completes_rest bytes (Some bracket) start (suc i) s k u children inner s') tt,
    )
values_readable bytes level here i (byte ∷ s) j t values (member_name {j = k} {t = u} takes e sp c) h p =
    values_readable bytes level (named (record { start = i; end = k })) k u j t values c (spells_rest bytes (plain false) (suc i) s k u kinds.Text sp (drop_tail bytes i byte s h)) (string_readable bytes i byte s k u kinds.Text sp h)
values_readable bytes level here i s j t values (finish e) h p = tt

-- ---- the kept values

pub texts_readable : (bytes : List ℕ) (nodes : List Entry) → Holds bytes nodes → TextsAreReadable bytes nodes
texts_readable bytes nodes h k e lt =
    subst (λ (x : List Entry). k < length x → IsReadable bytes (get_or x k e).spot) (sym h.nodes_are)
    (every_kept (IsReadable bytes) 0 h.values (values_readable bytes None start 0 bytes (length bytes) [] h.values h.text refl tt) k e) lt
