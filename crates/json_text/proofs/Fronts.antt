-- The bytes after which a reader isn't refused are the fronts of JSON texts.
use Rattle.std.proofs.Common.{◌≡◌, ◌≢◌, inl, inr, ℕ, zero, suc, ◌+◌, ◌*◌, ◌%◌, Bool, true, false, ◌&&◌, cond, eqb, ltb, List, [], ◌∷◌, ◌++◌, drop, length, Option, Some, None, refl, sym, ap, subst, ◌∙◌, arith, append-nil}
use Rattle.std.specs.Prelude.{MatchOption}
use Rattle.std.proofs.lemmas.Bool.Decides.{eqb_tells}
use Rattle.json_lexemes.specs.declared.kind.Kind.{Kind}
use Rattle.json_lexemes.specs.declared.kind.Kind.TheVariants as kinds
use Rattle.json_text.specs.declared.spot.Span.{Span}
use Rattle.json_text.specs.Forest.{Forest, empty, one, append}
use Rattle.json_lexemes.specs.declared.lexeme.Second.{Second}
use Rattle.json_lexemes.specs.declared.lexeme.Second.TheVariants.{Any as any, FromA0 as from_a0, To9F as to_9f, From90 as from_90, To8F as to_8f}
use Rattle.json_lexemes.specs.declared.lexeme.Lexeme.{Lexeme}
use Rattle.json_lexemes.specs.declared.lexeme.Lexeme.TheVariants.{Minus as minus, LeadingZero as leading_zero, Integer as integer, Point as point, Decimals as decimals, Exponent as exponent, ExponentSign as exponent_sign, ExponentDigits as exponent_digits, Letters as letters, Plain as plain, Tail as tail, Escape as escape, Digits as digits, Closed as closed}
use Rattle.std.proofs.lemmas.List.{drop-drop}
use Rattle.json_lexemes.specs.Lexeme.{literal, least, hex_value, after_tail, is_short_escape, begins, ends, next, leads, Spells, done, more}
use Rattle.json_text.specs.declared.part.Bracket.{Bracket}
use Rattle.json_text.specs.declared.part.Bracket.TheVariants.{List as list, Map as map}
use Rattle.json_text.specs.declared.part.Part.{Part}
use Rattle.json_text.specs.declared.part.Part.TheVariants.{Start as start, Next as next_part, Named as named, Member as member, Rest as rest}
use Rattle.json_text.specs.Grammar.{is_blank, opens, closes, turns, takes_value, takes_name, Completes, blank, word, nested, member_name, turn, close, finish, IsText}
use Rattle.json_text.specs.Progress.{Frame, Doing, part, value, naming, State, refused, reading, level_of, spot, closed_in, close_step, word_step, value_step, other_step, turn_step, part_step, value_end, name_end, value_goes, name_goes, step, after_from, after, first_state}
use Rattle.json_text.proofs.Tables.{some_none}
use Rattle.json_text.proofs.Residue.{append-empty, Then, FromPart, FromState, step_forth, step_back, word_back, turn_back, shut_back, name_back}

-- ---- lengths

spells_length : (q : Lexeme) (i j : ℕ) (s t : List ℕ) (kind : Kind) → Spells q i s j t kind → j + length t ≡ i + length s
spells_length q i j s t kind (done e) = refl
spells_length q i j (byte ∷ s) t kind (more e h) = omega (arith, spells_length _ (suc i) j s t kind h)

completes_length : (level : Option Bracket) (here : Part) (i j : ℕ) (s t : List ℕ) (values : Forest) → Completes level here i s j t values → j + length t ≡ i + length s
completes_length level here i j (byte ∷ s) t values (blank b c) = omega (arith, completes_length _ _ (suc i) j s t _ c)
completes_length level here i j (byte ∷ s) t values (word {j = k} {t = u} takes b spells c) = omega (arith, spells_length _ (suc i) k s u _ spells, completes_length _ _ k j u t _ c)
completes_length level here i j (byte ∷ s) t values (nested {j = k} {t = u} takes o inner c) = omega (arith, completes_length _ _ (suc i) k s u _ inner, completes_length _ _ k j u t _ c)
completes_length level here i j (byte ∷ s) t values (member_name {j = k} {t = u} takes e spells c) = omega (arith, spells_length _ (suc i) k s u _ spells, completes_length _ _ k j u t _ c)
completes_length level here i j (byte ∷ s) t values (turn q c) = omega (arith, completes_length _ _ (suc i) j s t _ c)
completes_length level here i j (byte ∷ s) t values (close c) = omega arith
completes_length level here i j s t values (finish e) = refl

-- ---- a text is what completes the first state

pub text_state : (bytes : List ℕ) (values : Forest) → IsText bytes values → FromState first_state 0 bytes values
text_state bytes values h = (length bytes, [], values, h, (refl, refl))

pub state_text : (bytes : List ℕ) (values : Forest) → FromState first_state 0 bytes values → IsText bytes values
state_text bytes values h =
    let whole : values ≡ h.2 = h.4.1 in
    let nothing : h.1 ≡ [] = h.4.0 in
    let ended : h.0 ≡ length bytes = omega (arith, completes_length None start 0 h.0 bytes h.1 h.2 h.3, ap length nothing) in
    subst (λ f. IsText bytes f) (sym whole) (subst (λ t. Completes None start 0 bytes (length bytes) t h.2) nothing (subst (λ j. Completes None start 0 bytes j h.1 h.2) ended h.3))

-- ---- over several bytes

pub after_forth : (p r : List ℕ) (state : State) (i : ℕ) (whole : Forest) → FromState state i (p ++ r) whole → FromState (after_from i state p) (i + length p) r whole
unfolding after_from
after_forth [] r state i whole h = subst (λ k. FromState state k r whole) (let e : i ≡ i + 0 = omega arith in e) h
after_forth (byte ∷ p) r state i whole h =
    let e : suc i + length p ≡ i + suc (length p) = omega arith in
    subst (λ k. FromState (after_from (suc i) (step i state byte) p) k r whole) e (after_forth p r (step i state byte) (suc i) whole (step_forth state i byte (p ++ r) whole h))

pub after_back : (p r : List ℕ) (state : State) (i : ℕ) (whole : Forest) → FromState (after_from i state p) (i + length p) r whole → FromState state i (p ++ r) whole
unfolding after_from
after_back [] r state i whole h = subst (λ k. FromState state k r whole) (let e : i + 0 ≡ i = omega arith in e) h
after_back (byte ∷ p) r state i whole h =
    let e : i + suc (length p) ≡ suc i + length p = omega arith in
    step_back state i byte (p ++ r) whole (after_back p r (step i state byte) (suc i) whole (subst (λ k. FromState (after_from (suc i) (step i state byte) p) k r whole) e h))

-- ---- strings stay strings

abbrev pub Stringy : Lexeme → Type 0
Stringy (plain high) = Unit {0}
Stringy (tail second count) = Unit {0}
Stringy escape = Unit {0}
Stringy (digits count unit) = Unit {0}
Stringy closed = Unit {0}
Stringy other = ⊥

pub record StringyIf (o : Option Lexeme) : Type 0 where
  pub fact : MatchOption o (Unit {0}) Stringy

none_is : StringyIf None
none_is = record { fact = tt }

some_is : (q : Lexeme) → Stringy q → StringyIf (Some q)
some_is q h = record { fact = h }

cond_is : (c : Bool) (x y : Option Lexeme) → StringyIf x → StringyIf y → StringyIf (cond c x y)
cond_is true x y hx hy = hx
cond_is false x y hx hy = hy

leads_stringy : (byte : ℕ) → StringyIf (leads byte)
leads_stringy byte =
    cond_is (ltb byte 0xc2) _ _ none_is (cond_is (ltb byte 0xe0) _ _ (some_is (tail any 0) tt) (cond_is (eqb byte 0xe0) _ _ (some_is (tail from_a0 1) tt)
    (cond_is (eqb byte 0xed) _ _ (some_is (tail to_9f 1) tt) (cond_is (ltb byte 0xf0) _ _ (some_is (tail any 1) tt)
    (cond_is (eqb byte 0xf0) _ _ (some_is (tail from_90 2) tt) (cond_is (ltb byte 0xf4) _ _ (some_is (tail any 2) tt) (cond_is (eqb byte 0xf4) _ _ (some_is (tail to_8f 2) tt) none_is)))))))

pub next_stringy : (q : Lexeme) (byte : ℕ) → Stringy q → StringyIf (next q byte)
unfolding next
next_stringy (plain high) byte h = cond_is (eqb byte 34) _ _ (some_is closed tt) (cond_is (eqb byte 92) _ _ (some_is escape tt) (cond_is (ltb byte 32) _ _ none_is (cond_is (ltb byte 128) _ _ (some_is (plain false) tt) (leads_stringy byte))))
next_stringy (tail second zero) byte h = cond_is _ _ _ (some_is _ tt) none_is
next_stringy (tail second (suc count)) byte h = cond_is _ _ _ (some_is _ tt) none_is
next_stringy escape byte h = cond_is (eqb byte 117) _ _ (some_is (digits 3 0) tt) (cond_is (is_short_escape byte) _ _ (some_is (plain false) tt) none_is)
next_stringy (digits zero unit) byte h = cond_is _ _ _ (some_is _ tt) none_is
next_stringy (digits (suc count) unit) byte h = cond_is _ _ _ (some_is _ tt) none_is
next_stringy closed byte h = none_is
next_stringy minus byte h = absurd h
next_stringy leading_zero byte h = absurd h
next_stringy integer byte h = absurd h
next_stringy point byte h = absurd h
next_stringy decimals byte h = absurd h
next_stringy exponent byte h = absurd h
next_stringy exponent_sign byte h = absurd h
next_stringy exponent_digits byte h = absurd h
next_stringy (letters kind read) byte h = absurd h

-- a reader within a name is within a string
abbrev pub SoundDoing : Doing → Type 0
SoundDoing (part here) = Unit {0}
SoundDoing (value q from name) = Unit {0}
SoundDoing (naming q from) = Stringy q

abbrev pub SoundState : State → Type 0
SoundState refused = Unit {0}
SoundState (reading values frames doing) = SoundDoing doing

pub record Sound (state : State) : Type 0 where
  pub fact : SoundState state

cond_sound : (c : Bool) (x y : State) → Sound x → Sound y → Sound (cond c x y)
cond_sound true x y hx hy = hx
cond_sound false x y hx hy = hy

no_sound : Sound refused
no_sound = record { fact = tt }

close_sound : (i : ℕ) (values : Forest) (frames : List Frame) → Sound (close_step i values frames)
close_sound i values [] = record { fact = tt }
close_sound i values (f ∷ fs) = record { fact = tt }

word_sound : (i : ℕ) (values : Forest) (frames : List Frame) (name : Option Span) (o : Option Lexeme) → Sound (word_step i values frames name o)
word_sound i values frames name None = record { fact = tt }
word_sound i values frames name (Some q) = record { fact = tt }

value_sound : (i : ℕ) (values : Forest) (frames : List Frame) (name : Option Span) (byte : ℕ) (o : Option Bracket) → Sound (value_step i values frames name byte o)
value_sound i values frames name byte None = word_sound i values frames name (begins byte)
value_sound i values frames name byte (Some b) = record { fact = tt }

other_sound : (i : ℕ) (values : Forest) (frames : List Frame) (here : Part) (byte : ℕ) (o : Option (Option Span)) → Sound (other_step i values frames here byte o)
other_sound i values frames here byte (Some name) = value_sound i values frames name byte (opens byte)
other_sound i values frames here byte None = cond_sound (takes_name (level_of frames) here && eqb byte 34) (reading values frames (naming (plain false) i)) refused (record { fact = tt }) no_sound

turn_sound : (i : ℕ) (values : Forest) (frames : List Frame) (here : Part) (byte : ℕ) (o : Option Part) → Sound (turn_step i values frames here byte o)
turn_sound i values frames here byte (Some q) = record { fact = tt }
turn_sound i values frames here byte None = other_sound i values frames here byte (takes_value (level_of frames) here)

part_sound : (frames : List Frame) (values : Forest) (here : Part) (i byte : ℕ) → Sound (part_step i values frames here byte)
unfolding part_step
part_sound frames values here i byte = cond_sound (is_blank byte) (reading values frames (part here)) _ (record { fact = tt }) (cond_sound (closes (level_of frames) here byte) (close_step i values frames) (turn_step i values frames here byte (turns (level_of frames) here byte)) (close_sound i values frames) (turn_sound i values frames here byte (turns (level_of frames) here byte)))

value_end_sound : (i : ℕ) (values : Forest) (frames : List Frame) (from : ℕ) (name : Option Span) (byte : ℕ) (o : Option Kind) → Sound (value_end i values frames from name byte o)
value_end_sound i values frames from name byte None = no_sound
value_end_sound i values frames from name byte (Some kind) = part_sound frames (append values (one (spot kind from i name) empty)) rest i byte

value_goes_sound : (i : ℕ) (values : Forest) (frames : List Frame) (q : Lexeme) (from : ℕ) (name : Option Span) (byte : ℕ) (o : Option Lexeme) → Sound (value_goes i values frames q from name byte o)
value_goes_sound i values frames q from name byte (Some after) = record { fact = tt }
value_goes_sound i values frames q from name byte None = value_end_sound i values frames from name byte (ends q)

name_end_sound : (i : ℕ) (values : Forest) (frames : List Frame) (from : ℕ) (byte : ℕ) (o : Option Kind) → Sound (name_end i values frames from byte o)
name_end_sound i values frames from byte (Some kinds.Text) = part_sound frames values (named (record { start = from; end = i })) i byte
name_end_sound i values frames from byte None = no_sound
name_end_sound i values frames from byte (Some kinds.Null) = no_sound
name_end_sound i values frames from byte (Some (kinds.Flag on)) = no_sound
name_end_sound i values frames from byte (Some kinds.Number) = no_sound
name_end_sound i values frames from byte (Some kinds.List) = no_sound
name_end_sound i values frames from byte (Some kinds.Map) = no_sound

name_goes_sound : (i : ℕ) (values : Forest) (frames : List Frame) (q : Lexeme) (from : ℕ) (byte : ℕ) (o : Option Lexeme) → StringyIf o → Sound (name_goes i values frames q from byte o)
name_goes_sound i values frames q from byte (Some after) h = record { fact = h.fact }
name_goes_sound i values frames q from byte None h = name_end_sound i values frames from byte (ends q)

step_sound : (i byte : ℕ) (state : State) → Sound state → Sound (step i state byte)
step_sound i byte refused h = no_sound
step_sound i byte (reading values frames (part here)) h = part_sound frames values here i byte
step_sound i byte (reading values frames (value q from name)) h = value_goes_sound i values frames q from name byte (next q byte)
step_sound i byte (reading values frames (naming q from)) h = name_goes_sound i values frames q from byte (next q byte) (next_stringy q byte h.fact)

after_sound : (i : ℕ) (state : State) (bytes : List ℕ) → Sound state → Sound (after_from i state bytes)
unfolding after_from
after_sound i state [] h = h
after_sound i state (byte ∷ bytes) h = after_sound (suc i) (step i state byte) bytes (step_sound i byte state h)

-- ---- every word can be brought to an end

-- some bytes, whatever follows them, end the word, as what `wanted` accepts
record Endable (q : Lexeme) (wanted : Kind → Type 0) : Type 0 where
  bytes : List ℕ
  kind : Kind
  fits : wanted kind
  ends_it : (i : ℕ) (t : List ℕ) → Spells q i (bytes ++ t) (i + length bytes) t kind

ends_now : (q : Lexeme) (wanted : Kind → Type 0) (kind : Kind) → wanted kind → ends q ≡ Some kind → Endable q wanted
ends_now q wanted kind w e = record { bytes = []; kind = kind; fits = w; ends_it = λ i t. subst (λ j. Spells q i t j t kind) (let e0 : i ≡ i + 0 = omega arith in e0) (done e) }

ends_after : (q p : Lexeme) (byte : ℕ) (wanted : Kind → Type 0) → next q byte ≡ Some p → Endable p wanted → Endable q wanted
ends_after q p byte wanted e h = record { bytes = byte ∷ h.bytes; kind = h.kind; fits = h.fits; ends_it = λ i t. more e (subst (λ j. Spells p (suc i) (h.bytes ++ t) j t h.kind) (let e1 : suc i + length h.bytes ≡ i + suc (length h.bytes) = omega arith in e1) (h.ends_it (suc i) t)) }

abbrev IsTextKind : Kind → Type 0
IsTextKind kind = kind ≡ kinds.Text

abbrev AnyKind : Kind → Type 0
AnyKind kind = Unit {0}

closed_ends : Endable closed IsTextKind
unfolding ends
closed_ends = ends_now closed IsTextKind kinds.Text refl refl

plain_ends : (high : Bool) → Endable (plain high) IsTextKind
unfolding next
plain_ends high = ends_after (plain high) closed 34 IsTextKind refl closed_ends

any_ends : (count : ℕ) → Endable (tail any count) IsTextKind
unfolding next
any_ends zero = ends_after (tail any zero) (plain false) 0x80 IsTextKind refl (plain_ends false)
any_ends (suc count) = ends_after (tail any (suc count)) (tail any count) 0x80 IsTextKind refl (any_ends count)

tail_ends : (second : Second) (count : ℕ) (e : next (tail second count) (least second) ≡ Some (after_tail count)) → Endable (tail second count) IsTextKind
tail_ends second zero e = ends_after (tail second zero) (plain false) (least second) IsTextKind e (plain_ends false)
tail_ends second (suc count) e = ends_after (tail second (suc count)) (tail any count) (least second) IsTextKind e (any_ends count)

digits_end : (count unit : ℕ) → Endable (digits count unit) IsTextKind
unfolding next
digits_end zero unit = ends_after (digits zero unit) _ 48 IsTextKind refl (plain_ends _)
digits_end (suc count) unit = ends_after (digits (suc count) unit) (digits count ((16 * unit + hex_value 48) % 65536)) 48 IsTextKind refl (digits_end count ((16 * unit + hex_value 48) % 65536))

string_ends : (q : Lexeme) → Stringy q → Endable q IsTextKind
unfolding next
string_ends (plain high) h = plain_ends high
string_ends (tail any count) h = tail_ends any count refl
string_ends (tail from_a0 count) h = tail_ends from_a0 count refl
string_ends (tail to_9f count) h = tail_ends to_9f count refl
string_ends (tail from_90 count) h = tail_ends from_90 count refl
string_ends (tail to_8f count) h = tail_ends to_8f count refl
string_ends escape h = ends_after escape (plain false) 34 IsTextKind refl (plain_ends false)
string_ends (digits count unit) h = digits_end count unit
string_ends closed h = closed_ends
string_ends minus h = absurd h
string_ends leading_zero h = absurd h
string_ends integer h = absurd h
string_ends point h = absurd h
string_ends decimals h = absurd h
string_ends exponent h = absurd h
string_ends exponent_sign h = absurd h
string_ends exponent_digits h = absurd h
string_ends (letters kind read) h = absurd h

widen : (q : Lexeme) → Endable q IsTextKind → Endable q AnyKind
widen q h = record { bytes = h.bytes; kind = h.kind; fits = tt; ends_it = h.ends_it }

eqb_same : (n : ℕ) → eqb n n ≡ true
eqb_same n = elim (eqb_tells n n) [ inl same ↦ same.0 | inr other ↦ absurd (other.1 refl) ]

letters_end : (kind : Kind) (read : ℕ) (others : List ℕ) → drop read (literal kind) ≡ others → Endable (letters kind read) AnyKind
unfolding next ends
letters_end kind read [] e = ends_now (letters kind read) AnyKind kind tt (rw e refl)
letters_end kind read (letter ∷ others) e =
    let same : eqb letter letter ≡ true = eqb_same letter in
    ends_after (letters kind read) (letters kind (read + 1)) letter AnyKind (rw (e, same) refl) (letters_end kind (read + 1) others (sym (drop-drop 1 read (literal kind)) ∙ ap (drop 1) e))

word_ends : (q : Lexeme) → Endable q AnyKind
unfolding next ends
word_ends minus = ends_after minus leading_zero 48 AnyKind refl (ends_now leading_zero AnyKind kinds.Number tt refl)
word_ends leading_zero = ends_now leading_zero AnyKind kinds.Number tt refl
word_ends integer = ends_now integer AnyKind kinds.Number tt refl
word_ends point = ends_after point decimals 48 AnyKind refl (ends_now decimals AnyKind kinds.Number tt refl)
word_ends decimals = ends_now decimals AnyKind kinds.Number tt refl
word_ends exponent = ends_after exponent exponent_digits 48 AnyKind refl (ends_now exponent_digits AnyKind kinds.Number tt refl)
word_ends exponent_sign = ends_after exponent_sign exponent_digits 48 AnyKind refl (ends_now exponent_digits AnyKind kinds.Number tt refl)
word_ends exponent_digits = ends_now exponent_digits AnyKind kinds.Number tt refl
word_ends (letters kind read) = letters_end kind read (drop read (literal kind)) refl
word_ends (plain high) = widen (plain high) (string_ends (plain high) tt)
word_ends (tail second count) = widen (tail second count) (string_ends (tail second count) tt)
word_ends escape = widen escape (string_ends escape tt)
word_ends (digits count unit) = widen (digits count unit) (string_ends (digits count unit) tt)
word_ends closed = widen closed closed_ends

-- ---- and so can every state but `refused`

abbrev Open : State → ℕ → Type 0
Open state i = (r : List ℕ) × (whole : Forest) × FromState state i r whole

abbrev pub closer : Bracket → ℕ
closer list = 93
closer map = 125

closer_closes : (bracket : Bracket) → closes (Some bracket) rest (closer bracket) ≡ true
unfolding closes
closer_closes list = refl
closer_closes map = refl

rest_open : (frames : List Frame) (values : Forest) (i : ℕ) → Open (reading values frames (part rest)) i
rest_open [] values i = ([], append values empty, (i, [], empty, finish refl, (refl, refl)))
rest_open (frame ∷ outer) values i =
    let h = rest_open outer (closed_in frame values (suc i)) (suc i) in
    (closer frame.bracket ∷ h.0, h.1, shut_back (frame ∷ outer) values rest i (closer frame.bracket) h.0 h.1 (closer_closes frame.bracket) h.2)

value_open : (frames : List Frame) (values : Forest) (here : Part) (name : Option Span) (i : ℕ) → takes_value (level_of frames) here ≡ Some name → Open (reading values frames (part here)) i
unfolding begins ends
value_open frames values here name i takes =
    let h = rest_open frames (append values (one (spot kinds.Number i (suc i) name) empty)) (suc i) in
    (48 ∷ h.0, h.1, word_back frames values here name i 48 h.0 h.1 (Some leading_zero) takes refl (suc i, h.0, kinds.Number, done refl, h.2))

turned_open : (frames : List Frame) (values : Forest) (here there : Part) (i byte : ℕ) → turns (level_of frames) here byte ≡ Some there → Open (reading values frames (part there)) (suc i) → Open (reading values frames (part here)) i
turned_open frames values here there i byte e h = (byte ∷ h.0, h.1, turn_back frames values here i byte h.0 h.1 (Some there) e h.2)

named_open : (frames : List Frame) (values : Forest) (span : Span) (i : ℕ) → level_of frames ≡ Some map → Open (reading values frames (part (named span))) i
unfolding turns takes_value
named_open frames values span i e =
    turned_open frames values (named span) (member span) i 58 (ap (λ l. turns l (named span) 58) e) (value_open frames values (member span) (Some span) (suc i) (ap (λ l. takes_value l (member span)) e))

string_open : (frames : List Frame) (values : Forest) (q : Lexeme) (from i : ℕ) → Stringy q → ((j : ℕ) → Open (reading values frames (part (named (record { start = from; end = j })))) j) → Open (reading values frames (naming q from)) i
string_open frames values q from i h then =
    let finish = string_ends q h in
    let j = i + length finish.bytes in
    let onward = then j in
    (finish.bytes ++ onward.0, onward.1, (j, onward.0, subst (λ k. Spells q i (finish.bytes ++ onward.0) j onward.0 k) finish.fits (finish.ends_it i onward.0), onward.2))

text_part_open : (frames : List Frame) (values : Forest) (here : Part) (i : ℕ) → level_of frames ≡ None → Open (reading values frames (part here)) i
unfolding takes_value
text_part_open frames values rest i e = rest_open frames values i
text_part_open frames values start i e = value_open frames values start None i (ap (λ l. takes_value l start) e)
text_part_open frames values next_part i e = value_open frames values next_part None i (ap (λ l. takes_value l next_part) e)
text_part_open frames values (named span) i e = value_open frames values (named span) None i (ap (λ l. takes_value l (named span)) e)
text_part_open frames values (member span) i e = value_open frames values (member span) None i (ap (λ l. takes_value l (member span)) e)

list_part_open : (frames : List Frame) (values : Forest) (here : Part) (i : ℕ) → level_of frames ≡ Some list → Open (reading values frames (part here)) i
unfolding takes_value
list_part_open frames values rest i e = rest_open frames values i
list_part_open frames values start i e = value_open frames values start None i (ap (λ l. takes_value l start) e)
list_part_open frames values next_part i e = value_open frames values next_part None i (ap (λ l. takes_value l next_part) e)
list_part_open frames values (named span) i e = value_open frames values (named span) None i (ap (λ l. takes_value l (named span)) e)
list_part_open frames values (member span) i e = value_open frames values (member span) None i (ap (λ l. takes_value l (member span)) e)

name_open : (frames : List Frame) (values : Forest) (here : Part) (i : ℕ) → level_of frames ≡ Some map → takes_name (level_of frames) here ≡ true → Open (reading values frames (part here)) i
name_open frames values here i e takes =
    let inner = string_open frames values (plain false) i (suc i) tt (λ j. named_open frames values (record { start = i; end = j }) j e) in
    let both : (takes_name (level_of frames) here && eqb 34 34) ≡ true = rw takes refl in
    (34 ∷ inner.0, inner.1, name_back_at frames values here i inner.0 inner.1 both takes inner.2)
  where
    name_back_at : (frames : List Frame) (values : Forest) (here : Part) (i : ℕ) (r : List ℕ) (whole : Forest) → (takes_name (level_of frames) here && eqb 34 34) ≡ true → takes_name (level_of frames) here ≡ true → FromState (reading values frames (naming (plain false) i)) (suc i) r whole → FromPart frames values here i (34 ∷ r) whole
    name_back_at frames values here i r whole both takes h = name_back frames values here i 34 r whole true both h

map_part_open : (frames : List Frame) (values : Forest) (here : Part) (i : ℕ) → level_of frames ≡ Some map → Open (reading values frames (part here)) i
unfolding takes_value takes_name
map_part_open frames values rest i e = rest_open frames values i
map_part_open frames values start i e = name_open frames values start i e (ap (λ l. takes_name l start) e)
map_part_open frames values next_part i e = name_open frames values next_part i e (ap (λ l. takes_name l next_part) e)
map_part_open frames values (named span) i e = named_open frames values span i e
map_part_open frames values (member span) i e = value_open frames values (member span) (Some span) i (ap (λ l. takes_value l (member span)) e)

part_open_at : (level : Option Bracket) (frames : List Frame) (values : Forest) (here : Part) (i : ℕ) → level_of frames ≡ level → Open (reading values frames (part here)) i
part_open_at None frames values here i e = text_part_open frames values here i e
part_open_at (Some list) frames values here i e = list_part_open frames values here i e
part_open_at (Some map) frames values here i e = map_part_open frames values here i e

part_open : (frames : List Frame) (values : Forest) (here : Part) (i : ℕ) → Open (reading values frames (part here)) i
part_open frames values here i = part_open_at (level_of frames) frames values here i refl

-- every sound state but `refused` has bytes that complete it
state_open : (state : State) (i : ℕ) → Sound state → state ≢ refused → Open state i
state_open refused i h alive = absurd (alive refl)
state_open (reading values frames (part here)) i h alive = part_open frames values here i
state_open (reading values frames (value q from name)) i h alive =
    let finish = word_ends q in
    let j = i + length finish.bytes in
    let onward = rest_open frames (append values (one (spot finish.kind from j name) empty)) j in
    (finish.bytes ++ onward.0, onward.1, (j, onward.0, finish.kind, finish.ends_it i onward.0, onward.2))
state_open (reading values frames (naming q from)) i h alive = string_open frames values q from i h.fact (λ j. part_open frames values (named (record { start = from; end = j })) j)

-- ---- what completes a state with nothing more is one text

pub no_more : (level : Option Bracket) (here : Part) (i j : ℕ) (t : List ℕ) (later : Forest) → Completes level here i [] j t later → (level ≡ None) × (here ≡ rest) × (later ≡ empty) × (j ≡ i) × (t ≡ [])
no_more level here i j t later (finish e) = (e, refl, refl, refl, refl)

abbrev pub ended_word : Forest → ℕ → Option Span → ℕ → Option Kind → Forest
ended_word values from name i None = empty
ended_word values from name i (Some kind) = append values (one (spot kind from i name) empty)

-- the values of a text whose bytes end in this state
abbrev pub ended_values : State → ℕ → Forest
ended_values refused i = empty
ended_values (reading values frames (part here)) i = values
ended_values (reading values frames (value q from name)) i = ended_word values from name i (ends q)
ended_values (reading values frames (naming q from)) i = values

then_ended : (frames : List Frame) (values : Forest) (j : ℕ) (t : List ℕ) (whole : Forest) → level_of frames ≡ None → Then frames values j t whole → whole ≡ values
then_ended [] values j t whole e h = h.1
then_ended (frame ∷ outer) values j t whole e h = some_none _ _ e

pub part_ended : (frames : List Frame) (values : Forest) (here : Part) (i : ℕ) (whole : Forest) → FromPart frames values here i [] whole → whole ≡ values
part_ended frames values here i whole h =
    let nothing = no_more (level_of frames) here i h.0 h.1 h.2 h.3 in
    then_ended frames (append values h.2) h.0 h.1 whole nothing.0 h.4 ∙ ap (append values) nothing.2 ∙ append-empty values

value_ended : (frames : List Frame) (values : Forest) (q : Lexeme) (from : ℕ) (name : Option Span) (i j : ℕ) (t : List ℕ) (kind : Kind) (whole : Forest) → Spells q i [] j t kind → FromPart frames (append values (one (spot kind from j name) empty)) rest j t whole → whole ≡ ended_word values from name i (ends q)
value_ended frames values q from name i j t kind whole (done e) h = part_ended frames (append values (one (spot kind from i name) empty)) rest i whole h ∙ ap (ended_word values from name i) (sym e)

pub not_named : (span : Span) (B : Type 0) → named span ≡ rest → B
not_named span B e = let bad : ⊥ = cc in absurd bad

name_ended : (frames : List Frame) (values : Forest) (q : Lexeme) (from i j : ℕ) (t : List ℕ) (kind : Kind) (whole : Forest) → Spells q i [] j t kind → FromPart frames values (named (record { start = from; end = j })) j t whole → whole ≡ values
name_ended frames values q from i j t kind whole (done e) h = not_named (record { start = from; end = i }) _ (no_more (level_of frames) (named (record { start = from; end = i })) i h.0 h.1 h.2 h.3).1

-- only one
pub ended : (state : State) (i : ℕ) (whole : Forest) → FromState state i [] whole → whole ≡ ended_values state i
ended refused i whole h = absurd h
ended (reading values frames (part here)) i whole h = part_ended frames values here i whole h
ended (reading values frames (value q from name)) i whole h = value_ended frames values q from name i h.0 h.1 h.2 whole h.3 h.4
ended (reading values frames (naming q from)) i whole h = name_ended frames values q from i h.0 h.1 kinds.Text whole h.2 h.3

-- ---- what this says of texts

-- a text goes on from the state after any front of it
pub text_forth : (p r : List ℕ) (values : Forest) → IsText (p ++ r) values → FromState (after p) (length p) r values
text_forth p r values h =
    let e : 0 + length p ≡ length p = omega arith in
    subst (λ k. FromState (after p) k r values) e (after_forth p r first_state 0 values (text_state (p ++ r) values h))

pub text_back : (p r : List ℕ) (values : Forest) → FromState (after p) (length p) r values → IsText (p ++ r) values
text_back p r values h =
    let e : length p ≡ 0 + length p = omega arith in
    state_text (p ++ r) values (after_back p r first_state 0 values (subst (λ k. FromState (after p) k r values) e h))

pub first_sound : Sound first_state
first_sound = record { fact = tt }

-- where a reader isn't refused, the bytes go on to a text
pub front_of_text : (p : List ℕ) → after p ≢ refused → (r : List ℕ) × (values : Forest) × IsText (p ++ r) values
front_of_text p alive =
    let onward = state_open (after p) (length p) (after_sound 0 first_state p first_sound) alive in
    (onward.0, onward.1, text_back p onward.0 onward.1 onward.2)

-- and where it is, they don't
pub no_text : (p r : List ℕ) (values : Forest) → after p ≡ refused → IsText (p ++ r) values → ⊥
no_text p r values e h = subst (λ s. FromState s (length p) r values) e (text_forth p r values h)

-- a text has one tree of values
pub one_tree : (bytes : List ℕ) (a b : Forest) → IsText bytes a → IsText bytes b → a ≡ b
one_tree bytes a b ha hb =
    let all : bytes ++ [] ≡ bytes = append-nil bytes in
    let fa = ended (after bytes) (length bytes) a (text_forth bytes [] a (subst (λ s. IsText s a) (sym all) ha)) in
    let fb = ended (after bytes) (length bytes) b (text_forth bytes [] b (subst (λ s. IsText s b) (sym all) hb)) in
    fa ∙ sym fb
