-- How deep the values of a text are nested, in which nothing is too deep.
use Rattle.std.proofs.Common.{◌≡◌, ℕ, zero, suc, ◌+◌, ◌≤◌, Bool, true, false, ◌&&◌, cond, eqb, max, List, [], ◌∷◌, ◌++◌, append-nil, length, take, drop, get_or, Option, Some, None, refl, sym, ap, subst, ◌∙◌, arith}
use Rattle.std.specs.Prelude.{MatchOption}
use Rattle.std.proofs.lemmas.List.{take_all, take-append-drop}
use Rattle.json_lexemes.specs.declared.kind.Kind.{Kind}
use Rattle.json_lexemes.specs.declared.kind.Kind.TheVariants as kinds
use Rattle.json_text.specs.declared.spot.Span.{Span}
use Rattle.json_text.specs.declared.spot.Spot.{Spot}
use Rattle.json_text.specs.Forest.{Forest, empty, grows, one, append}
use Rattle.json_lexemes.specs.declared.lexeme.Lexeme.{Lexeme}
use Rattle.json_lexemes.specs.declared.lexeme.Lexeme.TheVariants.{Minus as minus, LeadingZero as leading_zero, Integer as integer, Letters as letters, Plain as plain}
use Rattle.json_lexemes.specs.Lexeme.{begins, ends, next, is_digit, Spells, done}
use Rattle.json_text.specs.declared.part.Bracket.{Bracket}
use Rattle.json_text.specs.declared.part.Bracket.TheVariants.{List as list, Map as map}
use Rattle.json_text.specs.declared.part.Part.{Part}
use Rattle.json_text.specs.declared.part.Part.TheVariants.{Named as named, Rest as rest}
use Rattle.json_text.specs.Grammar.{bracket_kind, is_blank, opens, closes, turns, takes_value, takes_name, Completes, finish, IsText}
use Rattle.json_text.specs.Progress.{Frame, Doing, part, value, naming, State, refused, reading, level_of, spot, closed_in, close_step, word_step, value_step, other_step, turn_step, part_step, value_end, name_end, value_goes, name_goes, step, after_from, after, first_state}
use Rattle.json_text.specs.Faults.{open_count, IsLoneAt, IsBad, dead, short, lone, IsClean}
use Rattle.json_text.specs.Shape.{is_holder, levels, nesting}
use Rattle.json_text.proofs.Residue.{FromPart, FromState, Then, append-empty}
use Rattle.json_text.proofs.Fronts.{text_state, after_forth}
use Rattle.json_text.proofs.Standing.{after_more}
use Rattle.json_lexemes.proofs.Accepted.{kind_of, KindIf, next_kind, end_kind}
use Rattle.json_text.proofs.Tables.{some_none}

-- ---- nesting

nesting_empty : nesting empty ≡ 0
unfolding nesting
nesting_empty = refl

nesting_one : (s : Spot) (c : Forest) → nesting (one s c) ≡ levels (is_holder s.kind) (nesting c)
unfolding nesting
nesting_one s c = omega arith

nesting_append : (a b : Forest) → nesting (append a b) ≡ max (nesting a) (nesting b)
unfolding nesting
nesting_append empty b = omega arith
nesting_append (grows s c l) b = omega (arith, nesting_append l b)

-- ---- a reader in which nothing is too deep

abbrev AllLow : List Frame → Type 0
AllLow [] = Unit {0}
AllLow (frame ∷ outer) = (length outer + nesting frame.outer ≤ 64) × AllLow outer

abbrev LowDoing : Doing → Type 0
LowDoing (value q from name) = is_holder (kind_of q) ≡ false
LowDoing (part here) = Unit {0}
LowDoing (naming q from) = Unit {0}

abbrev Low : State → Type 0
Low refused = Unit {0}
Low (reading values frames doing) = (length frames + nesting values ≤ 64) × AllLow frames × LowDoing doing

-- unless more than 64 are open now, where 64 were before
record Fine (before : ℕ) (state : State) : Type 0 where
  fact : (before ≡ 64 → open_count state ≡ 65 → ⊥) → Low state

fine : (n : ℕ) (state : State) → Low state → Fine n state
fine n state h = record { fact = λ flat. h }

cond_fine : (n : ℕ) (c : Bool) (x y : State) → Fine n x → Fine n y → Fine n (cond c x y)
cond_fine n true x y hx hy = hx
cond_fine n false x y hx hy = hy

bracket_holds : (bracket : Bracket) → is_holder (bracket_kind bracket) ≡ true
bracket_holds list = refl
bracket_holds map = refl

closed_nesting : (frame : Frame) (values : Forest) (end : ℕ) → nesting (closed_in frame values end) ≡ max (nesting frame.outer) (nesting values + 1)
closed_nesting frame values end =
    nesting_append frame.outer (one (spot (bracket_kind frame.bracket) frame.place end frame.name) values)
    ∙ ap (λ n. max (nesting frame.outer) n) (nesting_one (spot (bracket_kind frame.bracket) frame.place end frame.name) values ∙ ap (λ b. levels b (nesting values)) (bracket_holds frame.bracket))

close_fine : (i n : ℕ) (values : Forest) (frames : List Frame) → length frames + nesting values ≤ 64 → AllLow frames → Fine n (close_step i values frames)
close_fine i n values [] own low = fine n refused tt
close_fine i n values (frame ∷ outer) own low = fine n _ (omega (arith, own, low.0, closed_nesting frame values (suc i)), low.1, tt)

record LowIf (o : Option Lexeme) : Type 0 where
  fact : MatchOption o (Unit {0}) (λ q. is_holder (kind_of q) ≡ false)

cond_is : (c : Bool) (x y : Option Lexeme) → LowIf x → LowIf y → LowIf (cond c x y)
cond_is true x y hx hy = hx
cond_is false x y hx hy = hy

begins_low : (byte : ℕ) → LowIf (begins byte)
unfolding begins
begins_low byte =
    cond_is (eqb byte 34) (Some (plain false)) _ (record { fact = refl }) (cond_is (eqb byte 45) (Some minus) _ (record { fact = refl }) (cond_is (eqb byte 48) (Some leading_zero) _ (record { fact = refl })
    (cond_is (is_digit byte) (Some integer) _ (record { fact = refl }) (cond_is (eqb byte 116) (Some (letters (kinds.Flag true) 1)) _ (record { fact = refl }) (cond_is (eqb byte 102) (Some (letters (kinds.Flag false) 1)) _ (record { fact = refl })
    (cond_is (eqb byte 110) (Some (letters kinds.Null 1)) None (record { fact = refl }) (record { fact = tt })))))))

word_fine : (i n : ℕ) (values : Forest) (frames : List Frame) (name : Option Span) (o : Option Lexeme) → LowIf o → length frames + nesting values ≤ 64 → AllLow frames → Fine n (word_step i values frames name o)
word_fine i n values frames name None h own low = fine n refused tt
word_fine i n values frames name (Some first) h own low = fine n _ (own, low, h.fact)

value_fine : (i n : ℕ) (values : Forest) (frames : List Frame) (name : Option Span) (byte : ℕ) (o : Option Bracket) → n ≡ length frames → length frames + nesting values ≤ 64 → AllLow frames → Fine n (value_step i values frames name byte o)
value_fine i n values frames name byte None e own low = word_fine i n values frames name (begins byte) (begins_low byte) own low
value_fine i n values frames name byte (Some bracket) e own low = record { fact = λ flat. (inside flat, (own, low), tt) }
  where
    inside : (n ≡ 64 → suc (length frames) ≡ 65 → ⊥) → suc (length frames) + nesting empty ≤ 64
    inside flat = full (eqb (length frames) 64) refl
      where
        full : (b : Bool) → eqb (length frames) 64 ≡ b → suc (length frames) + nesting empty ≤ 64
        full true is = let there : length frames ≡ 64 = grind (arith, is) in absurd (flat (e ∙ there) (omega (arith, there)))
        full false is = let there : length frames ≡ 64 → ⊥ = λ same. (let bad : ⊥ = grind (arith, is, same) in bad) in omega (arith, own, there, nesting_empty)

other_fine : (i n : ℕ) (values : Forest) (frames : List Frame) (here : Part) (byte : ℕ) (o : Option (Option Span)) → n ≡ length frames → length frames + nesting values ≤ 64 → AllLow frames → Fine n (other_step i values frames here byte o)
other_fine i n values frames here byte (Some name) e own low = value_fine i n values frames name byte (opens byte) e own low
other_fine i n values frames here byte None e own low =
    cond_fine n (takes_name (level_of frames) here && eqb byte 34) (reading values frames (naming (plain false) i)) refused (fine n _ (own, low, tt)) (fine n refused tt)

turn_fine : (i n : ℕ) (values : Forest) (frames : List Frame) (here : Part) (byte : ℕ) (o : Option Part) → n ≡ length frames → length frames + nesting values ≤ 64 → AllLow frames → Fine n (turn_step i values frames here byte o)
turn_fine i n values frames here byte (Some there) e own low = fine n _ (own, low, tt)
turn_fine i n values frames here byte None e own low = other_fine i n values frames here byte (takes_value (level_of frames) here) e own low

part_fine : (i n : ℕ) (values : Forest) (frames : List Frame) (here : Part) (byte : ℕ) → n ≡ length frames → length frames + nesting values ≤ 64 → AllLow frames → Fine n (part_step i values frames here byte)
unfolding part_step
part_fine i n values frames here byte e own low =
    cond_fine n (is_blank byte) (reading values frames (part here)) _ (fine n _ (own, low, tt))
    (cond_fine n (closes (level_of frames) here byte) (close_step i values frames) (turn_step i values frames here byte (turns (level_of frames) here byte)) (close_fine i n values frames own low) (turn_fine i n values frames here byte (turns (level_of frames) here byte) e own low))

worded : (i : ℕ) (values : Forest) (from : ℕ) (name : Option Span) (kind : Kind) → is_holder kind ≡ false → nesting (append values (one (spot kind from i name) empty)) ≡ nesting values
worded i values from name kind h =
    let word = nesting_one (spot kind from i name) empty ∙ ap (λ b. levels b (nesting empty)) h in
    omega (arith, nesting_append values (one (spot kind from i name) empty), word)

value_end_fine : (i n : ℕ) (values : Forest) (frames : List Frame) (q : Lexeme) (from : ℕ) (name : Option Span) (byte : ℕ) (o : Option Kind) → ends q ≡ o → is_holder (kind_of q) ≡ false → n ≡ length frames → length frames + nesting values ≤ 64 → AllLow frames → Fine n (value_end i values frames from name byte o)
value_end_fine i n values frames q from name byte None is h e own low = fine n refused tt
value_end_fine i n values frames q from name byte (Some kind) is h e own low =
    let same = worded i values from name kind (ap is_holder (end_kind q kind is) ∙ h) in
    part_fine i n (append values (one (spot kind from i name) empty)) frames rest byte e (omega (arith, own, same)) low

value_goes_fine : (i n : ℕ) (values : Forest) (frames : List Frame) (q : Lexeme) (from : ℕ) (name : Option Span) (byte : ℕ) (o : Option Lexeme) → KindIf (kind_of q) o → is_holder (kind_of q) ≡ false → n ≡ length frames → length frames + nesting values ≤ 64 → AllLow frames → Fine n (value_goes i values frames q from name byte o)
value_goes_fine i n values frames q from name byte (Some there) k h e own low = fine n _ (own, low, ap is_holder k.fact ∙ h)
value_goes_fine i n values frames q from name byte None k h e own low = value_end_fine i n values frames q from name byte (ends q) refl h e own low

name_end_fine : (i n : ℕ) (values : Forest) (frames : List Frame) (from byte : ℕ) (o : Option Kind) → n ≡ length frames → length frames + nesting values ≤ 64 → AllLow frames → Fine n (name_end i values frames from byte o)
name_end_fine i n values frames from byte (Some kinds.Text) e own low = part_fine i n values frames (named (record { start = from; end = i })) byte e own low
name_end_fine i n values frames from byte None e own low = fine n refused tt
name_end_fine i n values frames from byte (Some kinds.Null) e own low = fine n refused tt
name_end_fine i n values frames from byte (Some (kinds.Flag on)) e own low = fine n refused tt
name_end_fine i n values frames from byte (Some kinds.Number) e own low = fine n refused tt
name_end_fine i n values frames from byte (Some kinds.List) e own low = fine n refused tt
name_end_fine i n values frames from byte (Some kinds.Map) e own low = fine n refused tt

name_goes_fine : (i n : ℕ) (values : Forest) (frames : List Frame) (q : Lexeme) (from byte : ℕ) (o : Option Lexeme) → n ≡ length frames → length frames + nesting values ≤ 64 → AllLow frames → Fine n (name_goes i values frames q from byte o)
name_goes_fine i n values frames q from byte (Some there) e own low = fine n _ (own, low, tt)
name_goes_fine i n values frames q from byte None e own low = name_end_fine i n values frames from byte (ends q) e own low

step_fine : (i byte : ℕ) (state : State) → Low state → Fine (open_count state) (step i state byte)
step_fine i byte refused h = fine 0 refused tt
step_fine i byte (reading values frames (part here)) h = part_fine i (length frames) values frames here byte refl h.0 h.1
step_fine i byte (reading values frames (value q from name)) h = value_goes_fine i (length frames) values frames q from name byte (next q byte) (next_kind q byte) h.2 refl h.0 h.1
step_fine i byte (reading values frames (naming q from)) h = name_goes_fine i (length frames) values frames q from byte (next q byte) refl h.0 h.1

low_first : Low (after [])
unfolding after_from
low_first = (omega (arith, nesting_empty), tt, tt)

low_after : (bytes : List ℕ) → IsClean bytes (length bytes + 1) → (at : ℕ) → at ≤ length bytes → Low (after (take at bytes))
low_after bytes clean zero le = low_first
low_after bytes clean (suc at) le =
    let before = low_after bytes clean at (omega (arith, le)) in
    let goes = after_more bytes at (omega (arith, le)) in
    subst Low (sym goes) ((step_fine at (get_or bytes at 0) (after (take at bytes)) before).fact
    (λ full over. (clean at (omega (arith, le))).1 (full, ap open_count goes ∙ over)))

-- ---- a whole text

nothing_left : (values later whole : Forest) (frames : List Frame) (here : Part) (i j : ℕ) (t : List ℕ) → length frames + nesting values ≤ 64 → Completes (level_of frames) here i [] j t later → Then frames (append values later) j t whole → nesting whole ≤ 64
nothing_left values later whole [] here i j t own (finish e) then = omega (arith, own, ap nesting (then.1 ∙ append-empty values))
nothing_left values later whole (frame ∷ outer) here i j t own (finish e) then = some_none frame.bracket _ e

ended : (values whole : Forest) (frames : List Frame) (here : Part) (i : ℕ) → length frames + nesting values ≤ 64 → FromPart frames values here i [] whole → nesting whole ≤ 64
ended values whole frames here i own h = nothing_left values h.2 whole frames here i h.0 h.1 own h.3 h.4

value_ended : (values whole : Forest) (frames : List Frame) (q : Lexeme) (from : ℕ) (name : Option Span) (i j : ℕ) (t : List ℕ) (kind : Kind) → length frames + nesting values ≤ 64 → is_holder (kind_of q) ≡ false → Spells q i [] j t kind → FromPart frames (append values (one (spot kind from j name) empty)) rest j t whole → nesting whole ≤ 64
value_ended values whole frames q from name i j t kind own low (done e) h =
    let same = worded i values from name kind (ap is_holder (end_kind q kind e) ∙ low) in
    ended (append values (one (spot kind from i name) empty)) whole frames rest i (omega (arith, own, same)) h

name_ended : (values whole : Forest) (frames : List Frame) (q : Lexeme) (from i j : ℕ) (t : List ℕ) (kind : Kind) → length frames + nesting values ≤ 64 → Spells q i [] j t kind → FromPart frames values (named (record { start = from; end = j })) j t whole → nesting whole ≤ 64
name_ended values whole frames q from i j t kind own (done e) h = ended values whole frames (named (record { start = from; end = i })) i own h

last : (state : State) (i : ℕ) (whole : Forest) → Low state → FromState state i [] whole → nesting whole ≤ 64
last refused i whole low h = absurd h
last (reading values frames (part here)) i whole low h = ended values whole frames here i low.0 h
last (reading values frames (value q from name)) i whole low h = value_ended values whole frames q from name i h.0 h.1 h.2 low.0 low.2 h.3 h.4
last (reading values frames (naming q from)) i whole low h = name_ended values whole frames q from i h.0 h.1 kinds.Text low.0 h.2 h.3

-- the values of a text in which nothing is wrong are nested at most 64 deep
pub low_text : (bytes : List ℕ) (values : Forest) → IsText bytes values → IsClean bytes (length bytes + 1) → nesting values ≤ 64
low_text bytes values text clean =
    let whole : FromState first_state 0 (bytes ++ []) values = subst (λ b. FromState first_state 0 b values) (sym (append-nil bytes)) (text_state bytes values text) in
    let state = after_forth bytes [] first_state 0 values whole in
    let low = subst (λ b. Low (after b)) (take_all (length bytes) bytes (omega arith)) (low_after bytes clean (length bytes) (omega arith)) in
    last (after bytes) (0 + length bytes) values low state

-- ---- a text in which no surrogate stands alone

-- what is open stands round all that is to come
then_deep : (frames : List Frame) (values : Forest) (j : ℕ) (t : List ℕ) (whole : Forest) → Then frames values j t whole → length frames + nesting values ≤ nesting whole
then_deep [] values j t whole h = omega (arith, ap nesting h.1)
then_deep (frame ∷ outer) values j t whole h =
    omega (arith, then_deep outer (append (closed_in frame values j) h.2) h.0 h.1 whole h.4, nesting_append (closed_in frame values j) h.2, closed_nesting frame values j)

open_deep : (state : State) (i : ℕ) (r : List ℕ) (whole : Forest) → FromState state i r whole → open_count state ≤ nesting whole
open_deep refused i r whole h = absurd h
open_deep (reading values frames (part here)) i r whole h = omega (arith, then_deep frames (append values h.2) h.0 h.1 whole h.4)
open_deep (reading values frames (value q from name)) i r whole h = omega (arith, then_deep frames (append (append values (one (spot h.2 from h.0 name) empty)) h.4.2) h.4.0 h.4.1 whole h.4.4)
open_deep (reading values frames (naming q from)) i r whole h = omega (arith, then_deep frames (append values h.3.2) h.3.0 h.3.1 whole h.3.4)

text_deep : (bytes : List ℕ) (values : Forest) (k : ℕ) → IsText bytes values → open_count (after (take k bytes)) ≤ nesting values
text_deep bytes values k text =
    let whole : FromState first_state 0 (take k bytes ++ drop k bytes) values = subst (λ b. FromState first_state 0 b values) (sym (take-append-drop k bytes)) (text_state bytes values text) in
    open_deep (after (take k bytes)) (0 + length (take k bytes)) (drop k bytes) values (after_forth (take k bytes) (drop k bytes) first_state 0 values whole)

pub nothing_wrong : (bytes : List ℕ) (values : Forest) → IsText bytes values → nesting values ≤ 64 → ((at : ℕ) → at ≤ length bytes → ¬ IsLoneAt bytes at) → IsClean bytes (length bytes + 1)
nothing_wrong bytes values text low paired k lt = (good, λ d. omega (arith, d.1, text_deep bytes values (suc k) text, low))
  where
    good : ¬ IsBad bytes k
    good (dead inside none) = none (drop (suc k) bytes, values, subst (λ b. IsText b values) (sym (take-append-drop (suc k) bytes)) text)
    good (short e none) = none values text
    good (lone l) = paired k (omega (arith, lt)) l
