-- What may still come: the bytes that complete a reader's state, and that one more byte and a step fit together.
use Rattle.std.proofs.Common.{◌≡◌, ℕ, suc, Bool, true, false, ◌&&◌, cond, eqb, List, [], ◌∷◌, Option, Some, None, refl, sym, ap, subst, ◌∙◌}
use Rattle.json_lexemes.specs.declared.kind.Kind.{Kind}
use Rattle.json_lexemes.specs.declared.kind.Kind.TheVariants as kinds
use Rattle.json_text.specs.declared.spot.Span.{Span}
use Rattle.json_text.specs.declared.spot.Spot.{Spot}
use Rattle.json_text.specs.Forest.{Forest, empty, grows, one, append}
use Rattle.json_lexemes.specs.declared.lexeme.Lexeme.{Lexeme}
use Rattle.json_lexemes.specs.declared.lexeme.Lexeme.TheVariants.{Plain as plain}
use Rattle.json_lexemes.specs.Lexeme.{begins, ends, next, Spells, done, more}
use Rattle.json_text.specs.declared.part.Bracket.{Bracket}
use Rattle.json_text.specs.declared.part.Part.{Part}
use Rattle.json_text.specs.declared.part.Part.TheVariants.{Named as named, Rest as rest}
use Rattle.json_text.specs.Grammar.{bracket_kind, is_blank, opens, closes, turns, takes_value, takes_name, Completes, blank, word, nested, member_name, turn, close}
use Rattle.json_text.specs.Progress.{Frame, Doing, part, value, naming, State, refused, reading, level_of, spot, closed_in, close_step, word_step, value_step, other_step, turn_step, part_step, value_end, name_end, value_goes, name_goes, step, after}
use Rattle.json_text.proofs.Tables.{NotNumeric, none_some, false_true, and_yes, is_it, closes_not_blank, closes_level, turn_clear, word_clear, nested_clear, name_clear, blank_ends, close_ends, turn_ends, word_over, text_over}

pub append-empty : (a : Forest) → append a empty ≡ a
append-empty empty = refl
append-empty (grows s c l) = ap (grows s c) (append-empty l)

pub append-assoc : (a b c : Forest) → append (append a b) c ≡ append a (append b c)
append-assoc empty b c = refl
append-assoc (grows s d l) b c = ap (grows s d) (append-assoc l b c)

pub append_one : (a : Forest) (s : Spot) (c l : Forest) → append (append a (one s c)) l ≡ append a (grows s c l)
append_one a s c l = append-assoc a (one s c) l

-- the bytes t at place j complete what is open, once the innermost of it holds `values`; then the text holds `whole`
abbrev pub Then : List Frame → Forest → ℕ → List ℕ → Forest → Type 0
Then [] values j t whole = (t ≡ []) × (whole ≡ values)
Then (frame ∷ outer) values j t whole = (k : ℕ) × (u : List ℕ) × (later : Forest) × Completes (level_of outer) rest j t k u later × Then outer (append (closed_in frame values j) later) k u whole

-- the same from a part of the innermost on
abbrev pub FromPart : List Frame → Forest → Part → ℕ → List ℕ → Forest → Type 0
FromPart frames values here i r whole = (j : ℕ) × (t : List ℕ) × (later : Forest) × Completes (level_of frames) here i r j t later × Then frames (append values later) j t whole

abbrev pub FromDoing : List Frame → Forest → Doing → ℕ → List ℕ → Forest → Type 0
FromDoing frames values (part here) i r whole = FromPart frames values here i r whole
FromDoing frames values (value q from name) i r whole = (j : ℕ) × (t : List ℕ) × (kind : Kind) × Spells q i r j t kind × FromPart frames (append values (one (spot kind from j name) empty)) rest j t whole
FromDoing frames values (naming q from) i r whole = (j : ℕ) × (t : List ℕ) × Spells q i r j t kinds.Text × FromPart frames values (named (record { start = from; end = j })) j t whole

abbrev pub FromState : State → ℕ → List ℕ → Forest → Type 0
FromState refused i r whole = ⊥
FromState (reading values frames doing) i r whole = FromDoing frames values doing i r whole

close_forth : (frames : List Frame) (values : Forest) (here : Part) (i byte : ℕ) (r : List ℕ) (whole : Forest) → closes (level_of frames) here byte ≡ true → Then frames values (suc i) r whole → FromState (close_step i values frames) (suc i) r whole
close_forth [] values here i byte r whole c then = let h = closes_level None here byte c in none_some h.0 _ h.1
close_forth (frame ∷ outer) values here i byte r whole c then = then

pub part_forth : (frames : List Frame) (values : Forest) (here : Part) (i byte j : ℕ) (r t : List ℕ) (later whole : Forest) → Completes (level_of frames) here i (byte ∷ r) j t later → Then frames (append values later) j t whole → FromState (part_step i values frames here byte) (suc i) r whole
unfolding part_step
part_forth frames values here i byte j r t later whole (blank b c) then = rw b (j, t, later, c, then)
part_forth frames values here i byte j r t later whole (turn q c) then =
    let clear = turn_clear (level_of frames) here _ byte q in
    let not_blank : is_blank byte ≡ false = clear.1 in
    let no_close : closes (level_of frames) here byte ≡ false = clear.2 in
    rw (not_blank, no_close, q) (j, t, later, c, then)
part_forth frames values here i byte j r t later whole (close c) then =
    let not_blank : is_blank byte ≡ false = closes_not_blank (level_of frames) here byte c in
    rw (not_blank, c) (close_forth frames values here i byte r whole c (rw append-empty at then))
part_forth frames values here i byte j r t later whole (word {name = name} {kind = kind} {first = first} {j = k} {t = u} {values = others} takes b spells c) then =
    let clear = word_clear (level_of frames) here byte name first takes b in
    let not_blank : is_blank byte ≡ false = clear.0.not_blank in
    let no_close : closes (level_of frames) here byte ≡ false = clear.0.no_close in
    let no_turn : turns (level_of frames) here byte ≡ None = clear.0.no_turn in
    let no_bracket : opens byte ≡ None = clear.1 in
    let s = spot kind i k name in
    rw (not_blank, no_close, no_turn, takes, no_bracket, b) (k, u, kind, spells, (j, t, others, c, subst (λ f. Then frames f j t whole) (sym (append_one values s empty others)) then))
part_forth frames values here i byte j r t later whole (nested {name = name} {bracket = bracket} {j = k} {t = u} {children = children} {values = others} takes o inner c) then =
    let clear = nested_clear (level_of frames) here byte name bracket takes o in
    let not_blank : is_blank byte ≡ false = clear.not_blank in
    let no_close : closes (level_of frames) here byte ≡ false = clear.no_close in
    let no_turn : turns (level_of frames) here byte ≡ None = clear.no_turn in
    let s = spot (bracket_kind bracket) i k name in
    rw (not_blank, no_close, no_turn, takes, o) (k, u, children, inner, (j, t, others, c, subst (λ f. Then frames f j t whole) (sym (append_one values s children others)) then))
part_forth frames values here i byte j r t later whole (member_name {j = k} {t = u} takes e spells c) then =
    let clear = name_clear (level_of frames) here byte takes e in
    let not_blank : is_blank byte ≡ false = clear.0.not_blank in
    let no_close : closes (level_of frames) here byte ≡ false = clear.0.no_close in
    let no_turn : turns (level_of frames) here byte ≡ None = clear.0.no_turn in
    let no_value : takes_value (level_of frames) here ≡ None = clear.1 in
    let quote : eqb byte 34 ≡ true = ap (λ b. eqb b 34) e in
    rw (not_blank, no_close, no_turn, no_value, takes, quote) (k, u, spells, (j, t, later, c, then))

no_value_after : (level : Option Bracket) → takes_value level rest ≡ None
unfolding takes_value
no_value_after None = refl
no_value_after (Some Bracket.List) = refl
no_value_after (Some Bracket.Map) = refl

no_name_after : (level : Option Bracket) → takes_name level rest ≡ false
unfolding takes_name
no_name_after None = refl
no_name_after (Some Bracket.List) = refl
no_name_after (Some Bracket.Map) = refl

-- what follows a value doesn't go on with a number
pub rest_over : (level : Option Bracket) (i byte j : ℕ) (r t : List ℕ) (later : Forest) → Completes level rest i (byte ∷ r) j t later → NotNumeric byte
rest_over level i byte j r t later (blank b c) = blank_ends byte b
rest_over level i byte j r t later (turn q c) = turn_ends level rest _ byte q
rest_over level i byte j r t later (close c) = close_ends level rest byte c
rest_over level i byte j r t later (word takes b spells c) = none_some _ _ (sym (no_value_after level) ∙ takes)
rest_over level i byte j r t later (nested takes o inner c) = none_some _ _ (sym (no_value_after level) ∙ takes)
rest_over level i byte j r t later (member_name takes e spells c) = false_true _ (sym (no_name_after level) ∙ takes)

value_forth : (frames : List Frame) (values : Forest) (q : Lexeme) (from : ℕ) (name : Option Span) (i byte j : ℕ) (r t : List ℕ) (kind : Kind) (whole : Forest) → Spells q i (byte ∷ r) j t kind → FromPart frames (append values (one (spot kind from j name) empty)) rest j t whole → FromState (value_goes i values frames q from name byte (next q byte)) (suc i) r whole
value_forth frames values q from name i byte j r t kind whole (more e spells) h = rw e (j, t, kind, spells, h)
value_forth frames values q from name i byte j r t kind whole (done e) h =
    let over : next q byte ≡ None = word_over q kind byte (rest_over (level_of frames) i byte h.0 r h.1 h.2 h.3) e in
    rw (over, e) (part_forth frames (append values (one (spot kind from i name) empty)) rest i byte h.0 r h.1 h.2 whole h.3 h.4)

name_forth : (frames : List Frame) (values : Forest) (q : Lexeme) (from i byte j : ℕ) (r t : List ℕ) (kind : Kind) (whole : Forest) → kind ≡ kinds.Text → Spells q i (byte ∷ r) j t kind → FromPart frames values (named (record { start = from; end = j })) j t whole → FromState (name_goes i values frames q from byte (next q byte)) (suc i) r whole
name_forth frames values q from i byte j r t kind whole is (more {after = after} e spells) h = rw e (j, t, subst (λ k. Spells after (suc i) r j t k) is spells, h)
name_forth frames values q from i byte j r t kind whole is (done e) h =
    let text : ends q ≡ Some kinds.Text = e ∙ ap Some is in
    let over : next q byte ≡ None = text_over q byte text in
    rw (over, text) (part_forth frames values (named (record { start = from; end = i })) i byte h.0 r h.1 h.2 whole h.3 h.4)

-- what completes a state goes on with a byte: the rest completes the next state
pub step_forth : (state : State) (i byte : ℕ) (r : List ℕ) (whole : Forest) → FromState state i (byte ∷ r) whole → FromState (step i state byte) (suc i) r whole
step_forth refused i byte r whole h = absurd h
step_forth (reading values frames (part here)) i byte r whole h = part_forth frames values here i byte h.0 r h.1 h.2 whole h.3 h.4
step_forth (reading values frames (value q from name)) i byte r whole h = value_forth frames values q from name i byte h.0 r h.1 h.2 whole h.3 h.4
step_forth (reading values frames (naming q from)) i byte r whole h = name_forth frames values q from i byte h.0 r h.1 kinds.Text whole refl h.2 h.3

pub word_back : (frames : List Frame) (values : Forest) (here : Part) (name : Option Span) (i byte : ℕ) (r : List ℕ) (whole : Forest) (o : Option Lexeme) → takes_value (level_of frames) here ≡ Some name → begins byte ≡ o → FromState (word_step i values frames name o) (suc i) r whole → FromPart frames values here i (byte ∷ r) whole
word_back frames values here name i byte r whole None takes e h = absurd h
word_back frames values here name i byte r whole (Some first) takes e h =
    let s = spot h.2 i h.0 name in
    let later = h.4 in
    (later.0, later.1, grows s empty later.2, word takes e h.3 later.3, subst (λ f. Then frames f later.0 later.1 whole) (append_one values s empty later.2) later.4)

value_back : (frames : List Frame) (values : Forest) (here : Part) (name : Option Span) (i byte : ℕ) (r : List ℕ) (whole : Forest) (o : Option Bracket) → takes_value (level_of frames) here ≡ Some name → opens byte ≡ o → FromState (value_step i values frames name byte o) (suc i) r whole → FromPart frames values here i (byte ∷ r) whole
value_back frames values here name i byte r whole None takes e h = word_back frames values here name i byte r whole (begins byte) takes refl h
value_back frames values here name i byte r whole (Some bracket) takes e h =
    let s = spot (bracket_kind bracket) i h.0 name in
    let later = h.4 in
    (later.0, later.1, grows s h.2 later.2, nested takes e h.3 later.3, subst (λ f. Then frames f later.0 later.1 whole) (append_one values s h.2 later.2) later.4)

pub name_back : (frames : List Frame) (values : Forest) (here : Part) (i byte : ℕ) (r : List ℕ) (whole : Forest) (b : Bool) → (takes_name (level_of frames) here && eqb byte 34) ≡ b → FromState (cond b (reading values frames (naming (plain false) i)) refused) (suc i) r whole → FromPart frames values here i (byte ∷ r) whole
name_back frames values here i byte r whole false e h = absurd h
name_back frames values here i byte r whole true e h =
    let both = and_yes (takes_name (level_of frames) here) (eqb byte 34) e in
    let later = h.3 in
    (later.0, later.1, later.2, member_name both.0 (is_it byte 34 both.1) h.2 later.3, later.4)

other_back : (frames : List Frame) (values : Forest) (here : Part) (i byte : ℕ) (r : List ℕ) (whole : Forest) (o : Option (Option Span)) → takes_value (level_of frames) here ≡ o → FromState (other_step i values frames here byte o) (suc i) r whole → FromPart frames values here i (byte ∷ r) whole
other_back frames values here i byte r whole (Some name) e h = value_back frames values here name i byte r whole (opens byte) e refl h
other_back frames values here i byte r whole None e h = name_back frames values here i byte r whole (takes_name (level_of frames) here && eqb byte 34) refl h

pub turn_back : (frames : List Frame) (values : Forest) (here : Part) (i byte : ℕ) (r : List ℕ) (whole : Forest) (o : Option Part) → turns (level_of frames) here byte ≡ o → FromState (turn_step i values frames here byte o) (suc i) r whole → FromPart frames values here i (byte ∷ r) whole
turn_back frames values here i byte r whole (Some there) e h = (h.0, h.1, h.2, turn e h.3, h.4)
turn_back frames values here i byte r whole None e h = other_back frames values here i byte r whole (takes_value (level_of frames) here) refl h

pub shut_back : (frames : List Frame) (values : Forest) (here : Part) (i byte : ℕ) (r : List ℕ) (whole : Forest) → closes (level_of frames) here byte ≡ true → FromState (close_step i values frames) (suc i) r whole → FromPart frames values here i (byte ∷ r) whole
shut_back [] values here i byte r whole c h = absurd h
shut_back (frame ∷ outer) values here i byte r whole c h = (suc i, r, empty, close c, subst (λ f. Then (frame ∷ outer) f (suc i) r whole) (sym (append-empty values)) h)

pub close_back : (frames : List Frame) (values : Forest) (here : Part) (i byte : ℕ) (r : List ℕ) (whole : Forest) (b : Bool) → closes (level_of frames) here byte ≡ b → FromState (cond b (close_step i values frames) (turn_step i values frames here byte (turns (level_of frames) here byte))) (suc i) r whole → FromPart frames values here i (byte ∷ r) whole
close_back frames values here i byte r whole true c h = shut_back frames values here i byte r whole c h
close_back frames values here i byte r whole false c h = turn_back frames values here i byte r whole (turns (level_of frames) here byte) refl h

blank_back : (frames : List Frame) (values : Forest) (here : Part) (i byte : ℕ) (r : List ℕ) (whole : Forest) (b : Bool) → is_blank byte ≡ b → FromState (cond b (reading values frames (part here)) (cond (closes (level_of frames) here byte) (close_step i values frames) (turn_step i values frames here byte (turns (level_of frames) here byte)))) (suc i) r whole → FromPart frames values here i (byte ∷ r) whole
blank_back frames values here i byte r whole true e h = (h.0, h.1, h.2, blank e h.3, h.4)
blank_back frames values here i byte r whole false e h = close_back frames values here i byte r whole (closes (level_of frames) here byte) refl h

pub part_back : (frames : List Frame) (values : Forest) (here : Part) (i byte : ℕ) (r : List ℕ) (whole : Forest) → FromState (part_step i values frames here byte) (suc i) r whole → FromPart frames values here i (byte ∷ r) whole
unfolding part_step
part_back frames values here i byte r whole h = blank_back frames values here i byte r whole (is_blank byte) refl h

value_end_back : (frames : List Frame) (values : Forest) (q : Lexeme) (from : ℕ) (name : Option Span) (i byte : ℕ) (r : List ℕ) (whole : Forest) (o : Option Kind) → ends q ≡ o → FromState (value_end i values frames from name byte o) (suc i) r whole → FromDoing frames values (value q from name) i (byte ∷ r) whole
value_end_back frames values q from name i byte r whole None e h = absurd h
value_end_back frames values q from name i byte r whole (Some kind) e h = (i, byte ∷ r, kind, done e, part_back frames (append values (one (spot kind from i name) empty)) rest i byte r whole h)

value_goes_back : (frames : List Frame) (values : Forest) (q : Lexeme) (from : ℕ) (name : Option Span) (i byte : ℕ) (r : List ℕ) (whole : Forest) (o : Option Lexeme) → next q byte ≡ o → FromState (value_goes i values frames q from name byte o) (suc i) r whole → FromDoing frames values (value q from name) i (byte ∷ r) whole
value_goes_back frames values q from name i byte r whole (Some after) e h = (h.0, h.1, h.2, more e h.3, h.4)
value_goes_back frames values q from name i byte r whole None e h = value_end_back frames values q from name i byte r whole (ends q) refl h

name_end_back : (frames : List Frame) (values : Forest) (q : Lexeme) (from i byte : ℕ) (r : List ℕ) (whole : Forest) (o : Option Kind) → ends q ≡ o → FromState (name_end i values frames from byte o) (suc i) r whole → FromDoing frames values (naming q from) i (byte ∷ r) whole
name_end_back frames values q from i byte r whole None e h = absurd h
name_end_back frames values q from i byte r whole (Some kinds.Text) e h = (i, byte ∷ r, done e, part_back frames values (named (record { start = from; end = i })) i byte r whole h)
name_end_back frames values q from i byte r whole (Some kinds.Null) e h = absurd h
name_end_back frames values q from i byte r whole (Some (kinds.Flag on)) e h = absurd h
name_end_back frames values q from i byte r whole (Some kinds.Number) e h = absurd h
name_end_back frames values q from i byte r whole (Some kinds.List) e h = absurd h
name_end_back frames values q from i byte r whole (Some kinds.Map) e h = absurd h

name_goes_back : (frames : List Frame) (values : Forest) (q : Lexeme) (from i byte : ℕ) (r : List ℕ) (whole : Forest) (o : Option Lexeme) → next q byte ≡ o → FromState (name_goes i values frames q from byte o) (suc i) r whole → FromDoing frames values (naming q from) i (byte ∷ r) whole
name_goes_back frames values q from i byte r whole (Some after) e h = (h.0, h.1, more e h.2, h.3)
name_goes_back frames values q from i byte r whole None e h = name_end_back frames values q from i byte r whole (ends q) refl h

-- and the other way round
pub step_back : (state : State) (i byte : ℕ) (r : List ℕ) (whole : Forest) → FromState (step i state byte) (suc i) r whole → FromState state i (byte ∷ r) whole
step_back refused i byte r whole h = absurd h
step_back (reading values frames (part here)) i byte r whole h = part_back frames values here i byte r whole h
step_back (reading values frames (value q from name)) i byte r whole h = value_goes_back frames values q from name i byte r whole (next q byte) refl h
step_back (reading values frames (naming q from)) i byte r whole h = name_goes_back frames values q from i byte r whole (next q byte) refl h
