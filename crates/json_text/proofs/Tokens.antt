-- What each token does to a reader's lists.
use Rattle.std.proofs.Common.{◌≡◌, ℕ, suc, ◌+◌, ◌-◌, ◌<◌, ◌≤◌, true, false, ◌&&◌, cond, eqb, List, [], ◌∷◌, ◌++◌, length, set, get_or, Option, Some, None, refl, sym, ap, subst, ◌∙◌, arith, length-append}
use Rattle.json_lexemes.specs.declared.kind.Kind.{Kind}
use Rattle.json_lexemes.specs.declared.kind.Kind.TheVariants as kinds
use Rattle.json_text.specs.declared.spot.Span.{Span}
use Rattle.json_text.specs.declared.spot.Entry.{Entry}
use Rattle.json_text.specs.declared.part.Bracket.{Bracket}
use Rattle.json_text.specs.declared.part.Part.{Part}
use Rattle.json_text.specs.declared.part.Part.TheVariants.{Start as start, Named as named, Rest as rest}
use Rattle.json_text.specs.declared.part.Opening.{Opening}
use Rattle.json_lexemes.specs.declared.lexeme.Lexeme.{Lexeme}
use Rattle.json_lexemes.specs.declared.lexeme.Lexeme.TheVariants.{Minus as minus, LeadingZero as leading_zero, Integer as integer, Point as point, Decimals as decimals, Exponent as exponent, ExponentSign as exponent_sign, ExponentDigits as exponent_digits, Letters as letters, Plain as plain, Tail as tail, Escape as escape, Digits as digits, Closed as closed}
use Rattle.json_text.specs.Forest.{Forest, empty, one, append, count}
use Rattle.json_lexemes.specs.Lexeme.{next, begins, ends}
use Rattle.json_text.specs.Grammar.{bracket_kind, is_blank, opens, closes, turns, takes_value, takes_name, IsText}
use Rattle.json_text.specs.Progress.{Frame, part, value, naming, refused, reading, level_of, spot, closed_in, close_step, word_step, value_step, part_step, after_from}
use Rattle.json_text.specs.Faults.{IsClean, IsFirstBad, IsFirstDeep, max_depth}
use Rattle.json_lexemes.specs.Scan.{EndsAt, BreaksAt, Passes, stay, go}
use Rattle.json_text.specs.Reading.{entries, opened, open_entries, openings, innermost, Stands, Reads}
use Rattle.json_text.specs.Between.{Between}
use Rattle.json_text.proofs.Tables.{none_some, closes_level}
use Rattle.json_text.proofs.Fronts.{Stringy, StringyIf, next_stringy}
use Rattle.json_text.proofs.Standing.{stands_next, bad_next, deep_next, clean_next, state_next}
use Rattle.json_text.proofs.Words.{within_value, within_name, broken_word, word_stands, name_stands, text_ends, text_short, text_clean}
use Rattle.json_text.proofs.Kept.{length-entries, length-openings, innermost-openings, last_is, set_seam, get_seam, one_more, closed_entries, opened_are, opening_is, inner_entries, no_openings, root_entries, no_entries, no_openings_yet}

plus_one : (n : ℕ) → suc n ≡ n + 1
plus_one n = omega arith

flat : (n : ℕ) → n ≡ 64 → n ≡ 65 → ⊥
flat n a b = omega (arith, a, b)

stringy_next : (word : Lexeme) (o : Option Lexeme) → o ≡ Some word → StringyIf o → Stringy word
stringy_next word o e h = (subst StringyIf e h).fact

passes_stringy : (bytes : List ℕ) (i : ℕ) (first : Lexeme) (j : ℕ) (word : Lexeme) → Passes bytes i first j word → Stringy first → Stringy word
passes_stringy bytes i first j word stay h = h
passes_stringy bytes i first j word (go {j = k} {word = before} p lt paired n) h = stringy_next word (next before (get_or bytes k 0)) n (next_stringy before (get_or bytes k 0) (passes_stringy bytes i first k before p h))

stringy_text : (word : Lexeme) (kind : Kind) → Stringy word → ends word ≡ Some kind → kind ≡ kinds.Text
unfolding ends
stringy_text (plain high) kind h e = none_some kind _ e
stringy_text (tail second count) kind h e = none_some kind _ e
stringy_text escape kind h e = none_some kind _ e
stringy_text (digits count unit) kind h e = none_some kind _ e
stringy_text closed kind h e = let is : kind ≡ kinds.Text = cc in is
stringy_text minus kind h e = absurd h
stringy_text leading_zero kind h e = absurd h
stringy_text integer kind h e = absurd h
stringy_text point kind h e = absurd h
stringy_text decimals kind h e = absurd h
stringy_text exponent kind h e = absurd h
stringy_text exponent_sign kind h e = absurd h
stringy_text exponent_digits kind h e = absurd h
stringy_text (letters kind read) k h e = absurd h

-- what begins as a string means a text
string_kind : (bytes : List ℕ) (i end : ℕ) (kind : Kind) → EndsAt bytes i (plain false) end kind → kind ≡ kinds.Text
string_kind bytes i end kind h = stringy_text h.word kind (passes_stringy bytes i (plain false) end h.word h.passes tt) h.ends_there

-- ---- what a step comes to, by the tests that a reader makes

module _ (i : ℕ) (values : Forest) (frames : List Frame) (here : Part) (byte : ℕ) where
  blank_step : is_blank byte ≡ true → part_step i values frames here byte ≡ reading values frames (part here)
  unfolding part_step
  blank_step b = rw b refl

  close_step_is : is_blank byte ≡ false → closes (level_of frames) here byte ≡ true → part_step i values frames here byte ≡ close_step i values frames
  unfolding part_step
  close_step_is b c = rw (b, c) refl

  turn_step_is : (there : Part) → is_blank byte ≡ false → closes (level_of frames) here byte ≡ false → turns (level_of frames) here byte ≡ Some there → part_step i values frames here byte ≡ reading values frames (part there)
  unfolding part_step
  turn_step_is there b c t = rw (b, c, t) refl

  value_step_is : (name : Option Span) → is_blank byte ≡ false → closes (level_of frames) here byte ≡ false → turns (level_of frames) here byte ≡ None → takes_value (level_of frames) here ≡ Some name → part_step i values frames here byte ≡ value_step i values frames name byte (opens byte)
  unfolding part_step
  value_step_is name b c t v = rw (b, c, t, v) refl

  other_step_is : is_blank byte ≡ false → closes (level_of frames) here byte ≡ false → turns (level_of frames) here byte ≡ None → takes_value (level_of frames) here ≡ None → part_step i values frames here byte ≡ cond (takes_name (level_of frames) here && eqb byte 34) (reading values frames (naming (plain false) i)) refused
  unfolding part_step
  other_step_is b c t v = rw (b, c, t, v) refl

-- ---- the tokens

module _ (bytes : List ℕ) (at : ℕ) (here : Part) (nodes : List Entry) (open_ones : List Opening) (r : Reads bytes at here nodes open_ones) where
  level_here : innermost open_ones ≡ level_of r.frames
  level_here = ap innermost r.open_are ∙ innermost-openings r.frames

  depth_here : length open_ones ≡ length r.frames
  depth_here = ap length r.open_are ∙ length-openings r.frames

  pub read_blank : at < length bytes → is_blank (get_or bytes at 0) ≡ true → Reads bytes (at + 1) here nodes open_ones
  read_blank lt b = subst (λ k. Reads bytes k here nodes open_ones) (plus_one at) (record {
    values = r.values;
    frames = r.frames;
    stands = stands_next bytes at here r.values r.frames r.stands r.values r.frames here lt (blank_step at r.values r.frames here (get_or bytes at 0) b) (flat (length r.frames));
    nodes_are = r.nodes_are;
    open_are = r.open_are;
    shallow = r.shallow;
  })

module _ (bytes : List ℕ) (at : ℕ) (here : Part) (nodes : List Entry) (open_ones : List Opening) (level : Option Bracket) (r : Reads bytes at here nodes open_ones) (b : Between bytes at level open_ones) where
  level_frames : level ≡ level_of r.frames
  level_frames = b.level_is ∙ level_here bytes at here nodes open_ones r

  pub read_turn : (there : Part) → closes level here (get_or bytes at 0) ≡ false → turns level here (get_or bytes at 0) ≡ Some there → Reads bytes (at + 1) there nodes open_ones
  read_turn there c t =
      let closed = ap (λ l. closes l here (get_or bytes at 0)) (sym level_frames) ∙ c in
      let turned = ap (λ l. turns l here (get_or bytes at 0)) (sym level_frames) ∙ t in
      subst (λ k. Reads bytes k there nodes open_ones) (plus_one at) (record {
        values = r.values;
        frames = r.frames;
        stands = stands_next bytes at here r.values r.frames r.stands r.values r.frames there b.inside (turn_step_is at r.values r.frames here (get_or bytes at 0) there b.not_blank closed turned) (flat (length r.frames));
        nodes_are = r.nodes_are;
        open_are = r.open_are;
        shallow = r.shallow;
      })

  -- the tests that come before a value or a name
  value_next : (name : Option Span) → closes level here (get_or bytes at 0) ≡ false → turns level here (get_or bytes at 0) ≡ None → takes_value level here ≡ Some name → part_step at r.values r.frames here (get_or bytes at 0) ≡ value_step at r.values r.frames name (get_or bytes at 0) (opens (get_or bytes at 0))
  value_next name c t v = value_step_is at r.values r.frames here (get_or bytes at 0) name b.not_blank
      (ap (λ l. closes l here (get_or bytes at 0)) (sym level_frames) ∙ c) (ap (λ l. turns l here (get_or bytes at 0)) (sym level_frames) ∙ t) (ap (λ l. takes_value l here) (sym level_frames) ∙ v)

  opened_next : (name : Option Span) (bracket : Bracket) → closes level here (get_or bytes at 0) ≡ false → turns level here (get_or bytes at 0) ≡ None → takes_value level here ≡ Some name → opens (get_or bytes at 0) ≡ Some bracket → part_step at r.values r.frames here (get_or bytes at 0) ≡ reading empty (record { outer = r.values; bracket = bracket; place = at; name = name } ∷ r.frames) (part start)
  opened_next name bracket c t v o = value_next name c t v ∙ ap (value_step at r.values r.frames name (get_or bytes at 0)) o

  pub read_open : (name : Option Span) (bracket : Bracket) → closes level here (get_or bytes at 0) ≡ false → turns level here (get_or bytes at 0) ≡ None → takes_value level here ≡ Some name → opens (get_or bytes at 0) ≡ Some bracket → length open_ones < max_depth → Reads bytes (at + 1) start (nodes ++ record { spot = spot (bracket_kind bracket) at at name; depth = length open_ones; size = 0 } ∷ []) (open_ones ++ record { bracket = bracket; node = length nodes } ∷ [])
  read_open name bracket c t v o room =
      let frame : Frame = record { outer = r.values; bracket = bracket; place = at; name = name } in
      let depth = depth_here bytes at here nodes open_ones r in
      subst (λ k. Reads bytes k start (nodes ++ record { spot = spot (bracket_kind bracket) at at name; depth = length open_ones; size = 0 } ∷ []) (open_ones ++ record { bracket = bracket; node = length nodes } ∷ [])) (plus_one at) (record {
        values = empty;
        frames = frame ∷ r.frames;
        stands = stands_next bytes at here r.values r.frames r.stands empty (frame ∷ r.frames) start b.inside (opened_next name bracket c t v o) (λ full over. omega (arith, room, full, depth));
        nodes_are = ap (λ l. l ++ record { spot = spot (bracket_kind bracket) at at name; depth = length open_ones; size = 0 } ∷ []) r.nodes_are ∙ ap (λ d. open_entries r.frames r.values ++ record { spot = spot (bracket_kind bracket) at at name; depth = d; size = 0 } ∷ []) depth ∙ opened_are frame r.frames;
        open_are = ap (λ l. l ++ record { bracket = bracket; node = length nodes } ∷ []) r.open_are ∙ ap (λ n. openings r.frames ++ record { bracket = bracket; node = length n } ∷ []) r.nodes_are ∙ opening_is frame r.frames;
        shallow = omega (arith, room, depth);
      })

  pub read_deep : (name : Option Span) (bracket : Bracket) → closes level here (get_or bytes at 0) ≡ false → turns level here (get_or bytes at 0) ≡ None → takes_value level here ≡ Some name → opens (get_or bytes at 0) ≡ Some bracket → max_depth ≤ length open_ones → IsFirstDeep bytes at
  read_deep name bracket c t v o full =
      let depth = depth_here bytes at here nodes open_ones r in
      let all : length r.frames ≡ 64 = omega (arith, full, depth, r.shallow) in
      deep_next bytes at here r.values r.frames r.stands empty (record { outer = r.values; bracket = bracket; place = at; name = name } ∷ r.frames) (part start) b.inside (opened_next name bracket c t v o) all (ap suc all)

  word_next : (name : Option Span) → closes level here (get_or bytes at 0) ≡ false → turns level here (get_or bytes at 0) ≡ None → takes_value level here ≡ Some name → opens (get_or bytes at 0) ≡ None → part_step at r.values r.frames here (get_or bytes at 0) ≡ word_step at r.values r.frames name (begins (get_or bytes at 0))
  word_next name c t v o = value_next name c t v ∙ ap (value_step at r.values r.frames name (get_or bytes at 0)) o

  pub read_no_word : (name : Option Span) → closes level here (get_or bytes at 0) ≡ false → turns level here (get_or bytes at 0) ≡ None → takes_value level here ≡ Some name → opens (get_or bytes at 0) ≡ None → begins (get_or bytes at 0) ≡ None → IsFirstBad bytes at
  read_no_word name c t v o w = bad_next bytes at here r.values r.frames r.stands b.inside (word_next name c t v o ∙ ap (word_step at r.values r.frames name) w)

  began : (name : Option Span) (first : Lexeme) → closes level here (get_or bytes at 0) ≡ false → turns level here (get_or bytes at 0) ≡ None → takes_value level here ≡ Some name → opens (get_or bytes at 0) ≡ None → begins (get_or bytes at 0) ≡ Some first → part_step at r.values r.frames here (get_or bytes at 0) ≡ reading r.values r.frames (value first at name)
  began name first c t v o w = word_next name c t v o ∙ ap (word_step at r.values r.frames name) w

  pub read_word : (name : Option Span) (first : Lexeme) (end : ℕ) (kind : Kind) → closes level here (get_or bytes at 0) ≡ false → turns level here (get_or bytes at 0) ≡ None → takes_value level here ≡ Some name → opens (get_or bytes at 0) ≡ None → begins (get_or bytes at 0) ≡ Some first → EndsAt bytes (at + 1) first end kind → Reads bytes end rest (nodes ++ record { spot = spot kind at end name; depth = length open_ones; size = 1 } ∷ []) open_ones
  read_word name first end kind c t v o w h =
      let step_is = began name first c t v o w in
      let state = state_next bytes at here r.values r.frames r.stands b.inside ∙ step_is in
      let clean = clean_next bytes at here r.values r.frames r.stands r.values r.frames (value first at name) b.inside step_is (flat (length r.frames)) in
      let depth = depth_here bytes at here nodes open_ones r in
      record {
        values = append r.values (one (spot kind at end name) empty);
        frames = r.frames;
        stands = word_stands bytes (suc at) at end r.values r.frames name first kind (omega (arith, b.inside)) state clean (subst (λ k. EndsAt bytes k first end kind) (sym (plus_one at)) h);
        nodes_are = ap (λ l. l ++ record { spot = spot kind at end name; depth = length open_ones; size = 1 } ∷ []) r.nodes_are ∙ ap (λ d. open_entries r.frames r.values ++ record { spot = spot kind at end name; depth = d; size = 1 } ∷ []) depth ∙ one_more r.frames r.values (spot kind at end name);
        open_are = r.open_are;
        shallow = r.shallow;
      }

  pub read_broken : (name : Option Span) (first : Lexeme) (place : ℕ) → closes level here (get_or bytes at 0) ≡ false → turns level here (get_or bytes at 0) ≡ None → takes_value level here ≡ Some name → opens (get_or bytes at 0) ≡ None → begins (get_or bytes at 0) ≡ Some first → BreaksAt bytes (at + 1) first place → IsFirstBad bytes place
  read_broken name first place c t v o w h =
      let step_is = began name first c t v o w in
      broken_word bytes r.values r.frames (λ q. value q at name) (within_value r.values r.frames at name) (suc at) first place (omega (arith, b.inside)) (subst (λ k. BreaksAt bytes k first place) (sym (plus_one at)) h)
      (state_next bytes at here r.values r.frames r.stands b.inside ∙ step_is)
      (clean_next bytes at here r.values r.frames r.stands r.values r.frames (value first at name) b.inside step_is (flat (length r.frames)))

  name_next : closes level here (get_or bytes at 0) ≡ false → turns level here (get_or bytes at 0) ≡ None → takes_value level here ≡ None → part_step at r.values r.frames here (get_or bytes at 0) ≡ cond (takes_name (level_of r.frames) here && eqb (get_or bytes at 0) 34) (reading r.values r.frames (naming (plain false) at)) refused
  name_next c t v = other_step_is at r.values r.frames here (get_or bytes at 0) b.not_blank
      (ap (λ l. closes l here (get_or bytes at 0)) (sym level_frames) ∙ c) (ap (λ l. turns l here (get_or bytes at 0)) (sym level_frames) ∙ t) (ap (λ l. takes_value l here) (sym level_frames) ∙ v)

  pub read_nothing : closes level here (get_or bytes at 0) ≡ false → turns level here (get_or bytes at 0) ≡ None → takes_value level here ≡ None → (takes_name level here && eqb (get_or bytes at 0) 34) ≡ false → IsFirstBad bytes at
  read_nothing c t v n = bad_next bytes at here r.values r.frames r.stands b.inside
      (name_next c t v ∙ ap (λ x. cond x (reading r.values r.frames (naming (plain false) at)) refused) (ap (λ l. takes_name l here && eqb (get_or bytes at 0) 34) (sym level_frames) ∙ n))

  named_next : closes level here (get_or bytes at 0) ≡ false → turns level here (get_or bytes at 0) ≡ None → takes_value level here ≡ None → (takes_name level here && eqb (get_or bytes at 0) 34) ≡ true → part_step at r.values r.frames here (get_or bytes at 0) ≡ reading r.values r.frames (naming (plain false) at)
  named_next c t v n = name_next c t v ∙ ap (λ x. cond x (reading r.values r.frames (naming (plain false) at)) refused) (ap (λ l. takes_name l here && eqb (get_or bytes at 0) 34) (sym level_frames) ∙ n)

  pub read_name : (end : ℕ) (kind : Kind) → closes level here (get_or bytes at 0) ≡ false → turns level here (get_or bytes at 0) ≡ None → takes_value level here ≡ None → (takes_name level here && eqb (get_or bytes at 0) 34) ≡ true → EndsAt bytes (at + 1) (plain false) end kind → Reads bytes end (named (record { start = at; end = end })) nodes open_ones
  read_name end kind c t v n h =
      let step_is = named_next c t v n in
      let state = state_next bytes at here r.values r.frames r.stands b.inside ∙ step_is in
      let clean = clean_next bytes at here r.values r.frames r.stands r.values r.frames (naming (plain false) at) b.inside step_is (flat (length r.frames)) in
      let text : kind ≡ kinds.Text = string_kind bytes (at + 1) end kind h in
      record {
        values = r.values;
        frames = r.frames;
        stands = name_stands bytes (suc at) at end r.values r.frames (plain false) (omega (arith, b.inside)) state clean (subst (λ k. EndsAt bytes k (plain false) end kinds.Text) (sym (plus_one at)) (subst (λ k. EndsAt bytes (at + 1) (plain false) end k) text h));
        nodes_are = r.nodes_are;
        open_are = r.open_are;
        shallow = r.shallow;
      }

  pub read_name_broken : (place : ℕ) → closes level here (get_or bytes at 0) ≡ false → turns level here (get_or bytes at 0) ≡ None → takes_value level here ≡ None → (takes_name level here && eqb (get_or bytes at 0) 34) ≡ true → BreaksAt bytes (at + 1) (plain false) place → IsFirstBad bytes place
  read_name_broken place c t v n h =
      let step_is = named_next c t v n in
      broken_word bytes r.values r.frames (λ q. naming q at) (within_name r.values r.frames at) (suc at) (plain false) place (omega (arith, b.inside)) (subst (λ k. BreaksAt bytes k (plain false) place) (sym (plus_one at)) h)
      (state_next bytes at here r.values r.frames r.stands b.inside ∙ step_is)
      (clean_next bytes at here r.values r.frames r.stands r.values r.frames (naming (plain false) at) b.inside step_is (flat (length r.frames)))

  -- the list or map that a byte closes is the last one that is open
  pub read_close : (others : List Opening) (o : Opening) (e : Entry) → open_ones ≡ others ++ o ∷ [] → closes level here (get_or bytes at 0) ≡ true → e ≡ get_or nodes o.node e → Reads bytes (at + 1) rest (set nodes o.node (record { spot = spot e.spot.kind e.spot.span.start (at + 1) e.spot.name; depth = e.depth; size = length nodes - o.node })) others
  read_close others o e are c kept =
      closed_by r.frames r.values nodes others o e (sym are ∙ r.open_are) r.nodes_are kept (r.stands) r.shallow (ap (λ l. closes l here (get_or bytes at 0)) (sym level_frames) ∙ c)
    where
      closed_by : (frames : List Frame) (values : Forest) (nodes : List Entry) (others : List Opening) (o : Opening) (e : Entry) → others ++ o ∷ [] ≡ openings frames → nodes ≡ open_entries frames values → e ≡ get_or nodes o.node e → Stands bytes at here values frames → length frames ≤ 64 → closes (level_of frames) here (get_or bytes at 0) ≡ true → Reads bytes (at + 1) rest (set nodes o.node (record { spot = spot e.spot.kind e.spot.span.start (at + 1) e.spot.name; depth = e.depth; size = length nodes - o.node })) others
      closed_by [] values nodes others o e are nodes_are kept stands shallow c = none_some _ _ (closes_level None here (get_or bytes at 0) c).1
      closed_by (frame ∷ outer) values nodes others o e are nodes_are kept stands shallow c =
          let both = last_is others (openings outer) o (record { bracket = frame.bracket; node = length (open_entries outer frame.outer) }) (are ∙ sym (opening_is frame outer)) in
          let node : o.node ≡ length (open_entries outer frame.outer) = ap (λ x. x.node) both.1 in
          let lists = nodes_are ∙ inner_entries frame outer values in
          let front = open_entries outer frame.outer in
          let back = entries (suc (length outer)) values in
          let mine : e ≡ opened frame (length outer) = kept ∙ ap (λ n. get_or nodes n e) node ∙ ap (λ l. get_or l (length front) e) lists ∙ get_seam front back (opened frame (length outer)) e in
          let size : length nodes - o.node ≡ 1 + count values = omega (arith, ap length lists, length-append front (opened frame (length outer) ∷ back), node, length-entries (suc (length outer)) values) in
          let new : List Entry = front ++ (record { spot = spot (bracket_kind frame.bracket) frame.place (suc at) frame.name; depth = length outer; size = 1 + count values } ∷ back) in
          let changed : set nodes o.node (record { spot = spot e.spot.kind e.spot.span.start (at + 1) e.spot.name; depth = e.depth; size = length nodes - o.node }) ≡ new =
          ap (λ x. set nodes o.node (record { spot = spot x.spot.kind x.spot.span.start (at + 1) x.spot.name; depth = x.depth; size = length nodes - o.node })) mine
          ∙ ap (λ n. set nodes o.node (record { spot = spot (bracket_kind frame.bracket) frame.place (at + 1) frame.name; depth = length outer; size = n })) size
          ∙ ap (λ k. set nodes o.node (record { spot = spot (bracket_kind frame.bracket) frame.place k frame.name; depth = length outer; size = 1 + count values })) (sym (plus_one at))
          ∙ ap (λ n. set nodes n (record { spot = spot (bracket_kind frame.bracket) frame.place (suc at) frame.name; depth = length outer; size = 1 + count values })) node
          ∙ ap (λ l. set l (length front) (record { spot = spot (bracket_kind frame.bracket) frame.place (suc at) frame.name; depth = length outer; size = 1 + count values })) lists
          ∙ set_seam front back (opened frame (length outer)) (record { spot = spot (bracket_kind frame.bracket) frame.place (suc at) frame.name; depth = length outer; size = 1 + count values }) in
          subst (λ k. Reads bytes k rest (set nodes o.node (record { spot = spot e.spot.kind e.spot.span.start (at + 1) e.spot.name; depth = e.depth; size = length nodes - o.node })) others) (plus_one at) (record {
            values = closed_in frame values (suc at);
            frames = outer;
            stands = stands_next bytes at here values (frame ∷ outer) stands (closed_in frame values (suc at)) outer rest b.inside (close_step_is at values (frame ∷ outer) here (get_or bytes at 0) b.not_blank c) (λ full over. omega (arith, full, over));
            nodes_are = changed ∙ closed_entries frame outer values (suc at);
            open_are = both.0;
            shallow = omega (arith, shallow);
          })

-- the entry of a list or map that is open is there
pub open_inside : (bytes : List ℕ) (at : ℕ) (here : Part) (nodes : List Entry) (open_ones others : List Opening) (o : Opening) → Reads bytes at here nodes open_ones → open_ones ≡ others ++ o ∷ [] → o.node < length nodes
open_inside bytes at here nodes open_ones others o r are = inside r.frames r.values (sym are ∙ r.open_are) r.nodes_are
  where
    inside : (frames : List Frame) (values : Forest) → others ++ o ∷ [] ≡ openings frames → nodes ≡ open_entries frames values → o.node < length nodes
    inside [] values are nodes_are = absurd (omega (arith, length-append others (o ∷ []), ap length are, ap length (sym no_openings_yet)))
    inside (frame ∷ outer) values are nodes_are =
        let both = last_is others (openings outer) o (record { bracket = frame.bracket; node = length (open_entries outer frame.outer) }) (are ∙ sym (opening_is frame outer)) in
        omega (arith, ap length (nodes_are ∙ inner_entries frame outer values), length-append (open_entries outer frame.outer) (opened frame (length outer) ∷ entries (suc (length outer)) values), ap (λ x. x.node) both.1)

-- before the first byte
pub read_start : (bytes : List ℕ) → Reads bytes 0 start [] []
unfolding after_from
read_start bytes = record {
  values = empty;
  frames = [];
  stands = record { inside = omega arith; state = refl; goes = λ lt. refl; clean = λ k lt. absurd (omega (arith, lt)) };
  nodes_are = no_entries;
  open_are = no_openings_yet;
  shallow = omega arith;
}

-- a text that ends behind its value
pub read_end : (bytes : List ℕ) (at : ℕ) (here : Part) (nodes : List Entry) (open_ones : List Opening) → Reads bytes at here nodes open_ones → at ≡ length bytes → here ≡ rest → open_ones ≡ [] → (values : Forest) × IsText bytes values × (nodes ≡ entries 0 values) × IsClean bytes (length bytes + 1)
read_end bytes at here nodes open_ones r e is none =
    let nothing = no_openings r.frames (sym r.open_are ∙ none) in
    let text = text_ends bytes at here r.values r.frames r.stands e is nothing in (
      r.values,
      text,
      r.nodes_are ∙ ap (λ f. open_entries f r.values) nothing ∙ root_entries r.values,
      subst (IsClean bytes) (let last : suc at ≡ length bytes + 1 = omega (arith, e) in last) (text_clean bytes at here r.values r.frames r.stands e text),
    )

-- a text that ends elsewhere
pub read_short : (bytes : List ℕ) (at : ℕ) (here : Part) (nodes : List Entry) (open_ones : List Opening) → Reads bytes at here nodes open_ones → at ≡ length bytes → (here ≡ rest → open_ones ≡ [] → ⊥) → IsFirstBad bytes at
read_short bytes at here nodes open_ones r e unfinished = text_short bytes at here r.values r.frames r.stands e (λ is none. unfinished is (r.open_are ∙ ap openings none ∙ sym no_openings_yet))
