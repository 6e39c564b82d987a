-- Texts in which no surrogate stands alone.
use Rattle.std.proofs.Common.{◌≡◌, ℕ, zero, suc, ◌+◌, ◌<◌, ◌≤◌, Bool, true, false, eqb, max, List, [], ◌∷◌, length, take, drop, get_or, Option, Some, None, refl, sym, ap, subst, ◌∙◌, arith}
use Rattle.json_lexemes.specs.declared.kind.Kind.{Kind}
use Rattle.json_lexemes.specs.declared.kind.Kind.TheVariants as kinds
use Rattle.json_text.specs.declared.spot.Span.{Span}
use Rattle.json_text.specs.declared.part.Bracket.{Bracket}
use Rattle.json_text.specs.declared.part.Part.{Part}
use Rattle.json_text.specs.declared.part.Part.TheVariants.{Start as start, Named as named, Rest as rest}
use Rattle.json_lexemes.specs.declared.lexeme.Lexeme.{Lexeme}
use Rattle.json_lexemes.specs.declared.lexeme.Lexeme.TheVariants.{Plain as plain}
use Rattle.json_lexemes.specs.Lexeme.{begins, ends, next, Spells, done, more}
use Rattle.json_text.specs.Forest.{Forest, empty, grows, one, append}
use Rattle.json_text.specs.Grammar.{bracket_kind, is_blank, opens, closes, turns, takes_value, takes_name, Completes, blank, word, nested, member_name, turn, close, finish, IsText}
use Rattle.json_text.specs.Progress.{Frame, Doing, part, value, naming, State, reading, level_of, spot, closed_in, part_step, step, after_from, after}
use Rattle.json_text.specs.Faults.{is_lone_in, open_count, word_of, lone, IsClean}
use Rattle.json_lexemes.specs.Scan.{EndsAt, IsOver}
use Rattle.json_text.specs.Reading.{Stands}
use Rattle.json_text.specs.Shape.{is_holder, levels, nesting}
use Rattle.json_text.proofs.Tables.{some_none, false_true, closes_not_blank, turn_clear, word_clear, nested_clear, name_clear, word_over, text_over}
use Rattle.json_text.proofs.Residue.{append-empty, append_one, rest_over}
use Rattle.json_lexemes.proofs.Courses.{Course, here as stop, on as go, course_passes, course_spells, lone_in_left, one_on, first_left, left_inside}
use Rattle.json_text.proofs.Standing.{after_more, stands_next, clean_next, state_next, count_here}
use Rattle.json_text.proofs.Words.{Within, within_value, within_name, word_stands, name_stands, text_clean, lone_is_plain}
use Rattle.json_text.proofs.Readable.{completes_rest}

-- what completes a list, a map or a text, word by word without a lone surrogate
pub data Clear : Option Bracket → Part → ℕ → List ℕ → ℕ → List ℕ → Forest → Type 0 where
  c_blank : {level : Option Bracket} {here : Part} {byte i j : ℕ} {s t : List ℕ} {values : Forest} → is_blank byte ≡ true → Clear level here (suc i) s j t values → Clear level here i (byte ∷ s) j t values
  c_word : {level : Option Bracket} {here : Part} {name : Option Span} {kind : Kind} {first last : Lexeme} {byte i j k : ℕ} {s t u : List ℕ} {values : Forest} → takes_value level here ≡ Some name → begins byte ≡ Some first → Course first s t last → ends last ≡ Some kind → j + length t ≡ suc i + length s → Clear level rest j t k u values → Clear level here i (byte ∷ s) k u (grows (record { kind = kind; span = record { start = i; end = j }; name = name }) empty values)
  c_nested : {level : Option Bracket} {here : Part} {name : Option Span} {bracket : Bracket} {byte i j k : ℕ} {s t u : List ℕ} {children values : Forest} → takes_value level here ≡ Some name → opens byte ≡ Some bracket → Clear (Some bracket) start (suc i) s j t children → Clear level rest j t k u values → Clear level here i (byte ∷ s) k u (grows (record { kind = bracket_kind bracket; span = record { start = i; end = j }; name = name }) children values)
  c_name : {level : Option Bracket} {here : Part} {last : Lexeme} {byte i j k : ℕ} {s t u : List ℕ} {values : Forest} → takes_name level here ≡ true → byte ≡ 34 → Course (plain false) s t last → ends last ≡ Some kinds.Text → j + length t ≡ suc i + length s → Clear level (named (record { start = i; end = j })) j t k u values → Clear level here i (byte ∷ s) k u values
  c_turn : {level : Option Bracket} {here there : Part} {byte i j : ℕ} {s t : List ℕ} {values : Forest} → turns level here byte ≡ Some there → Clear level there (suc i) s j t values → Clear level here i (byte ∷ s) j t values
  c_close : {level : Option Bracket} {here : Part} {byte i : ℕ} {s : List ℕ} → closes level here byte ≡ true → Clear level here i (byte ∷ s) (suc i) s empty
  c_finish : {level : Option Bracket} {i : ℕ} → level ≡ None → Clear level rest i [] i [] empty

pub clear_completes : (level : Option Bracket) (here : Part) (i j : ℕ) (s t : List ℕ) (values : Forest) → Clear level here i s j t values → Completes level here i s j t values
clear_completes level here i j (byte ∷ s) t values (c_blank b c) = blank b (clear_completes level here (suc i) j s t values c)
clear_completes level here i j (byte ∷ s) t values (c_word {kind = kind} {first = first} {last = last} {j = k} {t = u} {values = others} takes b course e far c) =
    word takes b (course_spells first s u last (suc i) k k u kind course (done e) far) (clear_completes level rest k j u t others c)
clear_completes level here i j (byte ∷ s) t values (c_nested {bracket = bracket} {j = k} {t = u} {children = children} {values = others} takes o held c) =
    nested takes o (clear_completes (Some bracket) start (suc i) k s u children held) (clear_completes level rest k j u t others c)
clear_completes level here i j (byte ∷ s) t values (c_name {last = last} {j = k} {t = u} takes q course e far c) =
    member_name takes q (course_spells (plain false) s u last (suc i) k k u kinds.Text course (done e) far) (clear_completes level (named (record { start = i; end = k })) k j u t values c)
clear_completes level here i j (byte ∷ s) t values (c_turn {there = there} q c) = turn q (clear_completes level there (suc i) j s t values c)
clear_completes level here i j (byte ∷ s) t values (c_close c) = close c
clear_completes level here i j s t values (c_finish e) = finish e

-- ---- a reader's steps

blank_step : (i : ℕ) (v : Forest) (frames : List Frame) (here : Part) (byte : ℕ) → is_blank byte ≡ true → part_step i v frames here byte ≡ reading v frames (part here)
unfolding part_step
blank_step i v frames here byte b = rw b refl

turn_there : (i : ℕ) (v : Forest) (frames : List Frame) (here there : Part) (byte : ℕ) → turns (level_of frames) here byte ≡ Some there → part_step i v frames here byte ≡ reading v frames (part there)
unfolding part_step
turn_there i v frames here there byte q =
    let clear = turn_clear (level_of frames) here there byte q in
    let not_blank : is_blank byte ≡ false = clear.1 in
    let no_close : closes (level_of frames) here byte ≡ false = clear.2 in
    rw (not_blank, no_close, q) refl

close_there : (i : ℕ) (v : Forest) (frame : Frame) (outer : List Frame) (here : Part) (byte : ℕ) → closes (Some frame.bracket) here byte ≡ true → part_step i v (frame ∷ outer) here byte ≡ reading (closed_in frame v (suc i)) outer (part rest)
unfolding part_step
close_there i v frame outer here byte c =
    let not_blank : is_blank byte ≡ false = closes_not_blank (Some frame.bracket) here byte c in
    rw (not_blank, c) refl

word_there : (i : ℕ) (v : Forest) (frames : List Frame) (here : Part) (byte : ℕ) (name : Option Span) (first : Lexeme) → takes_value (level_of frames) here ≡ Some name → begins byte ≡ Some first → part_step i v frames here byte ≡ reading v frames (value first i name)
unfolding part_step
word_there i v frames here byte name first takes b =
    let clear = word_clear (level_of frames) here byte name first takes b in
    let not_blank : is_blank byte ≡ false = clear.0.not_blank in
    let no_close : closes (level_of frames) here byte ≡ false = clear.0.no_close in
    let no_turn : turns (level_of frames) here byte ≡ None = clear.0.no_turn in
    let no_bracket : opens byte ≡ None = clear.1 in
    rw (not_blank, no_close, no_turn, takes, no_bracket, b) refl

open_there : (i : ℕ) (v : Forest) (frames : List Frame) (here : Part) (byte : ℕ) (name : Option Span) (bracket : Bracket) → takes_value (level_of frames) here ≡ Some name → opens byte ≡ Some bracket → part_step i v frames here byte ≡ reading empty (record { outer = v; bracket = bracket; place = i; name = name } ∷ frames) (part start)
unfolding part_step
open_there i v frames here byte name bracket takes o =
    let clear = nested_clear (level_of frames) here byte name bracket takes o in
    let not_blank : is_blank byte ≡ false = clear.not_blank in
    let no_close : closes (level_of frames) here byte ≡ false = clear.no_close in
    let no_turn : turns (level_of frames) here byte ≡ None = clear.no_turn in
    rw (not_blank, no_close, no_turn, takes, o) refl

name_there : (i : ℕ) (v : Forest) (frames : List Frame) (here : Part) (byte : ℕ) → takes_name (level_of frames) here ≡ true → byte ≡ 34 → part_step i v frames here byte ≡ reading v frames (naming (plain false) i)
unfolding part_step
name_there i v frames here byte takes e =
    let clear = name_clear (level_of frames) here byte takes e in
    let not_blank : is_blank byte ≡ false = clear.0.not_blank in
    let no_close : closes (level_of frames) here byte ≡ false = clear.0.no_close in
    let no_turn : turns (level_of frames) here byte ≡ None = clear.0.no_turn in
    let no_value : takes_value (level_of frames) here ≡ None = clear.1 in
    let quote : eqb byte 34 ≡ true = ap (λ b. eqb b 34) e in
    rw (not_blank, no_close, no_turn, no_value, takes, quote) refl

-- ---- the end of a word

past : (bytes : List ℕ) (j : ℕ) → [] ≡ drop j bytes → j < length bytes → ⊥
past [] zero e lt = omega (arith, lt)
past [] (suc j) e lt = omega (arith, lt)
past (x ∷ bytes) zero e lt = omega (arith, ap length e)
past (x ∷ bytes) (suc j) e lt = past bytes j e (omega (arith, lt))

value_over : (bytes : List ℕ) (level : Option Bracket) (j k : ℕ) (t u : List ℕ) (others : Forest) (last : Lexeme) (kind : Kind) → Completes level rest j t k u others → t ≡ drop j bytes → ends last ≡ Some kind → IsOver bytes j last
value_over bytes level j k [] u others last kind c e over lt = absurd (past bytes j e lt)
value_over bytes level j k (byte ∷ t) u others last kind c e over lt =
    ap (next last) (sym (first_left bytes j byte t e)) ∙ word_over last kind byte (rest_over level j byte k t u others c) over

name_over : (bytes : List ℕ) (j : ℕ) (last : Lexeme) → ends last ≡ Some kinds.Text → IsOver bytes j last
name_over bytes j last over lt = text_over last (get_or bytes j 0) over

tail_at : (bytes : List ℕ) (first last : Lexeme) (i j : ℕ) (s t : List ℕ) → Course first s t last → s ≡ drop i bytes → j + length t ≡ i + length s → t ≡ drop j bytes
tail_at bytes first last i j s t stop e far = e ∙ ap (λ n. drop n bytes) (let same : i ≡ j = omega (arith, far) in same)
tail_at bytes first last i j (byte ∷ s) t (go {after = after} l n p) e far = tail_at bytes after last (suc i) j s t p (one_on bytes i byte s e) (omega (arith, far))

ends_at : (bytes : List ℕ) (first last : Lexeme) (i j : ℕ) (s t : List ℕ) (kind : Kind) → Course first s t last → ends last ≡ Some kind → s ≡ drop i bytes → j + length t ≡ i + length s → IsOver bytes j last → EndsAt bytes i first j kind
ends_at bytes first last i j s t kind course over e far stuck = record { word = last; passes = course_passes bytes first s t last i j course e far; ends_there = over; over = stuck }

-- ---- what stands after a token

-- the row has ended: the list or the map that it is in, or the whole text
abbrev pub Ended : List ℕ → ℕ → Forest → List Frame → Type 0
Ended bytes j w [] = Stands bytes j rest w []
Ended bytes j w (frame ∷ outer) = Stands bytes j rest (closed_in frame w j) outer

module _ (bytes : List ℕ) (i byte : ℕ) (s : List ℕ) (e : byte ∷ s ≡ drop i bytes) (part_here : Part) (v : Forest) (frames : List Frame) (h : Stands bytes i part_here v frames) where
  there : (state : State) → part_step i v frames part_here byte ≡ state → part_step i v frames part_here (get_or bytes i 0) ≡ state
  there state is = ap (part_step i v frames part_here) (sym (first_left bytes i byte s e)) ∙ is

  level_on : (n : ℕ) → n ≡ 64 → n ≡ 65 → ⊥
  level_on n a b = omega (arith, a, b)

  pub after_blank : is_blank byte ≡ true → Stands bytes (suc i) part_here v frames
  after_blank b = stands_next bytes i part_here v frames h v frames part_here (left_inside bytes i byte s e) (there _ (blank_step i v frames part_here byte b)) (level_on (length frames))

  pub after_turn : (next_part : Part) → turns (level_of frames) part_here byte ≡ Some next_part → Stands bytes (suc i) next_part v frames
  after_turn next_part q = stands_next bytes i part_here v frames h v frames next_part (left_inside bytes i byte s e) (there _ (turn_there i v frames part_here next_part byte q)) (level_on (length frames))

  pub after_open : (name : Option Span) (bracket : Bracket) → takes_value (level_of frames) part_here ≡ Some name → opens byte ≡ Some bracket → (length frames ≡ 64 → ⊥) → Stands bytes (suc i) start empty (record { outer = v; bracket = bracket; place = i; name = name } ∷ frames)
  after_open name bracket takes o flat = stands_next bytes i part_here v frames h empty (record { outer = v; bracket = bracket; place = i; name = name } ∷ frames) start (left_inside bytes i byte s e) (there _ (open_there i v frames part_here byte name bracket takes o)) (λ full over. flat full)

  -- 64 are not open, where nothing is too deep
  pub not_full : (name : Option Span) (bracket : Bracket) → takes_value (level_of frames) part_here ≡ Some name → opens byte ≡ Some bracket → IsClean bytes (length bytes + 1) → length frames ≡ 64 → ⊥
  not_full name bracket takes o clean full =
      let lt = left_inside bytes i byte s e in
      (clean i (omega (arith, lt))).1 (count_here bytes i part_here v frames h ∙ full, ap open_count (state_next bytes i part_here v frames h lt ∙ there _ (open_there i v frames part_here byte name bracket takes o)) ∙ ap suc full)

  in_word : (name : Option Span) (first : Lexeme) → takes_value (level_of frames) part_here ≡ Some name → begins byte ≡ Some first → (after (take (suc i) bytes) ≡ reading v frames (value first i name)) × IsClean bytes (suc i)
  in_word name first takes b =
      let lt = left_inside bytes i byte s e in
      let is = there _ (word_there i v frames part_here byte name first takes b) in
      (state_next bytes i part_here v frames h lt ∙ is, clean_next bytes i part_here v frames h v frames (value first i name) lt is (level_on (length frames)))

  in_name : takes_name (level_of frames) part_here ≡ true → byte ≡ 34 → (after (take (suc i) bytes) ≡ reading v frames (naming (plain false) i)) × IsClean bytes (suc i)
  in_name takes q =
      let lt = left_inside bytes i byte s e in
      let is = there _ (name_there i v frames part_here byte takes q) in
      (state_next bytes i part_here v frames h lt ∙ is, clean_next bytes i part_here v frames h v frames (naming (plain false) i) lt is (level_on (length frames)))

  pub after_word : (name : Option Span) (first last : Lexeme) (kind : Kind) (j k : ℕ) (t u : List ℕ) (others : Forest) → takes_value (level_of frames) part_here ≡ Some name → begins byte ≡ Some first → Course first s t last → ends last ≡ Some kind → j + length t ≡ suc i + length s → Completes (level_of frames) rest j t k u others → Stands bytes j rest (append v (one (spot kind i j name) empty)) frames
  after_word name first last kind j k t u others takes b course over far c =
      let state = in_word name first takes b in
      let left = one_on bytes i byte s e in
      word_stands bytes (suc i) i j v frames name first kind (left_inside bytes i byte s e) state.0 state.1
      (ends_at bytes first last (suc i) j s t kind course over left far (value_over bytes (level_of frames) j k t u others last kind c (tail_at bytes first last (suc i) j s t course left far) over))

  pub after_name : (last : Lexeme) (j : ℕ) (t : List ℕ) → takes_name (level_of frames) part_here ≡ true → byte ≡ 34 → Course (plain false) s t last → ends last ≡ Some kinds.Text → j + length t ≡ suc i + length s → Stands bytes j (named (record { start = i; end = j })) v frames
  after_name last j t takes q course over far =
      let state = in_name takes q in
      name_stands bytes (suc i) i j v frames (plain false) (left_inside bytes i byte s e) state.0 state.1
      (ends_at bytes (plain false) last (suc i) j s t kinds.Text course over (one_on bytes i byte s e) far (name_over bytes j last over))

none_closes : (part_here : Part) (byte : ℕ) → closes None part_here byte ≡ false
unfolding closes
none_closes part_here byte = refl

pub after_close : (bytes : List ℕ) (i byte : ℕ) (s : List ℕ) (part_here : Part) (v : Forest) (frames : List Frame) → byte ∷ s ≡ drop i bytes → Stands bytes i part_here v frames → closes (level_of frames) part_here byte ≡ true → Ended bytes (suc i) v frames
after_close bytes i byte s part_here v [] e h c = false_true _ (sym (none_closes part_here byte) ∙ c)
after_close bytes i byte s part_here v (frame ∷ outer) e h c =
    stands_next bytes i part_here v (frame ∷ outer) h (closed_in frame v (suc i)) outer rest (left_inside bytes i byte s e) (there bytes i byte s e part_here v (frame ∷ outer) h _ (close_there i v frame outer part_here byte c)) (λ full over. (let bad : ⊥ = omega (arith, full, over) in bad))

-- ---- a text in which nothing is wrong is clear

module _ (bytes : List ℕ) (clean : IsClean bytes (length bytes + 1)) (v : Forest) (frames : List Frame) (doing : Lexeme → Doing) (w : Within v frames doing) where
  paired : (q : Lexeme) (i : ℕ) → i < length bytes → after (take i bytes) ≡ reading v frames (doing q) → (b : Bool) → is_lone_in q bytes i ≡ b → b ≡ false
  paired q i lt e false is = refl
  paired q i lt e true is =
      let found = lone_is_plain q bytes i is in
      absurd ((clean i (omega (arith, lt))).0 (lone (found.0, ap word_of e ∙ w.in_word q ∙ ap Some found.1, found.2)))

  word_course : (q : Lexeme) (i j : ℕ) (s t : List ℕ) (kind : Kind) → Spells q i s j t kind → s ≡ drop i bytes → after (take i bytes) ≡ reading v frames (doing q) → (last : Lexeme) × Course q s t last × (ends last ≡ Some kind) × (j + length t ≡ i + length s)
  word_course q i j s t kind (done over) e state = (q, stop, over, refl)
  word_course q i j (byte ∷ s) t kind (more {after = after_byte} n spells) e state =
      let lt = left_inside bytes i byte s e in
      let first = first_left bytes i byte s e in
      let goes = after_more bytes i lt ∙ ap (λ x. step i x (get_or bytes i 0)) state ∙ ap (λ b. step i (reading v frames (doing q)) b) (sym first) ∙ w.goes i byte q after_byte n in
      let further = word_course after_byte (suc i) j s t kind spells (one_on bytes i byte s e) goes in
      let alone : is_lone_in q (byte ∷ s) 0 ≡ false = ap (λ l. is_lone_in q l 0) e ∙ lone_in_left q bytes i ∙ paired q i lt state (is_lone_in q bytes i) refl in
      (further.0, go alone n further.1, further.2, omega (arith, further.3))

record Walked (bytes : List ℕ) (frames : List Frame) (level : Option Bracket) (part_here : Part) (i j : ℕ) (s t : List ℕ) (v values : Forest) : Type 0 where
  clear : Clear level part_here i s j t values
  ended : Ended bytes j (append v values) frames

finish_ended : (bytes : List ℕ) (i : ℕ) (v : Forest) (frames : List Frame) → level_of frames ≡ None → Stands bytes i rest v frames → Ended bytes i v frames
finish_ended bytes i v [] e h = h
finish_ended bytes i v (frame ∷ outer) e h = some_none frame.bracket _ e

clean_walk : (bytes : List ℕ) → IsClean bytes (length bytes + 1) → (frames : List Frame) (level : Option Bracket) (part_here : Part) (i j : ℕ) (s t : List ℕ) (values v : Forest) → Completes level part_here i s j t values → level ≡ level_of frames → s ≡ drop i bytes → Stands bytes i part_here v frames → Walked bytes frames level part_here i j s t v values
clean_walk bytes clean frames level part_here i j (byte ∷ s) t values v (blank b c) le e h =
    let w = clean_walk bytes clean frames level part_here (suc i) j s t values v c le (one_on bytes i byte s e) (after_blank bytes i byte s e part_here v frames h b) in
    record { clear = c_blank b w.clear; ended = w.ended }
clean_walk bytes clean frames level part_here i j (byte ∷ s) t values v (turn {after = next_part} q c) le e h =
    let w = clean_walk bytes clean frames level next_part (suc i) j s t values v c le (one_on bytes i byte s e) (after_turn bytes i byte s e part_here v frames h next_part (ap (λ l. turns l part_here byte) (sym le) ∙ q)) in
    record { clear = c_turn q w.clear; ended = w.ended }
clean_walk bytes clean frames level part_here i j (byte ∷ s) t values v (close c) le e h =
    record { clear = c_close c; ended = subst (λ x. Ended bytes (suc i) x frames) (sym (append-empty v)) (after_close bytes i byte s part_here v frames e h (ap (λ l. closes l part_here byte) (sym le) ∙ c)) }
clean_walk bytes clean frames level part_here i j s t values v (finish l) le e h =
    record { clear = c_finish l; ended = subst (λ x. Ended bytes i x frames) (sym (append-empty v)) (finish_ended bytes i v frames (sym le ∙ l) h) }
clean_walk bytes clean frames level part_here i j (byte ∷ s) t values v (word {name = name} {kind = kind} {first = first} {j = k} {t = u} {values = others} takes b spells c) le e h =
    let left = one_on bytes i byte s e in
    let run = word_course bytes clean v frames (λ q. value q i name) (within_value v frames i name) first (suc i) k s u kind spells left (in_word bytes i byte s e part_here v frames h name first (ap (λ l. takes_value l part_here) (sym le) ∙ takes) b).0 in
    let w = clean_walk bytes clean frames level rest k j u t others (append v (one (spot kind i k name) empty)) c le (tail_at bytes first run.0 (suc i) k s u run.1 left run.3) (after_word bytes i byte s e part_here v frames h name first run.0 kind k j u t others (ap (λ l. takes_value l part_here) (sym le) ∙ takes) b run.1 run.2 run.3 (subst (λ l. Completes l rest k u j t others) le c)) in
    record { clear = c_word takes b run.1 run.2 run.3 w.clear; ended = subst (λ x. Ended bytes j x frames) (append_one v (spot kind i k name) empty others) w.ended }
clean_walk bytes clean frames level part_here i j (byte ∷ s) t values v (nested {name = name} {bracket = bracket} {j = k} {t = u} {children = children} {values = others} takes o held c) le e h =
    let left = one_on bytes i byte s e in
    let frame : Frame = record { outer = v; bracket = bracket; place = i; name = name } in
    let takes_here = ap (λ l. takes_value l part_here) (sym le) ∙ takes in
    let inner = clean_walk bytes clean (frame ∷ frames) (Some bracket) start (suc i) k s u children empty held refl left (after_open bytes i byte s e part_here v frames h name bracket takes_here o (not_full bytes i byte s e part_here v frames h name bracket takes_here o clean)) in
    let w = clean_walk bytes clean frames level rest k j u t others (append v (one (spot (bracket_kind bracket) i k name) children)) c le (completes_rest bytes (Some bracket) start (suc i) s k u children held left) inner.ended in
    record { clear = c_nested takes o inner.clear w.clear; ended = subst (λ x. Ended bytes j x frames) (append_one v (spot (bracket_kind bracket) i k name) children others) w.ended }
clean_walk bytes clean frames level part_here i j (byte ∷ s) t values v (member_name {j = k} {t = u} takes q spells c) le e h =
    let left = one_on bytes i byte s e in
    let run = word_course bytes clean v frames (λ x. naming x i) (within_name v frames i) (plain false) (suc i) k s u kinds.Text spells left (in_name bytes i byte s e part_here v frames h (ap (λ l. takes_name l part_here) (sym le) ∙ takes) q).0 in
    let w = clean_walk bytes clean frames level (named (record { start = i; end = k })) k j u t values v c le (tail_at bytes (plain false) run.0 (suc i) k s u run.1 left run.3) (after_name bytes i byte s e part_here v frames h run.0 k u (ap (λ l. takes_name l part_here) (sym le) ∙ takes) q run.1 run.2 run.3) in
    record { clear = c_name takes q run.1 run.2 run.3 w.clear; ended = w.ended }

start_stands : (bytes : List ℕ) → Stands bytes 0 start empty []
unfolding after_from
start_stands bytes = record { inside = omega arith; state = refl; goes = λ lt. refl; clean = λ k lt. absurd (omega (arith, lt)) }

pub text_clear : (bytes : List ℕ) (values : Forest) → IsText bytes values → IsClean bytes (length bytes + 1) → Clear None start 0 bytes (length bytes) [] values
text_clear bytes values text clean = (clean_walk bytes clean [] None start 0 (length bytes) bytes [] values empty text refl refl (start_stands bytes)).clear

-- ---- and a clear text that is nested 64 deep at most is clean

holder_low : (n : ℕ) (b : Bool) (inner later : ℕ) → b ≡ true → n + max (levels b inner) later ≤ 64 → suc n + inner ≤ 64
holder_low n true inner later e h = omega (arith, h)
holder_low n false inner later e h = let bad : ⊥ = cc in absurd bad

bracket_holds : (bracket : Bracket) → is_holder (bracket_kind bracket) ≡ true
bracket_holds Bracket.List = refl
bracket_holds Bracket.Map = refl

clear_walk : (bytes : List ℕ) (frames : List Frame) (level : Option Bracket) (part_here : Part) (i j : ℕ) (s t : List ℕ) (values v : Forest) → Clear level part_here i s j t values → level ≡ level_of frames → s ≡ drop i bytes → Stands bytes i part_here v frames → length frames + nesting values ≤ 64 → Ended bytes j (append v values) frames
unfolding nesting
clear_walk bytes frames level part_here i j (byte ∷ s) t values v (c_blank b c) le e h low = clear_walk bytes frames level part_here (suc i) j s t values v c le (one_on bytes i byte s e) (after_blank bytes i byte s e part_here v frames h b) low
clear_walk bytes frames level part_here i j (byte ∷ s) t values v (c_turn {there = next_part} q c) le e h low = clear_walk bytes frames level next_part (suc i) j s t values v c le (one_on bytes i byte s e) (after_turn bytes i byte s e part_here v frames h next_part (ap (λ l. turns l part_here byte) (sym le) ∙ q)) low
clear_walk bytes frames level part_here i j (byte ∷ s) t values v (c_close c) le e h low = subst (λ x. Ended bytes (suc i) x frames) (sym (append-empty v)) (after_close bytes i byte s part_here v frames e h (ap (λ l. closes l part_here byte) (sym le) ∙ c))
clear_walk bytes frames level part_here i j s t values v (c_finish l) le e h low = subst (λ x. Ended bytes i x frames) (sym (append-empty v)) (finish_ended bytes i v frames (sym le ∙ l) h)
clear_walk bytes frames level part_here i j (byte ∷ s) t values v (c_word {name = name} {kind = kind} {first = first} {last = last} {j = k} {t = u} {values = others} takes b course over far c) le e h low =
    subst (λ x. Ended bytes j x frames) (append_one v (spot kind i k name) empty others)
    (clear_walk bytes frames level rest k j u t others (append v (one (spot kind i k name) empty)) c le (tail_at bytes first last (suc i) k s u course (one_on bytes i byte s e) far) (after_word bytes i byte s e part_here v frames h name first last kind k j u t others (ap (λ l. takes_value l part_here) (sym le) ∙ takes) b course over far (subst (λ l. Completes l rest k u j t others) le (clear_completes level rest k j u t others c))) (omega (arith, low)))
clear_walk bytes frames level part_here i j (byte ∷ s) t values v (c_nested {name = name} {bracket = bracket} {j = k} {t = u} {children = children} {values = others} takes o held c) le e h low =
    let left = one_on bytes i byte s e in
    let frame : Frame = record { outer = v; bracket = bracket; place = i; name = name } in
    let inside = holder_low (length frames) (is_holder (bracket_kind bracket)) (nesting children) (nesting others) (bracket_holds bracket) low in
    let inner = clear_walk bytes (frame ∷ frames) (Some bracket) start (suc i) k s u children empty held refl left (after_open bytes i byte s e part_here v frames h name bracket (ap (λ l. takes_value l part_here) (sym le) ∙ takes) o (λ full. (let bad : ⊥ = omega (arith, inside, full) in bad))) inside in
    subst (λ x. Ended bytes j x frames) (append_one v (spot (bracket_kind bracket) i k name) children others)
    (clear_walk bytes frames level rest k j u t others (append v (one (spot (bracket_kind bracket) i k name) children)) c le (completes_rest bytes (Some bracket) start (suc i) s k u children (clear_completes (Some bracket) start (suc i) k s u children held) left) inner (omega (arith, low)))
clear_walk bytes frames level part_here i j (byte ∷ s) t values v (c_name {last = last} {j = k} {t = u} takes q course over far c) le e h low =
    clear_walk bytes frames level (named (record { start = i; end = k })) k j u t values v c le (tail_at bytes (plain false) last (suc i) k s u course (one_on bytes i byte s e) far) (after_name bytes i byte s e part_here v frames h last k u (ap (λ l. takes_name l part_here) (sym le) ∙ takes) q course over far) low

pub clear_clean : (bytes : List ℕ) (values : Forest) → Clear None start 0 bytes (length bytes) [] values → nesting values ≤ 64 → IsClean bytes (length bytes + 1)
clear_clean bytes values c low =
    let stands = clear_walk bytes [] None start 0 (length bytes) bytes [] values empty c refl refl (start_stands bytes) (omega (arith, low)) in
    let text = clear_completes None start 0 (length bytes) bytes [] values c in
    subst (IsClean bytes) (let e : suc (length bytes) ≡ length bytes + 1 = omega arith in e) (text_clean bytes (length bytes) rest values [] stands refl text)
