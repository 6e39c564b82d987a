-- What a whole word does to a reader that stands between two words, and how a text ends.
use Rattle.std.proofs.Common.{◌≡◌, ◌⊎◌, inl, inr, ℕ, suc, ◌≤◌, Bool, true, false, List, [], ◌∷◌, length, take, get_or, Option, Some, None, refl, sym, ap, subst, ◌∙◌, arith, append-nil}
use Rattle.std.proofs.lemmas.Bool.{cases_lt}
use Rattle.std.proofs.Math.Seq.{take-length}
use Rattle.std.proofs.lemmas.List.{take_all}
use Rattle.json_lexemes.specs.declared.kind.Kind.{Kind}
use Rattle.json_lexemes.specs.declared.kind.Kind.TheVariants as kinds
use Rattle.json_text.specs.declared.spot.Span.{Span}
use Rattle.json_text.specs.declared.part.Part.{Part}
use Rattle.json_text.specs.declared.part.Part.TheVariants.{Named as named, Rest as rest}
use Rattle.json_lexemes.specs.declared.lexeme.Lexeme.{Lexeme}
use Rattle.json_lexemes.specs.declared.lexeme.Lexeme.TheVariants.{Minus as minus, LeadingZero as leading_zero, Integer as integer, Point as point, Decimals as decimals, Exponent as exponent, ExponentSign as exponent_sign, ExponentDigits as exponent_digits, Letters as letters, Plain as plain, Tail as tail, Escape as escape, Digits as digits, Closed as closed}
use Rattle.json_text.specs.Forest.{Forest, empty, one, append}
use Rattle.json_lexemes.specs.Lexeme.{next, ends, Spells, done}
use Rattle.json_text.specs.Grammar.{IsText, finish}
use Rattle.json_text.specs.Progress.{Frame, Doing, part, value, naming, State, refused, reading, level_of, spot, step, doing_step, value_goes, name_goes, value_end, name_end, after}
use Rattle.json_text.specs.Faults.{open_count, word_of, word_in, is_lone, is_lone_in, IsLoneAt, IsBad, dead, short, lone, IsClean, IsFirstBad}
use Rattle.json_lexemes.specs.Scan.{Passes, stay, go, IsOver, EndsAt, BreaksAt}
use Rattle.json_text.specs.Reading.{settled, settled_value, settled_name, Stands}
use Rattle.json_text.proofs.Tables.{none_some, some_none, false_true}
use Rattle.json_text.proofs.Residue.{FromState, FromPart, FromDoing, append-empty}
use Rattle.json_text.proofs.Fronts.{no_text, text_forth, text_back, no_more, not_named}
use Rattle.json_lexemes.proofs.Runs.{passes_high}
use Rattle.json_text.proofs.Standing.{after_more, reading_not_refused, clean_more, good_here, not_deep, not_lone_here}

pub lone_is_plain : (word : Lexeme) (bytes : List ℕ) (j : ℕ) → is_lone_in word bytes j ≡ true → (high : Bool) × (word ≡ plain high) × (is_lone high bytes j ≡ true)
lone_is_plain (plain high) bytes j e = (high, refl, e)
lone_is_plain minus bytes j e = false_true _ e
lone_is_plain leading_zero bytes j e = false_true _ e
lone_is_plain integer bytes j e = false_true _ e
lone_is_plain point bytes j e = false_true _ e
lone_is_plain decimals bytes j e = false_true _ e
lone_is_plain exponent bytes j e = false_true _ e
lone_is_plain exponent_sign bytes j e = false_true _ e
lone_is_plain exponent_digits bytes j e = false_true _ e
lone_is_plain (letters kind read) bytes j e = false_true _ e
lone_is_plain (tail second count) bytes j e = false_true _ e
lone_is_plain escape bytes j e = false_true _ e
lone_is_plain (digits count unit) bytes j e = false_true _ e
lone_is_plain closed bytes j e = false_true _ e

same_count : (n : ℕ) → n ≡ 64 → n ≡ 65 → ⊥
same_count n a b = omega (arith, a, b)

-- the two things that a reader does within a word
pub record Within (values : Forest) (frames : List Frame) (doing : Lexeme → Doing) : Type 0 where
  pub in_word : (word : Lexeme) → word_in (doing word) ≡ Some word
  pub goes : (i byte : ℕ) (word after : Lexeme) → next word byte ≡ Some after → doing_step i values frames (doing word) byte ≡ reading values frames (doing after)
  pub stuck : (i byte : ℕ) (word : Lexeme) → next word byte ≡ None → ends word ≡ None → doing_step i values frames (doing word) byte ≡ refused
  pub unended : (i : ℕ) (word : Lexeme) (whole : Forest) → ends word ≡ None → FromDoing frames values (doing word) i [] whole → ⊥

not_ended : (word : Lexeme) (i j : ℕ) (t : List ℕ) (kind : Kind) → ends word ≡ None → Spells word i [] j t kind → ⊥
not_ended word i j t kind none (done e) = none_some kind ⊥ (sym none ∙ e)

pub within_value : (values : Forest) (frames : List Frame) (from : ℕ) (name : Option Span) → Within values frames (λ word. value word from name)
within_value values frames from name = record {
  in_word = λ word. refl;
  goes = λ i byte word after e. ap (value_goes i values frames word from name byte) e;
  stuck = λ i byte word e no. ap (value_goes i values frames word from name byte) e ∙ ap (value_end i values frames from name byte) no;
  unended = λ i word whole no h. not_ended word i h.0 h.1 h.2 no h.3;
}

pub within_name : (values : Forest) (frames : List Frame) (from : ℕ) → Within values frames (λ word. naming word from)
within_name values frames from = record {
  in_word = λ word. refl;
  goes = λ i byte word after e. ap (name_goes i values frames word from byte) e;
  stuck = λ i byte word e no. ap (name_goes i values frames word from byte) e ∙ ap (name_end i values frames from byte) no;
  unended = λ i word whole no h. not_ended word i h.0 h.1 kinds.Text no h.2;
}

module _ (bytes : List ℕ) (values : Forest) (frames : List Frame) (doing : Lexeme → Doing) (w : Within values frames doing) where
  word_state : (j : ℕ) (word : Lexeme) → after (take j bytes) ≡ reading values frames (doing word) → word_of (after (take j bytes)) ≡ Some word
  word_state j word e = ap word_of e ∙ w.in_word word

  not_lone_within : (j : ℕ) (word : Lexeme) → after (take j bytes) ≡ reading values frames (doing word) → is_lone_in word bytes j ≡ false → ¬ IsLoneAt bytes j
  not_lone_within j word e paired l =
      let both : Some word ≡ Some (plain l.0) = sym (word_state j word e) ∙ l.1 in
      let is : word ≡ plain l.0 = cc in
      false_true ⊥ (sym paired ∙ ap (λ q. is_lone_in q bytes j) is ∙ l.2)

  -- the bytes that a word passes
  pub run_word : (i : ℕ) (first : Lexeme) (j : ℕ) (word : Lexeme) → Passes bytes i first j word → after (take i bytes) ≡ reading values frames (doing first) → IsClean bytes i → (after (take j bytes) ≡ reading values frames (doing word)) × IsClean bytes j
  run_word i first j word stay e clean = (e, clean)
  run_word i first j word (go {j = k} {word = before} p lt paired n) e clean =
      let earlier = run_word i first k before p e clean in
      let there = after_more bytes k lt ∙ ap (λ s. step k s (get_or bytes k 0)) earlier.0 ∙ w.goes k (get_or bytes k 0) before word n in
      (there, clean_more bytes k earlier.1 (good_here bytes k lt (reading_not_refused values frames (doing word) _ there) (not_lone_within k before earlier.0 paired)) (not_deep bytes k (length frames) (length frames) (ap open_count earlier.0) (ap open_count there) (same_count (length frames))))

  -- a word that breaks off
  pub broken_word : (i : ℕ) (first : Lexeme) (j : ℕ) → i ≤ length bytes → BreaksAt bytes i first j → after (take i bytes) ≡ reading values frames (doing first) → IsClean bytes i → IsFirstBad bytes j
  broken_word i first j low h e clean =
      let there = run_word i first j h.word h.passes e clean in
      record { bad = why there.0 h.why; before = there.1 }
    where
      why : after (take j bytes) ≡ reading values frames (doing h.word) → (is_lone_in h.word bytes j ≡ true) ⊎ ((ends h.word ≡ None) × IsOver bytes j h.word) → IsBad bytes j
      why there (inl l) = let is = lone_is_plain h.word bytes j l in lone (is.0, word_state j h.word there ∙ ap Some is.1, is.2)
      why there (inr o) = elim (cases_lt j (length bytes)) [
        | inl lt ↦ dead lt (λ front. no_text (take (suc j) bytes) front.0 front.1 (after_more bytes j lt ∙ ap (λ s. step j s (get_or bytes j 0)) there ∙ w.stuck j (get_or bytes j 0) h.word (o.1 lt) o.0) front.2)
        | inr past ↦ (let at_end : j ≡ length bytes = omega (arith, past, passes_high bytes i first j h.word low h.passes) in
            short at_end (λ text t. w.unended (length bytes) h.word text o.0 (subst (λ s. FromState s (length bytes) [] text) (ap after (sym (take-length bytes)) ∙ ap (λ k. after (take k bytes)) (sym at_end) ∙ there) (text_forth bytes [] text (subst (λ b. IsText b text) (sym (append-nil bytes)) t)))))
      ]

-- ---- a value that is one word, and a name

settled_by : (i from : ℕ) (values : Forest) (frames : List Frame) (word : Lexeme) (name : Option Span) (kind : Kind) → ends word ≡ Some kind → settled i (reading values frames (value word from name)) ≡ reading (append values (one (spot kind from i name) empty)) frames (part rest)
settled_by i from values frames word name kind e = ap (settled_value i values frames word from name) e

settled_name_by : (i from : ℕ) (values : Forest) (frames : List Frame) (word : Lexeme) → ends word ≡ Some kinds.Text → settled i (reading values frames (naming word from)) ≡ reading values frames (part (named (record { start = from; end = i })))
settled_name_by i from values frames word e = ap (settled_name i values frames word from) e

pub word_stands : (bytes : List ℕ) (i from end : ℕ) (values : Forest) (frames : List Frame) (name : Option Span) (first : Lexeme) (kind : Kind) → i ≤ length bytes → after (take i bytes) ≡ reading values frames (value first from name) → IsClean bytes i → EndsAt bytes i first end kind → Stands bytes end rest (append values (one (spot kind from end name) empty)) frames
word_stands bytes i from end values frames name first kind low e clean h =
    let there = run_word bytes values frames (λ word. value word from name) (within_value values frames from name) i first end h.word h.passes e clean in
    record {
      inside = passes_high bytes i first end h.word low h.passes;
      state = ap (settled end) there.0 ∙ settled_by end from values frames h.word name kind h.ends_there;
      goes = λ lt. ap (λ s. step end s (get_or bytes end 0)) there.0 ∙ ap (value_goes end values frames h.word from name (get_or bytes end 0)) (h.over lt) ∙ ap (value_end end values frames from name (get_or bytes end 0)) h.ends_there;
      clean = there.1;
    }

pub name_stands : (bytes : List ℕ) (i from end : ℕ) (values : Forest) (frames : List Frame) (first : Lexeme) → i ≤ length bytes → after (take i bytes) ≡ reading values frames (naming first from) → IsClean bytes i → EndsAt bytes i first end kinds.Text → Stands bytes end (named (record { start = from; end = end })) values frames
name_stands bytes i from end values frames first low e clean h =
    let there = run_word bytes values frames (λ word. naming word from) (within_name values frames from) i first end h.word h.passes e clean in
    record {
      inside = passes_high bytes i first end h.word low h.passes;
      state = ap (settled end) there.0 ∙ settled_name_by end from values frames h.word h.ends_there;
      goes = λ lt. ap (λ s. step end s (get_or bytes end 0)) there.0 ∙ ap (name_goes end values frames h.word from (get_or bytes end 0)) (h.over lt) ∙ ap (name_end end values frames from (get_or bytes end 0)) h.ends_there;
      clean = there.1;
    }

-- ---- the end of the bytes

value_back_settled : (i : ℕ) (values : Forest) (frames : List Frame) (word : Lexeme) (from : ℕ) (name : Option Span) (r : List ℕ) (whole : Forest) (o : Option Kind) → ends word ≡ o → FromState (settled_value i values frames word from name o) i r whole → FromDoing frames values (value word from name) i r whole
value_back_settled i values frames word from name r whole None e h = h
value_back_settled i values frames word from name r whole (Some kind) e h = (i, r, kind, done e, h)

name_back_settled : (i : ℕ) (values : Forest) (frames : List Frame) (word : Lexeme) (from : ℕ) (r : List ℕ) (whole : Forest) (o : Option Kind) → ends word ≡ o → FromState (settled_name i values frames word from o) i r whole → FromDoing frames values (naming word from) i r whole
name_back_settled i values frames word from r whole None e h = h
name_back_settled i values frames word from r whole (Some kinds.Text) e h = (i, r, done e, h)
name_back_settled i values frames word from r whole (Some kinds.Null) e h = h
name_back_settled i values frames word from r whole (Some (kinds.Flag on)) e h = h
name_back_settled i values frames word from r whole (Some kinds.Number) e h = h
name_back_settled i values frames word from r whole (Some kinds.List) e h = h
name_back_settled i values frames word from r whole (Some kinds.Map) e h = h

settled_back : (i : ℕ) (state : State) (r : List ℕ) (whole : Forest) → FromState (settled i state) i r whole → FromState state i r whole
settled_back i refused r whole h = h
settled_back i (reading values frames (part here)) r whole h = h
settled_back i (reading values frames (value word from name)) r whole h = value_back_settled i values frames word from name r whole (ends word) refl h
settled_back i (reading values frames (naming word from)) r whole h = name_back_settled i values frames word from r whole (ends word) refl h

no_frames : (frames : List Frame) → level_of frames ≡ None → frames ≡ []
no_frames [] e = refl
no_frames (frame ∷ outer) e = some_none _ _ e

-- a text that ends between two words ends behind its value
ends_behind : (i : ℕ) (state : State) (here : Part) (v : Forest) (f : List Frame) (whole : Forest) → settled i state ≡ reading v f (part here) → FromState state i [] whole → (f ≡ []) × (here ≡ rest)
ends_behind i refused here v f whole e h = absurd h
ends_behind i (reading values frames (part there)) here v f whole e h =
    let nothing = no_more (level_of frames) there i h.0 h.1 h.2 h.3 in
    let none = no_frames frames nothing.0 in
    let same : frames ≡ f = cc in
    let there_is : there ≡ here = cc in
    (sym same ∙ none, sym there_is ∙ nothing.1)
ends_behind i (reading values frames (value word from name)) here v f whole e h = value_behind i values frames word from name here v f whole h.0 h.1 h.2 e h.3 h.4
  where
    value_behind : (i : ℕ) (values : Forest) (frames : List Frame) (word : Lexeme) (from : ℕ) (name : Option Span) (here : Part) (v : Forest) (f : List Frame) (whole : Forest) (j : ℕ) (t : List ℕ) (kind : Kind) → settled_value i values frames word from name (ends word) ≡ reading v f (part here) → Spells word i [] j t kind → FromPart frames (append values (one (spot kind from j name) empty)) rest j t whole → (f ≡ []) × (here ≡ rest)
    value_behind i values frames word from name here v f whole j t kind e (done is) h =
        let both : reading (append values (one (spot kind from i name) empty)) frames (part rest) ≡ reading v f (part here) = sym (ap (settled_value i values frames word from name) is) ∙ e in
        let same : frames ≡ f = cc in
        let there_is : rest ≡ here = cc in
        let nothing = no_more (level_of frames) rest i h.0 h.1 h.2 h.3 in
        (sym same ∙ no_frames frames nothing.0, sym there_is)
ends_behind i (reading values frames (naming word from)) here v f whole e h = name_behind frames values word from i h.0 h.1 kinds.Text whole h.2 h.3
  where
    name_behind : (frames : List Frame) (values : Forest) (word : Lexeme) (from i j : ℕ) (t : List ℕ) (kind : Kind) (whole : Forest) → Spells word i [] j t kind → FromPart frames values (named (record { start = from; end = j })) j t whole → (f ≡ []) × (here ≡ rest)
    name_behind frames values word from i j t kind whole (done is) h = not_named (record { start = from; end = i }) _ (no_more (level_of frames) (named (record { start = from; end = i })) i h.0 h.1 h.2 h.3).1

-- the state after all bytes
at_the_end : (bytes : List ℕ) (at : ℕ) → at ≡ length bytes → after (take at bytes) ≡ after bytes
at_the_end bytes at e = ap (λ k. after (take k bytes)) e ∙ ap after (take-length bytes)

whole_state : (bytes : List ℕ) (text : Forest) → IsText bytes text → FromState (after bytes) (length bytes) [] text
whole_state bytes text t = text_forth bytes [] text (subst (λ b. IsText b text) (sym (append-nil bytes)) t)

pub text_ends : (bytes : List ℕ) (at : ℕ) (here : Part) (values : Forest) (frames : List Frame) → Stands bytes at here values frames → at ≡ length bytes → here ≡ rest → frames ≡ [] → IsText bytes values
text_ends bytes at here values frames h e is none =
    let state : settled (length bytes) (after bytes) ≡ reading values [] (part rest) =
    ap (λ k. settled k (after bytes)) (sym e) ∙ ap (settled at) (sym (at_the_end bytes at e)) ∙ h.state ∙ ap (λ f. reading values f (part here)) none ∙ ap (λ p. reading values [] (part p)) is in
    let finished : FromState (reading values [] (part rest)) (length bytes) [] values = (length bytes, [], empty, finish refl, (refl, sym (append-empty values))) in
    subst (λ b. IsText b values) (append-nil bytes) (text_back bytes [] values (settled_back (length bytes) (after bytes) [] values (subst (λ s. FromState s (length bytes) [] values) (sym state) finished)))

pub text_short : (bytes : List ℕ) (at : ℕ) (here : Part) (values : Forest) (frames : List Frame) → Stands bytes at here values frames → at ≡ length bytes → (here ≡ rest → frames ≡ [] → ⊥) → IsFirstBad bytes at
text_short bytes at here values frames h e open_yet = record {
  bad = short e (λ text t. (λ (both : (frames ≡ []) × (here ≡ rest)). open_yet both.1 both.0)
      (ends_behind (length bytes) (after bytes) here values frames text (ap (λ k. settled k (after bytes)) (sym e) ∙ ap (settled at) (sym (at_the_end bytes at e)) ∙ h.state) (whole_state bytes text t)));
  before = h.clean;
}

take_past : (bytes : List ℕ) (at : ℕ) → at ≡ length bytes → take (suc at) bytes ≡ take at bytes
take_past bytes at e = take_all (suc at) bytes (omega (arith, e)) ∙ sym (take_all at bytes (omega (arith, e)))

-- a text has no fault anywhere
pub text_clean : (bytes : List ℕ) (at : ℕ) (here : Part) (values : Forest) (frames : List Frame) → Stands bytes at here values frames → at ≡ length bytes → IsText bytes values → IsClean bytes (suc at)
text_clean bytes at here values frames h e text = clean_more bytes at h.clean not_bad (λ d. same_count (open_count (after (take at bytes))) d.0 (ap (λ b. open_count (after b)) (sym (take_past bytes at e)) ∙ d.1))
  where
    not_bad : ¬ IsBad bytes at
    not_bad (dead lt none) = omega (arith, e, lt)
    not_bad (short e none) = none values text
    not_bad (lone l) = not_lone_here bytes at here values frames h l
