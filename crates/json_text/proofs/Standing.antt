-- From place to place: what a byte or a word does to a reader that stands between two words.
use Rattle.std.proofs.Common.{◌≡◌, ◌≢◌, inl, inr, ℕ, suc, ◌+◌, ◌<◌, Bool, List, [], ◌∷◌, ◌++◌, length, take, take-suc, get_or, Option, Some, None, refl, sym, ap, subst, ◌∙◌, arith}
use Rattle.std.proofs.lemmas.Bool.{cases_lt}
use Rattle.std.proofs.lemmas.List.{length-take-le}
use Rattle.json_lexemes.specs.declared.kind.Kind.{Kind}
use Rattle.json_lexemes.specs.declared.kind.Kind.TheVariants as kinds
use Rattle.json_text.specs.declared.spot.Span.{Span}
use Rattle.json_text.specs.declared.part.Part.{Part}
use Rattle.json_lexemes.specs.declared.lexeme.Lexeme.{Lexeme}
use Rattle.json_lexemes.specs.declared.lexeme.Lexeme.TheVariants.{Plain as plain}
use Rattle.json_text.specs.Forest.{Forest}
use Rattle.json_lexemes.specs.Lexeme.{ends}
use Rattle.json_text.specs.Progress.{Frame, Doing, part, value, naming, State, refused, reading, step, part_step, after_from, after, first_state}
use Rattle.json_text.specs.Faults.{open_count, word_of, IsLoneAt, IsBad, dead, short, lone, IsDeep, IsClean, IsFirstBad, IsFirstDeep}
use Rattle.json_text.specs.Reading.{settled, settled_value, settled_name, Stands}
use Rattle.json_text.proofs.Tables.{none_some}
use Rattle.json_text.proofs.Fronts.{front_of_text, no_text}

after_last : (p : List ℕ) (byte i : ℕ) (state : State) → after_from i state (p ++ byte ∷ []) ≡ step (i + length p) (after_from i state p) byte
unfolding after_from
after_last [] byte i state = let e : i ≡ i + 0 = omega arith in ap (λ k. step k state byte) e
after_last (b ∷ p) byte i state = let e : suc i + length p ≡ i + suc (length p) = omega arith in after_last p byte (suc i) (step i state b) ∙ ap (λ k. step k (after_from (suc i) (step i state b) p) byte) e

-- one byte further
pub after_more : (bytes : List ℕ) (at : ℕ) → at < length bytes → after (take (suc at) bytes) ≡ step at (after (take at bytes)) (get_or bytes at 0)
after_more bytes at h =
    let e : 0 + length (take at bytes) ≡ at = omega (arith, length-take-le at bytes (omega (arith, h))) in
    ap after (take-suc bytes at 0 h) ∙ after_last (take at bytes) (get_or bytes at 0) 0 first_state ∙ ap (λ k. step k (after (take at bytes)) (get_or bytes at 0)) e

pub reading_not_refused : (values : Forest) (frames : List Frame) (doing : Doing) (state : State) → state ≡ reading values frames doing → state ≢ refused
reading_not_refused values frames doing state e r = let bad : ⊥ = cc in bad

-- ---- what is not wrong at a place

-- one more place without a fault
pub clean_more : (bytes : List ℕ) (at : ℕ) → IsClean bytes at → ¬ IsBad bytes at → ¬ IsDeep bytes at → IsClean bytes (suc at)
clean_more bytes at clean good flat k lt = elim (cases_lt k at) [ inl before ↦ clean k before | inr past ↦ (λ b. good (subst (IsBad bytes) (let e : k ≡ at = omega (arith, lt, past) in e) b), λ d. flat (subst (IsDeep bytes) (let e : k ≡ at = omega (arith, lt, past) in e) d)) ]

pub good_here : (bytes : List ℕ) (at : ℕ) → at < length bytes → after (take (suc at) bytes) ≢ refused → ¬ IsLoneAt bytes at → ¬ IsBad bytes at
good_here bytes at lt alive paired (dead h none) = none (front_of_text (take (suc at) bytes) alive)
good_here bytes at lt alive paired (short e none) = omega (arith, e, lt)
good_here bytes at lt alive paired (lone h) = paired h

pub not_deep : (bytes : List ℕ) (at n m : ℕ) → open_count (after (take at bytes)) ≡ n → open_count (after (take (suc at) bytes)) ≡ m → (n ≡ 64 → m ≡ 65 → ⊥) → ¬ IsDeep bytes at
not_deep bytes at n m en em h d = h (sym en ∙ d.0) (sym em ∙ d.1)

-- ---- between two words

value_settled_word : (i : ℕ) (values : Forest) (frames : List Frame) (word : Lexeme) (from : ℕ) (name : Option Span) (o : Option Kind) (here : Part) (v : Forest) (f : List Frame) → settled_value i values frames word from name o ≡ reading v f (part here) → (kind : Kind) × (o ≡ Some kind)
value_settled_word i values frames word from name None here v f e = absurd (let bad : ⊥ = cc in bad)
value_settled_word i values frames word from name (Some kind) here v f e = (kind, refl)

name_settled_word : (i : ℕ) (values : Forest) (frames : List Frame) (word : Lexeme) (from : ℕ) (o : Option Kind) (here : Part) (v : Forest) (f : List Frame) → settled_name i values frames word from o ≡ reading v f (part here) → (kind : Kind) × (o ≡ Some kind)
name_settled_word i values frames word from None here v f e = absurd (let bad : ⊥ = cc in bad)
name_settled_word i values frames word from (Some kind) here v f e = (kind, refl)

no_plain_end : (high : Bool) (kind : Kind) → ends (plain high) ≡ Some kind → ⊥
unfolding ends
no_plain_end high kind e = none_some kind ⊥ e

-- a reader between two words isn't between two characters of a string
pub settled_no_plain : (i : ℕ) (state : State) (here : Part) (v : Forest) (f : List Frame) (high : Bool) → settled i state ≡ reading v f (part here) → word_of state ≡ Some (plain high) → ⊥
settled_no_plain i refused here v f high e w = none_some _ ⊥ w
settled_no_plain i (reading values frames (part there)) here v f high e w = none_some _ ⊥ w
settled_no_plain i (reading values frames (value word from name)) here v f high e w =
    let ended = value_settled_word i values frames word from name (ends word) here v f e in
    let is : word ≡ plain high = cc in
    no_plain_end high ended.0 (ap ends (sym is) ∙ ended.1)
settled_no_plain i (reading values frames (naming word from)) here v f high e w =
    let ended = name_settled_word i values frames word from (ends word) here v f e in
    let is : word ≡ plain high = cc in
    no_plain_end high ended.0 (ap ends (sym is) ∙ ended.1)

value_settled_count : (i : ℕ) (values : Forest) (frames : List Frame) (word : Lexeme) (from : ℕ) (name : Option Span) (o : Option Kind) → open_count (settled_value i values frames word from name o) ≡ length frames
value_settled_count i values frames word from name None = refl
value_settled_count i values frames word from name (Some kind) = refl

name_settled_count : (i : ℕ) (values : Forest) (frames : List Frame) (word : Lexeme) (from : ℕ) (o : Option Kind) → open_count (settled_name i values frames word from o) ≡ length frames
name_settled_count i values frames word from None = refl
name_settled_count i values frames word from (Some kinds.Text) = refl
name_settled_count i values frames word from (Some kinds.Null) = refl
name_settled_count i values frames word from (Some (kinds.Flag on)) = refl
name_settled_count i values frames word from (Some kinds.Number) = refl
name_settled_count i values frames word from (Some kinds.List) = refl
name_settled_count i values frames word from (Some kinds.Map) = refl

pub settled_count : (i : ℕ) (state : State) → open_count (settled i state) ≡ open_count state
settled_count i refused = refl
settled_count i (reading values frames (part here)) = refl
settled_count i (reading values frames (value word from name)) = value_settled_count i values frames word from name (ends word)
settled_count i (reading values frames (naming word from)) = name_settled_count i values frames word from (ends word)

module _ (bytes : List ℕ) (at : ℕ) (here : Part) (values : Forest) (frames : List Frame) (h : Stands bytes at here values frames) where
  pub count_here : open_count (after (take at bytes)) ≡ length frames
  count_here = sym (settled_count at (after (take at bytes))) ∙ ap open_count h.state

  pub not_lone_here : ¬ IsLoneAt bytes at
  not_lone_here l = settled_no_plain at (after (take at bytes)) here values frames l.0 h.state l.1

  pub state_next : at < length bytes → after (take (suc at) bytes) ≡ part_step at values frames here (get_or bytes at 0)
  state_next lt = after_more bytes at lt ∙ h.goes lt

  -- a byte leads on to a state in which no more is open than may be
  pub clean_next : (v : Forest) (f : List Frame) (doing : Doing) → at < length bytes → part_step at values frames here (get_or bytes at 0) ≡ reading v f doing → (length frames ≡ 64 → length f ≡ 65 → ⊥) → IsClean bytes (suc at)
  clean_next v f doing lt e flat =
      let there = state_next lt ∙ e in
      clean_more bytes at h.clean (good_here bytes at lt (reading_not_refused v f doing _ there) not_lone_here) (not_deep bytes at (length frames) (length f) count_here (ap open_count there) flat)

  -- a byte that leads to another part
  pub stands_next : (v : Forest) (f : List Frame) (there : Part) → at < length bytes → part_step at values frames here (get_or bytes at 0) ≡ reading v f (part there) → (length frames ≡ 64 → length f ≡ 65 → ⊥) → Stands bytes (suc at) there v f
  stands_next v f there lt e flat =
      let next_state = state_next lt ∙ e in
      record {
        inside = omega (arith, lt);
        state = ap (settled (suc at)) next_state;
        goes = λ more. ap (λ s. step (suc at) s (get_or bytes (suc at) 0)) next_state;
        clean = clean_next v f (part there) lt e flat;
      }

  -- a byte that can't come
  pub bad_next : at < length bytes → part_step at values frames here (get_or bytes at 0) ≡ refused → IsFirstBad bytes at
  bad_next lt e = record { bad = dead lt (λ front. no_text (take (suc at) bytes) front.0 front.1 (state_next lt ∙ e) front.2); before = h.clean }

  -- a bracket too many
  pub deep_next : (v : Forest) (f : List Frame) (doing : Doing) → at < length bytes → part_step at values frames here (get_or bytes at 0) ≡ reading v f doing → length frames ≡ 64 → length f ≡ 65 → IsFirstDeep bytes at
  deep_next v f doing lt e full over = record { deep = (count_here ∙ full, ap open_count (state_next lt ∙ e) ∙ over); before = h.clean }
