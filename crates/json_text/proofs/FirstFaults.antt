-- There is at most one first fault, and none in a text.
use Rattle.std.proofs.Common.{◌≡◌, ◌≢◌, ◌⊎◌, inl, inr, ℕ, suc, ◌+◌, ◌<◌, ◌≤◌, Bool, true, ◌&&◌, not, List, [], ◌∷◌, length, take, get_or, Some, None, refl, sym, ap, subst, ◌∙◌, arith}
use Rattle.std.proofs.lemmas.Bool.{cases_lt}
use Rattle.std.proofs.lemmas.List.{take_all}
use Rattle.json_text.specs.declared.error.JsonErr.{JsonErr}
use Rattle.json_text.specs.declared.error.JsonErr.TheVariants.{Bad, Deep, NoMemory}
use Rattle.json_text.specs.declared.spot.Entry.{Entry}
use Rattle.json_text.specs.declared.part.Part.TheVariants.{Start as start}
use Rattle.json_lexemes.specs.declared.lexeme.Lexeme.TheVariants.{Plain as plain, Escape as escape}
use Rattle.json_text.specs.Forest.{Forest, count}
use Rattle.json_lexemes.specs.Lexeme.{next, is_high_surrogate, is_low_surrogate}
use Rattle.json_text.specs.Grammar.{Completes, blank, word, nested, member_name, turn, close, takes_name, turns, closes}
use Rattle.json_text.specs.Progress.{part, value, naming, State, refused, reading, step, value_goes, name_goes, after}
use Rattle.json_text.specs.Faults.{open_count, word_of, is_lone, is_numbered, is_high_escape, is_low_escape, unit_of, IsBad, dead, short, lone, IsDeep, IsClean, IsFirstBad, IsFirstDeep}
use Rattle.json_text.specs.Reading.{Holds, IsCause}
use Rattle.json_text.proofs.Tables.{false_true, none_some, or_yes, and_yes, is_it}
use Rattle.json_text.proofs.Fronts.{front_of_text}
use Rattle.json_text.proofs.Standing.{after_more}
use Rattle.json_lexemes.proofs.Escapes.{short_not_numbered}
use Rattle.json_text.proofs.Kept.{length-entries}

lone_numbered : (high : Bool) (bytes : List ℕ) (at : ℕ) → is_lone high bytes at ≡ true → is_numbered bytes at ≡ true
lone_numbered high bytes at h = elim (or_yes (is_high_escape bytes at && not (is_low_escape bytes (at + 6))) (is_low_escape bytes at && not high) h) [
  | inl a ↦ (and_yes (is_numbered bytes at) (is_high_surrogate (unit_of bytes at)) (and_yes (is_high_escape bytes at) (not (is_low_escape bytes (at + 6))) a).0).0
  | inr b ↦ (and_yes (is_numbered bytes at) (is_low_surrogate (unit_of bytes at)) (and_yes (is_low_escape bytes at) (not high) b).0).0
]

numbered_backslash : (bytes : List ℕ) (at : ℕ) → is_numbered bytes at ≡ true → get_or bytes at 0 ≡ 92
unfolding is_numbered
numbered_backslash bytes at h = is_it (get_or bytes at 0) 92 (and_yes _ _ (and_yes _ _ (and_yes _ _ (and_yes _ _ (and_yes _ _ h).0).0).0).0).0

numbered_inside : (bytes : List ℕ) (at : ℕ) → is_numbered bytes at ≡ true → at < length bytes
numbered_inside bytes at h = elim (cases_lt at (length bytes)) [ inl lt ↦ lt | inr past ↦ false_true _ (sym (short_not_numbered bytes at (omega (arith, past))) ∙ h) ]

bad_inside : (bytes : List ℕ) (at : ℕ) → IsBad bytes at → at ≤ length bytes
bad_inside bytes at (dead lt none) = omega (arith, lt)
bad_inside bytes at (short e none) = omega (arith, e)
bad_inside bytes at (lone l) = omega (arith, numbered_inside bytes at (lone_numbered l.0 bytes at l.2))

deep_inside : (bytes : List ℕ) (at : ℕ) → IsDeep bytes at → at < length bytes
deep_inside bytes at d = elim (cases_lt at (length bytes)) [ inl lt ↦ lt | inr past ↦ absurd (unequal (open_count (after (take at bytes))) d.0 (ap (λ b. open_count (after b)) (take_all at bytes past ∙ sym (take_all (suc at) bytes (omega (arith, past)))) ∙ d.1)) ]
  where
    unequal : (n : ℕ) → n ≡ 64 → n ≡ 65 → ⊥
    unequal n a b = omega (arith, a, b)

-- where a text is whole nothing is a fault
pub no_bad : (bytes : List ℕ) (at : ℕ) → IsClean bytes (length bytes + 1) → IsFirstBad bytes at → ⊥
no_bad bytes at clean h = (clean at (omega (arith, bad_inside bytes at h.bad))).0 h.bad

pub no_deep : (bytes : List ℕ) (at : ℕ) → IsClean bytes (length bytes + 1) → IsFirstDeep bytes at → ⊥
no_deep bytes at clean h = (clean at (omega (arith, deep_inside bytes at h.deep))).1 h.deep

escape_next : (high : Bool) → next (plain high) 92 ≡ Some escape
unfolding next
escape_next high = refl

escape_count : (i : ℕ) (state : State) (high : Bool) (byte : ℕ) → word_of state ≡ Some (plain high) → byte ≡ 92 → open_count (step i state byte) ≡ open_count state
escape_count i refused high byte e is = none_some _ _ e
escape_count i (reading values frames (part here)) high byte e is = none_some _ _ e
escape_count i (reading values frames (value q from name)) high byte e is =
    let same : q ≡ plain high = cc in
    ap (λ x. open_count (value_goes i values frames q from name byte x)) (ap (λ w. next w byte) same ∙ ap (next (plain high)) is ∙ escape_next high)
escape_count i (reading values frames (naming q from)) high byte e is =
    let same : q ≡ plain high = cc in
    ap (λ x. open_count (name_goes i values frames q from byte x)) (ap (λ w. next w byte) same ∙ ap (next (plain high)) is ∙ escape_next high)

counted_not_refused : (state : State) → open_count state ≡ 65 → state ≢ refused
counted_not_refused state e r = omega (arith, e, ap open_count r)

-- no place is both bad and too deep
not_both : (bytes : List ℕ) (at : ℕ) → IsBad bytes at → IsDeep bytes at → ⊥
not_both bytes at (dead lt none) d = none (front_of_text (take (suc at) bytes) (counted_not_refused (after (take (suc at) bytes)) d.1))
not_both bytes at (short e none) d = omega (arith, e, deep_inside bytes at d)
not_both bytes at (lone l) d =
    let numbered = lone_numbered l.0 bytes at l.2 in
    let inside = numbered_inside bytes at numbered in
    unequal (open_count (after (take at bytes))) d.0 (sym (escape_count at (after (take at bytes)) l.0 (get_or bytes at 0) l.1 (numbered_backslash bytes at numbered)) ∙ ap open_count (sym (after_more bytes at inside)) ∙ d.1)
  where
    unequal : (n : ℕ) → n ≡ 64 → n ≡ 65 → ⊥
    unequal n a b = omega (arith, a, b)

order : (a b : ℕ) → (a < b) ⊎ ((b < a) ⊎ (a ≡ b))
order a b = elim (cases_lt a b) [ inl lt ↦ inl lt | inr ge ↦ elim (cases_lt b a) [ inl lt ↦ inr (inl lt) | inr le ↦ inr (inr (omega (arith, ge, le))) ] ]

pub same_bad : (bytes : List ℕ) (a b : ℕ) → IsFirstBad bytes a → IsFirstBad bytes b → a ≡ b
same_bad bytes a b ha hb = elim (order a b) [
  | inl lt ↦ absurd ((hb.before a lt).0 ha.bad)
  | inr (inl gt) ↦ absurd ((ha.before b gt).0 hb.bad)
  | inr (inr e) ↦ e
]

pub same_deep : (bytes : List ℕ) (a b : ℕ) → IsFirstDeep bytes a → IsFirstDeep bytes b → a ≡ b
same_deep bytes a b ha hb = elim (order a b) [
  | inl lt ↦ absurd ((hb.before a lt).1 ha.deep)
  | inr (inl gt) ↦ absurd ((ha.before b gt).1 hb.deep)
  | inr (inr e) ↦ e
]

pub not_bad_and_deep : (bytes : List ℕ) (a b : ℕ) → IsFirstBad bytes a → IsFirstDeep bytes b → ⊥
not_bad_and_deep bytes a b ha hb = elim (order a b) [
  | inl lt ↦ (hb.before a lt).0 ha.bad
  | inr (inl gt) ↦ (ha.before b gt).1 hb.deep
  | inr (inr e) ↦ not_both bytes a ha.bad (subst (IsDeep bytes) (sym e) hb.deep)
]

-- the cause of an error settles which error it is
pub bad_is : (bytes : List ℕ) (error : JsonErr) (at : ℕ) → IsCause bytes error → IsFirstBad bytes at → (error ≡ Bad at) ⊎ (error ≡ NoMemory)
bad_is bytes (Bad place) at cause h = inl (ap Bad (same_bad bytes place at cause h))
bad_is bytes (Deep place) at cause h = absurd (not_bad_and_deep bytes at place h cause)
bad_is bytes NoMemory at cause h = inr refl

pub deep_is : (bytes : List ℕ) (error : JsonErr) (at : ℕ) → IsCause bytes error → IsFirstDeep bytes at → (error ≡ Deep at) ⊎ (error ≡ NoMemory)
deep_is bytes (Bad place) at cause h = absurd (not_bad_and_deep bytes place at cause h)
deep_is bytes (Deep place) at cause h = inl (ap Deep (same_deep bytes place at cause h))
deep_is bytes NoMemory at cause h = inr refl

-- a text has a value
has_value : (i j : ℕ) (s t : List ℕ) (values : Forest) → Completes None start i s j t values → 0 < count values
unfolding takes_name turns closes
has_value i j (byte ∷ s) t values (blank b c) = has_value (suc i) j s t values c
has_value i j (byte ∷ s) t values (word takes b spells c) = omega arith
has_value i j (byte ∷ s) t values (nested takes o inner c) = omega arith
has_value i j (byte ∷ s) t values (member_name takes e spells c) = false_true _ takes
has_value i j (byte ∷ s) t values (turn q c) = none_some _ _ q
has_value i j (byte ∷ s) t values (close c) = false_true _ c
has_value i j [] t values h = elim h [ ]

pub some_values : (bytes : List ℕ) (nodes : List Entry) → Holds bytes nodes → 0 < length nodes
some_values bytes nodes h = omega (arith, ap length h.nodes_are, length-entries 0 h.values, has_value 0 (length bytes) bytes [] h.values h.text)
