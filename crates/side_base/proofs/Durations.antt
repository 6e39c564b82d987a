-- A text is read as a duration in one way.
use Rattle.std.proofs.Common.{◌≡◌, ◌≢◌, ◌<◌, ◌≤◌, ◌+◌, ◌-◌, ◌*◌, ◌⊎◌, ◌↔◌, ◌∙◌, inl, inr, ℕ, min, cond, leb, List, [], ◌∷◌, length, drop, Bool, true, false, Option, Some, None, IsSomeAnd, Result, Ok, Err, sym, ap, subst, arith, refl}
use Rattle.std.proofs.lemmas.Bool.{le-leb}
use Rattle.std.proofs.lemmas.Bool.Decides.{nat_tests}
use Rattle.std.proofs.lemmas.List.{length-drop}
use Rattle.std.specs.Str.Parse.{digits_value}
use Rattle.side_base.specs.declared.duration.DurationErr.{DurationErr}
use Rattle.side_base.specs.declared.duration.DurationErr.TheVariants.{Empty, BadUnit, BadDigit, TooLong}
use Rattle.side_base.specs.Limits.{greatest_duration}
use Rattle.side_base.specs.Decimal.{digits_at, after_digits}
use Rattle.side_base.specs.Duration.{TimeUnit, unit_at, Parts, none, part, IsDuration, LacksDigitAt, LacksUnitAt, PartsResult}
use Rattle.side_base.proofs.Decimals.{min-mul}

some_and : {A : Type 0} (P : A → Type 0) (o : Option A) → IsSomeAnd o P → (x : A) × (o ≡ Some x) × P x
some_and P None h = absurd h
some_and P (Some x) h = (x, refl, h)

-- one more part at the end
pub Parts-push : (rest : List ℕ) (unit : TimeUnit) → digits_at rest ≢ [] → unit_at (after_digits rest) ≡ Some unit → (text : List ℕ) (ms : ℕ) → Parts rest text ms
    → Parts (drop (length unit.letters) (after_digits rest)) text (ms + digits_value 10 (digits_at rest) * unit.ms)
Parts-push rest unit d u text ms none =
    subst (λ (m : ℕ). Parts (drop (length unit.letters) (after_digits rest)) rest m) (omega arith) (part rest unit 0 d u none)
Parts-push rest unit d u text ms (part t v n e w p) =
    subst (λ (m : ℕ). Parts (drop (length unit.letters) (after_digits rest)) t m) (omega arith)
    (part t v (n + digits_value 10 (digits_at rest) * unit.ms) e w (Parts-push rest unit d u _ n p))

-- the same where the pieces go by other names
Parts-at : (rest text after next : List ℕ) (ms letters scale : ℕ) → after ≡ after_digits rest → digits_at rest ≢ [] → (unit : TimeUnit) → unit_at after ≡ Some unit
    → letters ≡ length unit.letters → scale ≡ unit.ms → next ≡ drop letters after → Parts rest text ms
    → Parts next text (ms + digits_value 10 (digits_at rest) * scale)
Parts-at rest text after next ms letters scale a digits unit ahead l m n p =
    let here : unit_at (after_digits rest) ≡ Some unit = ap unit_at (sym a) ∙ ahead in
    rw (n, a, l, m) (Parts-push rest unit digits here text ms p)

pub Parts-next : (rest text after next : List ℕ) (ms letters scale : ℕ) → after ≡ after_digits rest → digits_at rest ≢ []
    → IsSomeAnd (unit_at after) (λ unit. (letters ≡ length unit.letters) × (scale ≡ unit.ms)) → next ≡ drop letters after → Parts rest text ms
    → Parts next text (ms + digits_value 10 (digits_at rest) * scale)
Parts-next rest text after next ms letters scale a digits found n p =
    let (unit, ahead, is) = some_and _ (unit_at after) found in
    Parts-at rest text after next ms letters scale a digits unit ahead is.0 is.1 n p

pub Parts-length : (rest text : List ℕ) (ms : ℕ) → Parts rest text ms → length rest ≤ length text
Parts-length rest text ms none = omega arith
Parts-length rest text ms (part t v n e w p) =
    omega (arith, Parts-length rest _ n p, length-drop (length v.letters) (after_digits t), length-drop (length (digits_at t)) t)

-- the milliseconds so far and those of one more part, cut off at each step
pub next_total : (ms value unit limit total number product sum : ℕ) → 1 ≤ unit → total ≡ min ms limit → number ≡ min value limit → product ≡ min (number * unit) limit → sum ≡ min (total + product) limit
    → sum ≡ min (ms + value * unit) limit
next_total ms value unit limit total number product sum pos a b e f =
    let whole : min (min value limit * unit) limit ≡ min (value * unit) limit = min-mul value unit limit pos in
    let g : product ≡ min (value * unit) limit = rw b at e ∙ whole in
    rw f (rw (a, g) (omega arith))

-- no part stands here
abbrev pub IsStuck : List ℕ → Type 0
IsStuck rest = (unit : TimeUnit) → digits_at rest ≢ [] → unit_at (after_digits rest) ≡ Some unit → ⊥

-- no part stands here, or one does
abbrev Step : List ℕ → List ℕ → ℕ → Type 0
Step rest text ms =
    ((text ≡ rest) × (ms ≡ 0))
    ⊎ ((unit : TimeUnit) × (n : ℕ) × (digits_at text ≢ []) × (unit_at (after_digits text) ≡ Some unit) × Parts rest (drop (length unit.letters) (after_digits text)) n
    × (ms ≡ digits_value 10 (digits_at text) * unit.ms + n))

Parts-step : (rest text : List ℕ) (ms : ℕ) → Parts rest text ms → Step rest text ms
Parts-step rest text ms none = inl (refl, refl)
Parts-step rest text ms (part t v n e w p) = inr (v, n, e, w, p, refl)

-- parts up to where none stands are those parts and no others
pub Parts-same : (rest other : List ℕ) → IsStuck rest → IsStuck other → (text : List ℕ) (ms : ℕ) → Parts rest text ms → (n : ℕ) → Parts other text n → (rest ≡ other) × (ms ≡ n)
Parts-same rest other s o text ms none n q =
    elim (Parts-step other rest n q) [
      | inl (same, zero_ms) ↦ (same, sym zero_ms)
      | inr (unit, m, digits, ahead, more, is) ↦ absurd (s unit digits ahead)
    ]
Parts-same rest other s o text ms (part t v k e w p) n q =
    elim (Parts-step other t n q) [
      | inl (same, zero_ms) ↦ absurd (subst IsStuck (sym same) o v e w)
      | inr (unit, m, digits, ahead, more, is) ↦
          (let one : unit ≡ v = cc in
          let q2 = subst (λ (u : TimeUnit). Parts other (drop (length u.letters) (after_digits t)) m) one more in
          let ends = Parts-same rest other s o _ k p m q2 in
          (ends.0, ap (λ (x : ℕ). digits_value 10 (digits_at t) * v.ms + x) ends.1 ∙ ap (λ (u : TimeUnit). digits_value 10 (digits_at t) * u.ms + m) (sym one) ∙ sym is))
    ]

-- what the contract says of each answer
abbrev pub Answers : List ℕ → Result ℕ DurationErr → Type 0
Answers text (Ok ms) = IsDuration text ms × (ms ≤ greatest_duration)
Answers text (Err Empty) = text ≡ []
Answers text (Err (BadUnit at)) = LacksUnitAt text at
Answers text (Err (BadDigit at)) = LacksDigitAt text at
Answers text (Err TooLong) = (ms : ℕ) × IsDuration text ms × (greatest_duration < ms)

abbrev is_empty : List ℕ → Bool
is_empty [] = true
is_empty (x ∷ xs) = false

not_empty : (xs : List ℕ) → xs ≢ [] → is_empty xs ≡ false
not_empty [] h = absurd (h refl)
not_empty (x ∷ xs) h = refl

empty : (xs : List ℕ) → xs ≡ [] → is_empty xs ≡ true
empty [] h = refl
empty (x ∷ xs) h = cc

-- the answer where parts of these milliseconds stand before `rest`, and none stands there
abbrev answer_at : List ℕ → List ℕ → ℕ → Result ℕ DurationErr
answer_at text rest ms =
    cond (is_empty text) (Err Empty)
    (cond (is_empty rest) (cond (leb ms greatest_duration) (Ok ms) (Err TooLong))
    (cond (is_empty (digits_at rest)) (Err (BadDigit (length text - length rest))) (Err (BadUnit (length text - length (after_digits rest))))))

abbrev Canonical : List ℕ → Result ℕ DurationErr → Type 0
Canonical text r = (rest : List ℕ) × (ms : ℕ) × Parts rest text ms × IsStuck rest × (r ≡ answer_at text rest ms)

stuck_at_end : IsStuck []
stuck_at_end unit digits ahead = digits refl

stuck_without_digits : (rest : List ℕ) → digits_at rest ≡ [] → IsStuck rest
stuck_without_digits rest absent unit digits ahead = digits absent

stuck_without_unit : (rest : List ℕ) → unit_at (after_digits rest) ≡ None → IsStuck rest
stuck_without_unit rest absent unit digits ahead = cc

nothing_in : (xs : List ℕ) → length xs ≤ 0 → xs ≡ []
nothing_in [] h = refl
nothing_in (x ∷ xs) h = absurd (omega arith)

begins : (rest text : List ℕ) (ms : ℕ) → Parts rest text ms → rest ≢ [] → text ≢ []
begins rest text ms p some absent =
    some (nothing_in rest (let h : length text ≡ 0 = ap length absent in omega (arith, Parts-length rest text ms p)))

has_digits : (rest : List ℕ) → digits_at rest ≢ [] → rest ≢ []
has_digits rest some absent = some (ap digits_at absent)

canonical : (text : List ℕ) (r : Result ℕ DurationErr) → Answers text r → Canonical text r
canonical text (Ok ms) (h, within) =
    ([], ms, h.1, stuck_at_end, rw (not_empty text h.0, le-leb ms greatest_duration within) refl)
canonical [] (Err Empty) h = ([], 0, none, stuck_at_end, refl)
canonical (c ∷ cs) (Err Empty) h = cc
canonical text (Err (BadUnit at)) (rest, ms, parts, digits, absent, place) = (
  rest,
  ms,
  parts,
  stuck_without_unit rest absent,
  rw (not_empty text (begins rest text ms parts (has_digits rest digits)), not_empty rest (has_digits rest digits), not_empty (digits_at rest) digits, place) refl,
)
canonical text (Err (BadDigit at)) (rest, ms, parts, some, absent, place) = (
  rest,
  ms,
  parts,
  stuck_without_digits rest absent,
  rw (not_empty text (begins rest text ms parts some), not_empty rest some, empty (digits_at rest) absent, place) refl,
)
canonical text (Err TooLong) (ms, h, over) = (
  [],
  ms,
  h.1,
  stuck_at_end,
  (let long : leb ms greatest_duration ≡ false = grind (arith, nat_tests) in rw (not_empty text h.0, long) refl),
)

-- a text has one answer
pub Answers-same : (text : List ℕ) (r s : Result ℕ DurationErr) → Answers text r → Answers text s → r ≡ s
Answers-same text r s h k =
    let (rest, ms, parts, stuck, is) = canonical text r h in
    let (other, n, others, stuck_too, is_too) = canonical text s k in
    let same = Parts-same rest other stuck stuck_too text ms parts n others in
    cc

-- so an answer that meets its own clause meets each of the others
pub answers : (text : List ℕ) (r : Result ℕ DurationErr) → Answers text r → (s : Result ℕ DurationErr) → (r ≡ s) ↔ Answers text s
answers text r h s = (λ e. subst (Answers text) e h, λ k. Answers-same text r s h k)

-- what `sum_of_parts` gives of a text that is not empty, where the sum is within the limit, beyond it, or not there
pub Answers-within : (text : List ℕ) (total : ℕ) → text ≢ [] → PartsResult text (Ok total) → total ≤ greatest_duration → Answers text (Ok total)
Answers-within text total some (ms, parts, is) within =
    let whole : ms ≡ total = omega arith in
    ((some, subst (λ (n : ℕ). Parts [] text n) whole parts), within)

pub Answers-beyond : (text : List ℕ) (total : ℕ) → text ≢ [] → PartsResult text (Ok total) → greatest_duration < total → Answers text (Err TooLong)
Answers-beyond text total some (ms, parts, is) over = (ms, (some, parts), omega arith)

pub Answers-stopped : (text : List ℕ) (e : DurationErr) → PartsResult text (Err e) → Answers text (Err e)
Answers-stopped text Empty h = absurd h
Answers-stopped text TooLong h = absurd h
Answers-stopped text (BadUnit at) h = h
Answers-stopped text (BadDigit at) h = h
