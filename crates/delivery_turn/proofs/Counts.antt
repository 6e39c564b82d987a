-- How many events of each kind a turn has.
use Rattle.std.proofs.Common.{◌≡◌, ℕ, ◌+◌, ◌≤◌, Bool, true, false, List, [], ◌∷◌, ◌++◌, refl, sym, ap, subst, ◌∙◌, arith}
use Rattle.policy_run.specs.Event.{Event}
use Rattle.delivery_turn.specs.declared.ending.Turn.{Turn}
use Rattle.delivery_turn.specs.Settling.{Own}
use Rattle.delivery_turn.specs.Delivery.{Setting, guarded, Delivery}
use Rattle.delivery_turn.specs.Kinds.{Kind, taking, kinds_of, one_if, so_many, is_settling, is_retry, is_call, is_refusal, is_report, is_draw, BeginsByTaking, IsUnspent}
use Rattle.delivery_turn.proofs.Shapes.{Middle, nothing, refused, told, bare, untold, Ending, once, retried, stays, drawn, Shape, none, alone, more, shape}

many_on : (is : Kind → Bool) (xs ys : List Kind) → so_many is (xs ++ ys) ≡ so_many is xs + so_many is ys
many_on is [] ys =
    let all : so_many is ([] ++ ys) ≡ so_many is ys = refl in
    let none_here : so_many is [] ≡ 0 = refl in
    omega (arith, all, none_here)
many_on is (kind ∷ xs) ys =
    let all : so_many is ((kind ∷ xs) ++ ys) ≡ one_if (is kind) + so_many is (xs ++ ys) = refl in
    let here : so_many is (kind ∷ xs) ≡ one_if (is kind) + so_many is xs = refl in
    omega (arith, all, here, many_on is xs ys)

-- what is not counted in a taking is counted in the two parts behind it
taken_sum : (is : Kind → Bool) → is taking ≡ false → (kinds served first rest : List Kind) → kinds ≡ taking ∷ served → served ≡ first ++ rest → so_many is kinds ≡ so_many is first + so_many is rest
taken_sum is off kinds served first rest e w =
    let all : so_many is kinds ≡ one_if (is taking) + so_many is served = ap (so_many is) e in
    let here : one_if (is taking) ≡ 0 = ap one_if off in
    omega (arith, all, here, ap (so_many is) w, many_on is first rest)

-- ---- in each part

pub record InMiddle (kinds : List Kind) : Type 0 where
  pub settlings : so_many is_settling kinds ≡ 0
  pub retries : so_many is_retry kinds ≡ 0
  pub draws : so_many is_draw kinds ≡ 0
  pub calls : so_many is_call kinds + so_many is_refusal kinds ≤ 1

pub record InEnding (kinds : List Kind) : Type 0 where
  pub settlings : so_many is_settling kinds ≤ 1
  pub calls : so_many is_call kinds ≡ 0
  pub refusals : so_many is_refusal kinds ≡ 0
  pub reports : so_many is_report kinds ≡ 0

zero_low : (n : ℕ) → n ≡ 0 → n ≤ 1
zero_low n e = omega (arith, e)

one_low : (n : ℕ) → n ≡ 1 → n ≤ 1
one_low n e = omega (arith, e)

in_middle : (guard : Bool) (turn : Turn) (kinds : List Kind) → Middle guard turn kinds → InMiddle kinds
in_middle guard turn kinds (nothing e) = subst InMiddle (sym e) (record { settlings = refl; retries = refl; draws = refl; calls = zero_low _ refl })
in_middle guard turn kinds (refused e) = subst InMiddle (sym e) (record { settlings = refl; retries = refl; draws = refl; calls = one_low _ refl })
in_middle guard turn kinds (told e) = subst InMiddle (sym e) (record { settlings = refl; retries = refl; draws = refl; calls = one_low _ refl })
in_middle guard turn kinds (bare off e) = subst InMiddle (sym e) (record { settlings = refl; retries = refl; draws = refl; calls = one_low _ refl })
in_middle guard turn kinds (untold count spent e) = subst InMiddle (sym e) (record { settlings = refl; retries = refl; draws = refl; calls = one_low _ refl })

in_ending : (turn : Turn) (kinds : List Kind) → Ending turn kinds → InEnding kinds
in_ending turn kinds (once finish plain e) = subst InEnding (sym e) (record { settlings = one_low _ refl; calls = refl; refusals = refl; reports = refl })
in_ending turn kinds (retried e) = subst InEnding (sym e) (record { settlings = one_low _ refl; calls = refl; refusals = refl; reports = refl })
in_ending turn kinds (stays count spent e) = subst InEnding (sym e) (record { settlings = zero_low _ refl; calls = refl; refusals = refl; reports = refl })
in_ending turn kinds (drawn count spent e) = subst InEnding (sym e) (record { settlings = zero_low _ refl; calls = refl; refusals = refl; reports = refl })

-- where a breaker guards, each call in the first part is reported
told_each : (guard : Bool) (turn : Turn) (kinds : List Kind) → guard ≡ true → IsUnspent turn → Middle guard turn kinds → so_many is_report kinds ≡ so_many is_call kinds
told_each guard turn kinds on unspent (nothing e) = ap (so_many is_report) e ∙ sym (ap (so_many is_call) e)
told_each guard turn kinds on unspent (refused e) = ap (so_many is_report) e ∙ sym (ap (so_many is_call) e)
told_each guard turn kinds on unspent (told e) = ap (so_many is_report) e ∙ sym (ap (so_many is_call) e)
told_each guard turn kinds on unspent (bare off e) = let bad : ⊥ = cc in absurd bad
told_each guard turn kinds on unspent (untold count spent e) = absurd (unspent count spent)

-- a word is drawn for each settling with `Retry`
drawn_each : (turn : Turn) (kinds : List Kind) → IsUnspent turn → Ending turn kinds → so_many is_draw kinds ≡ so_many is_retry kinds
drawn_each turn kinds unspent (once finish plain e) = ap (so_many is_draw) e ∙ sym (ap (λ b. one_if b + 0) plain) ∙ sym (ap (so_many is_retry) e)
drawn_each turn kinds unspent (retried e) = ap (so_many is_draw) e ∙ sym (ap (so_many is_retry) e)
drawn_each turn kinds unspent (stays count spent e) = absurd (unspent count spent)
drawn_each turn kinds unspent (drawn count spent e) = absurd (unspent count spent)

-- ---- in a turn

module _ (guard : Bool) (turn : Turn) (kinds : List Kind) where
  settled_once : Shape guard turn kinds → so_many is_settling kinds ≤ 1
  settled_once (none e) = zero_low _ (ap (so_many is_settling) e)
  settled_once (alone e) = zero_low _ (ap (so_many is_settling) e)
  settled_once (more served s e) =
      omega (arith, taken_sum is_settling refl kinds served s.first s.rest e s.whole, (in_middle guard turn s.first s.middle).settlings, (in_ending turn s.rest s.ending).settlings)

  begins : Shape guard turn kinds → BeginsByTaking kinds
  begins (none e) = subst BeginsByTaking (sym e) tt
  begins (alone e) = subst BeginsByTaking (sym e) refl
  begins (more served s e) = subst BeginsByTaking (sym e) tt

  calls_reported : guard ≡ true → IsUnspent turn → Shape guard turn kinds → so_many is_report kinds ≡ so_many is_call kinds
  calls_reported on unspent (none e) = ap (so_many is_report) e ∙ sym (ap (so_many is_call) e)
  calls_reported on unspent (alone e) = ap (so_many is_report) e ∙ sym (ap (so_many is_call) e)
  calls_reported on unspent (more served s e) =
      let ending = in_ending turn s.rest s.ending in
      omega (arith, taken_sum is_report refl kinds served s.first s.rest e s.whole, taken_sum is_call refl kinds served s.first s.rest e s.whole, told_each guard turn s.first on unspent s.middle, ending.reports, ending.calls)

  words_drawn : IsUnspent turn → Shape guard turn kinds → so_many is_draw kinds ≡ so_many is_retry kinds
  words_drawn unspent (none e) = ap (so_many is_draw) e ∙ sym (ap (so_many is_retry) e)
  words_drawn unspent (alone e) = ap (so_many is_draw) e ∙ sym (ap (so_many is_retry) e)
  words_drawn unspent (more served s e) =
      let middle = in_middle guard turn s.first s.middle in
      omega (arith, taken_sum is_draw refl kinds served s.first s.rest e s.whole, taken_sum is_retry refl kinds served s.first s.rest e s.whole, drawn_each turn s.rest unspent s.ending, middle.draws, middle.retries)

  tried_once : Shape guard turn kinds → so_many is_call kinds + so_many is_refusal kinds ≤ 1
  tried_once (none e) = zero_low _ (ap (λ l. so_many is_call l + so_many is_refusal l) e)
  tried_once (alone e) = zero_low _ (ap (λ l. so_many is_call l + so_many is_refusal l) e)
  tried_once (more served s e) =
      let ending = in_ending turn s.rest s.ending in
      omega (arith, taken_sum is_call refl kinds served s.first s.rest e s.whole, taken_sum is_refusal refl kinds served s.first s.rest e s.whole, (in_middle guard turn s.first s.middle).calls, ending.calls, ending.refusals)

module _ (setting : Setting) (events : List (Event Own)) (turn : Turn) (d : Delivery setting events turn) where
  pub turn_settles_once : so_many is_settling (kinds_of events) ≤ 1
  turn_settles_once = settled_once (guarded setting) turn (kinds_of events) (shape setting events turn d)

  pub turn_begins : BeginsByTaking (kinds_of events)
  turn_begins = begins (guarded setting) turn (kinds_of events) (shape setting events turn d)

  pub turn_reports : guarded setting ≡ true → IsUnspent turn → so_many is_report (kinds_of events) ≡ so_many is_call (kinds_of events)
  turn_reports on unspent = calls_reported (guarded setting) turn (kinds_of events) on unspent (shape setting events turn d)

  pub turn_draws : IsUnspent turn → so_many is_draw (kinds_of events) ≡ so_many is_retry (kinds_of events)
  turn_draws unspent = words_drawn (guarded setting) turn (kinds_of events) unspent (shape setting events turn d)

  pub turn_tries_once : so_many is_call (kinds_of events) + so_many is_refusal (kinds_of events) ≤ 1
  turn_tries_once = tried_once (guarded setting) turn (kinds_of events) (shape setting events turn d)
