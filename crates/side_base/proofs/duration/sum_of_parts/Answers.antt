use Rattle.std.proofs.Common.{◌≢◌, ◌+◌, ◌*◌, ◌-◌, ◌^◌, min, [], length, ap, ◌∙◌, arith, refl}
use Rattle.std.proofs.lemmas.List.{length-drop}
use Rattle.std.specs.Str.Parse.{digits_value}
use Rattle.side_base.specs.Decimal.{digits_at}
use Rattle.side_base.specs.Duration.{none}
use Rattle.side_base.proofs.Durations.{Parts-next, Parts-length, next_total}
use Rattle.side_base.proofs.duration.sum_of_parts.Goals as goal

pub loop-rest-init : goal.loop-rest-init
loop-rest-init c = (0, none, refl)

pub overflow_sub-result : goal.overflow_sub-result
overflow_sub-result c = Parts-length _ _ _ c.loop-rest.invariant.1

pub overflow_sub-result-in_default : goal.overflow_sub-result-in_default
overflow_sub-result-in_default c =
    rw c.split_digits.ensures.rest
    (omega (arith, Parts-length _ _ _ c.loop-rest.invariant.1, length-drop (length (digits_at c.loop-rest.rest.now)) c.loop-rest.rest.now))

pub loop-rest-preserved : goal.loop-rest-preserved
loop-rest-preserved c =
    let rest = c.loop-rest.rest.now in
    let ms = c.loop-rest.invariant.0 in
    let value = digits_value 10 (digits_at rest) in
    let digits : digits_at rest ≢ [] = λ none_here.
    (let answer = rw (c.split_digits.ensures.digits, none_here) at c.is_empty-in-loop-rest.ensures in cc)
    in (
      ms + value * c.in-Some.unit.ms,
      Parts-next rest c.args.text.now c.split_digits.result.1.now c.split_at.result.1.now ms c.in-Some.unit.letters c.in-Some.unit.ms
          c.split_digits.ensures.rest
          digits
          c.in-Some.ensures.some
          c.split_at.ensures.back
          c.loop-rest.invariant.1,
      next_total ms value c.in-Some.unit.ms (2 ^ 64 - 1) c.loop-rest.total c.number_of.result c.saturating_mul.result c.saturating_add-total.result
          c.in-Some.ensures.positive
          c.loop-rest.invariant.2
          (c.number_of.ensures ∙ ap (λ ds. min (digits_value 10 ds) (2 ^ 64 - 1)) c.split_digits.ensures.digits)
          c.saturating_mul.ensures
          c.saturating_add-total.ensures,
    )
