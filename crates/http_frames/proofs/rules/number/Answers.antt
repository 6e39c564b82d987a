use Rattle.std.proofs.Common.{ℕ, ◌<◌, ◌+◌, ◌*◌, get_or, take, sym, ap, ◌∙◌, arith}
use Rattle.std.specs.Str.Parse.{digits_value}
use Rattle.std.proofs.lemmas.Int.Digits.{digits_value_more}
use Rattle.http_frames.proofs.LengthLemmas.{length_digits, digit_is, digit_more, below_top}
use Rattle.http_frames.proofs.rules.number.Goals as goal

pub overflow_mul-number : goal.overflow_mul-number
overflow_mul-number c =
    let is = length_digits c.args.digits.now c.requires in
    omega (arith, is.short, digit_more _ 0 _ c.loop-digit.invariant.small (omega arith), below_top c.loop-digit.digit-index (omega (arith, is.short)))

pub overflow_sub-digit : goal.overflow_sub-digit
overflow_sub-digit c =
    let is = length_digits c.args.digits.now c.requires in
    (digit_is (get_or c.args.digits.now c.loop-digit.digit-index 0) (is.digits c.loop-digit.digit-index c.loop-digit-test.true)).0

pub overflow_add-number : goal.overflow_add-number
overflow_add-number c =
    let is = length_digits c.args.digits.now c.requires in
    let digit = digit_is (get_or c.args.digits.now c.loop-digit.digit-index 0) (is.digits c.loop-digit.digit-index c.loop-digit-test.true) in
    let small : c.from.result < 10 = omega (arith, digit.1, c.from.ensures) in
    omega (arith, digit_more c.loop-digit.number c.from.result c.loop-digit.digit-index c.loop-digit.invariant.small small, below_top c.loop-digit.digit-index (omega (arith, is.short)))

pub loop-digit-preserved : goal.loop-digit-preserved
loop-digit-preserved c =
    let is = length_digits c.args.digits.now c.requires in
    let digit = digit_is (get_or c.args.digits.now c.loop-digit.digit-index 0) (is.digits c.loop-digit.digit-index c.loop-digit-test.true) in
    let small : c.from.result < 10 = omega (arith, digit.1, c.from.ensures) in
    record {
      small = digit_more _ _ _ c.loop-digit.invariant.small small;
      value = ap (λ (n : ℕ). n * 10 + c.from.result) c.loop-digit.invariant.value
          ∙ ap (λ (d : ℕ). digits_value 10 (take c.loop-digit.digit-index c.args.digits.now) * 10 + d) (c.from.ensures ∙ sym digit.2)
          ∙ sym (digits_value_more 10 c.args.digits.now c.loop-digit.digit-index c.loop-digit-test.true);
    }
