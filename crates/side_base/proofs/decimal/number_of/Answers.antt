use Rattle.std.proofs.Common.{◌<◌, ◌^◌, length, ◌-◌, get_or, take, arith}
use Rattle.std.specs.Str.Parse.{digits_value}
use Rattle.std.proofs.lemmas.Str.Parse.{digit_at}
use Rattle.std.proofs.lemmas.Int.Digits.{digits_value_more}
use Rattle.side_base.proofs.Decimals.{digit_value-is, min-mul-add}
use Rattle.side_base.proofs.decimal.number_of.Goals as goal

pub overflow_sub-digit : goal.overflow_sub-digit
overflow_sub-digit c = omega (arith, digit_at c.args.digits.now c.loop-digit.digit-index c.requires (omega arith))

pub loop-digit-preserved : goal.loop-digit-preserved
loop-digit-preserved c =
    let i = c.loop-digit.digit-index in
    let ds = c.args.digits.now in
    let within : i < length ds = omega arith in
    rw (
      digits_value_more 10 ds i within,
      digit_value-is (get_or ds i 0) (digit_at ds i c.requires within),
      c.saturating_add-number.ensures,
      c.saturating_mul.ensures,
      c.from.ensures,
      c.loop-digit.invariant,
    )
    (min-mul-add (digits_value 10 (take i ds)) 10 (get_or ds i 0 - 48) (2 ^ 64 - 1) (omega arith))
