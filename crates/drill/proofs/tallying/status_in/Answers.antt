use Rattle.std.proofs.Common.{arith, length, ap}
use Rattle.drill.proofs.Tallies.{status_bytes, status_value}
use Rattle.drill.proofs.tallying.status_in.Goals as goal

pub returns-in_default : goal.returns-in_default
returns-in_default c = λ status behind is whole.
    let bytes = status_bytes c.args.bytes.now status behind is whole in
    absurd (omega (arith, c.in_default.len_below, ap length bytes))

pub returns-in-len12-up : goal.returns-in-len12-up
returns-in-len12-up c = λ status behind is whole.
    status_value c.args.bytes.now status behind c.digit.result c.digit-in-len12-up.result c.digit-in-len12-up-2.result is whole c.digit.ensures.value c.digit-in-len12-up.ensures.value c.digit-in-len12-up-2.ensures.value
