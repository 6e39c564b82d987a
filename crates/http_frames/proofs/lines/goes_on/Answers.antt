use Rattle.std.proofs.Common.{arith}
use Rattle.http_frames.proofs.lines.goes_on.Goals as goal

pub returns-then-place : goal.returns-then-place
returns-then-place c = λ on.
    let is = c.requires in
    c.is_on.ensures on c.args.place.lines (omega (arith, c.if-place.true)) (is.opens c.if-place.true)
