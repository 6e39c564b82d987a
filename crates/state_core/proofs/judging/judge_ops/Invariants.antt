use Rattle.std.proofs.Common.{take, []}
use Rattle.state_core.specs.Judged.{judged_in}
use Rattle.state_core.proofs.Orders.{IsSoFar}
use Rattle.state_core.proofs.judging.judge_ops.Given as goal

abbrev pub invariant-loop-place : goal.invariant-loop-place
invariant-loop-place g l =
    let rows = g.K.Keeper.rows l.keeper in
    let next = g.K.Keeper.next l.keeper in
    IsSoFar rows next l.moment (judged_in rows next l.moment (take l.place l.ops)) l.place l.batch []
