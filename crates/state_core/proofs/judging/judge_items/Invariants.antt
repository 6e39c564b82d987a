use Rattle.std.proofs.Common.{take, map}
use Rattle.state_core.specs.declared.command.Op.TheVariants.{Upsert}
use Rattle.state_core.specs.Judged.{judged_in}
use Rattle.state_core.proofs.Orders.{IsSoFar}
use Rattle.state_core.proofs.judging.judge_items.Given as goal

abbrev pub invariant-loop-place : goal.invariant-loop-place
invariant-loop-place g l =
    let rows = g.K.Keeper.rows l.keeper in
    let next = g.K.Keeper.next l.keeper in
    IsSoFar rows next l.moment (judged_in rows next l.moment (take l.place (map (λ item. Upsert item) l.items))) l.place l.batch l.refused
