use Rattle.std.proofs.Common.{refl, subst, arith, [], ◌≡◌, ◌<◌, take, length}
use Rattle.state_core.specs.Judged.{judged_in}
use Rattle.state_core.specs.Batch.{HasStopped}
use Rattle.state_core.proofs.Orders.{so_far_none, stopped_more}
use Rattle.state_core.proofs.judging.judge_ops.Goals as goal

pub loop-place-init : goal.loop-place-init
loop-place-init g c =
    so_far_none (g.K.Keeper.rows c.args.keeper.now) (g.K.Keeper.next c.args.keeper.now) c.args.moment c.new-batch.result c.next_version.result []
    c.next_version.ensures (g.met.K.Keeper.counted c.args.keeper.now).most (c.new-batch.ensures (g.K.Keeper.rows c.args.keeper.now) c.args.moment) refl

pub returns-in-Ok-false-clause-stopped : goal.returns-in-Ok-false-clause-stopped
returns-in-Ok-false-clause-stopped g c = λ place is.
    let rows = g.K.Keeper.rows c.args.keeper.now in
    let next = g.K.Keeper.next c.args.keeper.now in
    let within : c.loop-place.place < length c.args.ops.now = omega (arith, c.loop-place-test.true, c.in-Ok.ensures.1, c.len.ensures) in
    let judged = c.in-Ok-false.ensures.judged (judged_in rows next c.args.moment (take c.loop-place.place c.args.ops.now)).writes c.loop-place.invariant.batch_is in
    let same : c.loop-place.place ≡ place = cc in
    subst (HasStopped rows next c.args.moment c.args.ops.now) same
    (stopped_more rows next c.args.moment c.args.ops.now c.at.result.now c.loop-place.place c.loop-place.batch c.judge_op.new.batch c.in-Ok-false.field-0
    c.loop-place.invariant within c.at.ensures judged c.in-Ok-false.ensures.room c.in-Ok-false.field-0-test)
