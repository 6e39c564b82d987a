use Rattle.std.proofs.Common.{ap, sym, ◌∙◌, subst, arith, [], ◌∷◌, ◌<◌, ◌+◌, take, map, length, cond, ◌++◌}
use Rattle.state_core.specs.Judged.{judged_in}
use Rattle.state_core.proofs.Orders.{so_far_none, item_more, IsSoFar}
use Rattle.state_core.specs.declared.command.Op.TheVariants.{Upsert}
use Rattle.state_core.proofs.judging.judge_items.Goals.{then-not-branch+in_ok-push, else-not-branch}
use Rattle.state_core.proofs.judging.judge_items.Goals as goal

pub loop-place-init : goal.loop-place-init
loop-place-init g c =
    so_far_none (g.K.Keeper.rows c.args.keeper.now) (g.K.Keeper.next c.args.keeper.now) c.args.moment c.new-batch.result c.next_version.result c.new-refused.result
    c.next_version.ensures (g.met.K.Keeper.counted c.args.keeper.now).most (c.new-batch.ensures (g.K.Keeper.rows c.args.keeper.now) c.args.moment) c.new-refused.ensures

pub loop-place-preserved : goal.loop-place-preserved
loop-place-preserved g c =
    let rows = g.K.Keeper.rows c.args.keeper.now in
    let next = g.K.Keeper.next c.args.keeper.now in
    let ops = map (λ item. Upsert item) c.args.items.now in
    let within : c.loop-place.place < length c.args.items.now = omega (arith, c.loop-place-test.true, c.in-Ok.ensures.1, c.len.ensures) in
    let judged = c.in_ok-judge_upsert.ensures.judged (judged_in rows next c.args.moment (take c.loop-place.place ops)).writes c.loop-place.invariant.batch_is in
    let more = item_more rows next c.args.moment c.args.items.now c.at.result.now c.loop-place.place c.loop-place.refused c.loop-place.batch c.judge_upsert.new.batch c.in_ok-judge_upsert.field-0
    c.loop-place.invariant within c.at.ensures judged c.in_ok-judge_upsert.ensures.room in
    subst (IsSoFar rows next c.args.moment (judged_in rows next c.args.moment (take (c.loop-place.place + 1) ops)) (c.loop-place.place + 1) c.judge_upsert.new.batch)
    (elim c.if-not-branch.branch [
      | then-not-branch+in_ok-push w ↦ ap (λ b. cond b c.loop-place.refused (c.loop-place.refused ++ c.loop-place.place ∷ [])) w.if-not-branch.true ∙ sym w.in_ok-push.ensures.ok ∙ sym w.refused-is
      | else-not-branch w ↦ ap (λ b. cond b c.loop-place.refused (c.loop-place.refused ++ c.loop-place.place ∷ [])) w.if-not-branch.false ∙ sym w.refused-is
    ])
    more
