use Rattle.std.proofs.Common.{ap, subst, ◌∙◌, ◌≤◌, ◌<◌, length, get_or}
use Rattle.state_core.specs.Batch.{last_of}
use Rattle.state_core.specs.Write.{numbered, sweep}
use Rattle.state_core.proofs.Copies.{copied_more, copied_all}
use Rattle.state_core.proofs.commit.swept.Goals as goal

pub loop-pending-preserved : goal.loop-pending-preserved
loop-pending-preserved g c = λ next.
    let items = c.args.batch.now.earlier.items in
    let i = c.loop-pending.pending-index in
    let same = c.deref-pending-items.ensures.value in
    let within : i < length items = subst (λ xs. i < length xs) same c.loop-pending-test.true in
    copied_more (numbered next (sweep (g.K.Keeper.rows c.args.keeper.now) c.args.moment)) items i c.pending-item.result c.loop-pending.changes.items c.push.new.self.items c.in_ok-copied.field-0
    (c.loop-pending.invariant next) within (c.pending-item.is ∙ ap (λ xs. get_or xs i c.pending-item.result) same) c.in_ok-copied.ensures c.in_ok-push.ensures.items

pub returns-clause-list : goal.returns-clause-list
returns-clause-list g c = λ writes batch.
    let items = c.args.batch.now.earlier.items in
    let i = c.loop-pending.pending-index in
    let all : length items ≤ i = subst (λ xs. length xs ≤ i) c.deref-pending-items.ensures.value c.loop-pending-test.false in
    let next = g.K.Keeper.next c.args.keeper.now in
    c.from_vec.ensures ∙ copied_all (g.K.Keeper.rows c.args.keeper.now) c.args.moment next writes items (last_of c.args.batch.now) i c.loop-pending.changes.items c.push_last.new.changes.items (c.loop-pending.invariant next) all c.in_ok-push_last.ensures batch.changes
