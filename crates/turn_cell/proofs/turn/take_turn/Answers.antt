use Rattle.std.proofs.Common.{◌∙◌}
use Rattle.turn_cell.proofs.Told.{stepped_on, passed_by}
use Rattle.turn_cell.proofs.turn.take_turn.Goals as goal

pub returns-then-number-ge-MOST_ENTRIES-clause-err : goal.returns-then-number-ge-MOST_ENTRIES-clause-err
returns-then-number-ge-MOST_ENTRIES-clause-err g c = passed_by g.O.Object c.args.table.now.key.value c.args.token.now c.pass.new.token (c.pass.ensures.table ∙ (c.wait.ensures.table ∙ c.in_ok-number.ensures.table)) c.in_ok-number.number
    _ _ c.in_ok-number.ensures.ok c.wait.ensures.hit c.if-number-ge-MOST_ENTRIES.true c.pass.ensures.free c.pass.ensures.sound

pub returns-clause-ok : goal.returns-clause-ok
returns-clause-ok g c = stepped_on g.O.Object c.args.table.now.key.value c.args.token.now c.run-reply.new.token (c.run-reply.ensures.table ∙ (c.wait.ensures.table ∙ c.in_ok-number.ensures.table)) c.in_ok-number.number
    _ _ c.in_ok-number.ensures.ok c.wait.ensures.hit c.args.cmd.now c.run-reply.result c.run-reply.ensures.step
