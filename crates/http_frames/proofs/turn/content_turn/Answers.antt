use Rattle.std.proofs.Common.{sym, ap, drop}
use Rattle.http_frames.specs.declared.lines.Place.{Place}
use Rattle.http_frames.specs.declared.framer.Stage.TheVariants as stage
use Rattle.http_frames.proofs.TurnLemmas.{quiet_of, told_of, due_of, due_is, whole_turn}
use Rattle.http_frames.proofs.turn.content_turn.Goals as goal

pub returns-then-is_due-clause-turn : goal.returns-then-is_due-clause-turn
returns-then-is_due-clause-turn c = λ pending is.
    let due = due_of pending (drop c.args.at.now c.args.bytes.now) c.args.content c.args.continued is (due_is c.args.continued _ c.args.content c.requires.sound (sym c.if-is_due.ensures)) in
    (due.0, due.1, is)

pub returns-in-Ok-Need-clause-turn : goal.returns-in-Ok-Need-clause-turn
returns-in-Ok-Need-clause-turn c = λ pending is.
    let step = rw c.in-Ok-Need.field-0-is at (c.in-Ok-Need.ensures.progress pending is) in
    (step.1, step.2, quiet_of pending _ c.args.content c.args.continued is (told_of c.args.continued _ (due_is c.args.continued _ c.args.content c.requires.sound (sym c.if-is_due.ensures))), step.0)

pub returns-in-Ok-Refused-clause-turn : goal.returns-in-Ok-Refused-clause-turn
returns-in-Ok-Refused-clause-turn c = λ pending is.
    let step = rw c.in-Ok-Refused.field-0-is at (c.in-Ok-Refused.ensures.progress pending is) in
    (step, quiet_of pending _ c.args.content c.args.continued is (told_of c.args.continued _ (due_is c.args.continued _ c.args.content c.requires.sound (sym c.if-is_due.ensures))))

pub returns-in-Ok-Whole-clause-turn : goal.returns-in-Ok-Whole-clause-turn
returns-in-Ok-Whole-clause-turn c = λ pending is.
    let step = rw c.in-Ok-Whole.field-0-is at (c.in-Ok-Whole.ensures.progress pending is) in
    whole_turn pending _ _ c.args.content _ c.args.continued _ c.in-Ok-Whole.len is step
    (told_of c.args.continued _ (due_is c.args.continued _ c.args.content c.requires.sound (sym c.if-is_due.ensures))) (c.request_of-request.ensures step.head step.parts)

pub returns-in-Ok-Whole-clause-left : goal.returns-in-Ok-Whole-clause-left
returns-in-Ok-Whole-clause-left c =
    (ap (λ (p : Place). stage.Head p) c.start.ensures, rw c.in-Ok-Whole.field-0-is at c.in-Ok-Whole.ensures.ends)

pub returns-in-Ok-Need-clause-left : goal.returns-in-Ok-Need-clause-left
returns-in-Ok-Need-clause-left c = (c.take_content.ensures.sound, rw c.in-Ok-Need.field-0-is at c.in-Ok-Need.ensures.ends)
