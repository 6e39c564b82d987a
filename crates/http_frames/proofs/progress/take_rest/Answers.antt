use Rattle.std.proofs.Common.{◌≡◌, ◌∙◌, ℕ, Some, ap, arith, length-drop}
use Rattle.http_frames.proofs.ProgressLemmas.{length_taken, length_need, length_whole}
use Rattle.http_frames.proofs.progress.take_rest.Goals as goal

pub returns-then-due-gt0-clause-progress : goal.returns-then-due-gt0-clause-progress
returns-then-due-gt0-clause-progress c = λ pending is.
    let taken = c.in_ok-due.ensures.ok in
    let held = length_taken pending c.args.text.now c.args.at.now c.take_due.new.at c.args.content.now c.take_due.new.body c.args.left c.in_ok-due.due is c.requires.plain c.requires.left taken in
    let more = length_need pending _ _ c.in_ok-due.due held c.requires.plain taken.left_is
    (omega (arith, taken.all c.if-due-gt0.true, length-drop c.take_due.new.at c.args.text.now)) c.if-due-gt0.true in
    (held, more.0, more.1)

pub returns-clause-progress : goal.returns-clause-progress
returns-clause-progress c = λ pending is.
    let taken = c.in_ok-due.ensures.ok in
    let none : c.in_ok-due.due ≡ 0 = omega (arith, c.if-due-gt0.false) in
    length_whole pending _ _
    (length_taken pending c.args.text.now c.args.at.now c.take_due.new.at c.args.content.now c.take_due.new.body c.args.left c.in_ok-due.due is c.requires.plain c.requires.left taken)
    c.requires.plain (taken.left_is ∙ ap (λ (n : ℕ). Some n) none)

pub returns-then-due-gt0-clause-ends : goal.returns-then-due-gt0-clause-ends
returns-then-due-gt0-clause-ends c = omega (arith, c.in_ok-due.ensures.ok.all c.if-due-gt0.true, length-drop c.take_due.new.at c.args.text.now)
