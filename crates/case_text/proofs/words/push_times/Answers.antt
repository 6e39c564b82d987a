use Rattle.case_text.proofs.Joining.{none_left, one_added}
use Rattle.case_text.proofs.words.push_times.Goals as goal

pub loop-left-preserved : goal.loop-left-preserved
loop-left-preserved c = one_added _ c.loop-left.all c.args.text.now c.push.new.self c.loop-left.left c.loop-left-test.true c.in_ok-push.ensures.ok c.loop-left.invariant

pub returns : goal.returns
returns c = none_left _ c.loop-left.all c.args.text.now c.loop-left.left c.loop-left-test.false c.loop-left.invariant
