use Rattle.case_text.proofs.Joining.{one_numbered, none_numbered}
use Rattle.case_text.proofs.words.push_numbered.Goals as goal

pub loop-number-preserved : goal.loop-number-preserved
loop-number-preserved c = one_numbered _ c.loop-number.all c.args.text.now c.push_number.new.all c.loop-number.number c.args.times c.loop-number-test.true c.in_ok-push_number.ensures c.loop-number.invariant

pub returns : goal.returns
returns c = none_numbered _ c.loop-number.all c.args.text.now c.loop-number.number c.args.times c.loop-number-test.false c.loop-number.invariant
