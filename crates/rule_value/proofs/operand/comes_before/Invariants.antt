use Rattle.std.proofs.Common.{◌≡◌, length}
use Rattle.rule_value.specs.Values.{comes_before}
use Rattle.rule_value.proofs.operand.comes_before.Given as goal

abbrev pub invariant-loop-a : goal.invariant-loop-a
invariant-loop-a l = comes_before l.one l.other ≡ comes_before l.fn.one l.fn.other

abbrev pub decreases-loop-a : goal.decreases-loop-a
decreases-loop-a l = length l.one
