use Rattle.std.proofs.Common.{◌≡◌, ◌+◌, length}
use Rattle.rule_value.proofs.operand.behind.Given as goal

abbrev pub invariant-loop-other : goal.invariant-loop-other
invariant-loop-other l = length l.all + length l.fn.other ≡ length l.fn.all + length l.other

abbrev pub decreases-loop-other : goal.decreases-loop-other
decreases-loop-other l = length l.other
