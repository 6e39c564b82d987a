use Rattle.std.proofs.Common.{◌≡◌, drop, length}
use Rattle.rule_value.proofs.operand.without.Given as goal

abbrev pub invariant-loop-other : goal.invariant-loop-other
invariant-loop-other l = drop (length l.other) l.all ≡ drop (length l.fn.other) l.fn.all

abbrev pub decreases-loop-other : goal.decreases-loop-other
decreases-loop-other l = length l.other
