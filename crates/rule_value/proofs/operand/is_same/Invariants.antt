use Rattle.std.proofs.Common.{◌≡◌, length, bytes_eq}
use Rattle.rule_value.proofs.operand.is_same.Given as goal

abbrev pub invariant-loop-a : goal.invariant-loop-a
invariant-loop-a l = bytes_eq l.one l.other ≡ bytes_eq l.fn.one l.fn.other

abbrev pub decreases-loop-a : goal.decreases-loop-a
decreases-loop-a l = length l.one
