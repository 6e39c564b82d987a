use Rattle.std.proofs.Common.{◌≡◌, length, nat_eq}
use Rattle.std.specs.List.{starts_with}
use Rattle.rule_value.proofs.operand.begins_with.Given as goal

abbrev pub invariant-loop-wanted : goal.invariant-loop-wanted
invariant-loop-wanted l = starts_with nat_eq l.all l.front ≡ starts_with nat_eq l.fn.all l.fn.front

abbrev pub decreases-loop-wanted : goal.decreases-loop-wanted
decreases-loop-wanted l = length l.front
