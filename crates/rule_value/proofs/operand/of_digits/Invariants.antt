use Rattle.std.proofs.Common.{◌≡◌, ◌-◌, ◌^◌, min, ℕ, ◌∷◌, length}
use Rattle.rule_value.specs.Wholes.{digits_after}
use Rattle.rule_value.proofs.operand.of_digits.Given as goal

abbrev pub invariant-loop-others : goal.invariant-loop-others
invariant-loop-others l = record { n : ℕ; size : l.size ≡ min n (2 ^ 64 - 1); left : digits_after l.below n (l.digit ∷ l.others) ≡ digits_after l.fn.below 0 (l.fn.first ∷ l.fn.others) }

abbrev pub decreases-loop-others : goal.decreases-loop-others
decreases-loop-others l = length l.others
