use Rattle.std.proofs.Common.{◌≡◌, ◌^◌, ◌-◌, ℕ, min, length}
use Rattle.side_base.specs.Duration.{Parts}
use Rattle.side_base.proofs.duration.sum_of_parts.Given as goal

abbrev pub invariant-loop-rest : goal.invariant-loop-rest
invariant-loop-rest l = (ms : ℕ) × Parts l.rest l.text ms × (l.total ≡ min ms (2 ^ 64 - 1))

abbrev pub decreases-loop-rest : goal.decreases-loop-rest
decreases-loop-rest l = length l.rest
