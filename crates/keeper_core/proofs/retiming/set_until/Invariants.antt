use Rattle.std.proofs.Common.{◌≡◌, ◌<◌, ◌-◌, ◌+◌, ℕ, nat_lt, cond, length}
use Rattle.keeper_core.specs.Shapes.{Shape, none, slots, times, height_at, parent_at, Holds, Proper}
use Rattle.keeper_core.proofs.Retimed.{Rising}
use Rattle.keeper_core.proofs.retiming.set_until.Given as goal

abbrev pub invariant-loop-node : goal.invariant-loop-node
invariant-loop-node l = (root : ℕ) (shape : Shape) → Holds l.fn.links shape root → Proper (length l.fn.links) (slots shape) → parent_at l.fn.links root ≡ none → 0 < times l.at (slots shape) → Rising l.fn.links l.links shape l.at l.until l.node

abbrev pub decreases-loop-node : goal.decreases-loop-node
decreases-loop-node l = cond (nat_lt l.node (length l.links)) (length l.links + 1 - height_at l.links l.node) 0
