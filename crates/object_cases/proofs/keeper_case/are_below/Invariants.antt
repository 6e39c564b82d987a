use Rattle.std.proofs.Common.{ℕ, ◌<◌, get_or}
use Rattle.keeper_core.specs.Changes.{IsBelow}
use Rattle.keeper_core.specs.declared.changes.Change.{Change}
use Rattle.object_cases.proofs.keeper_case.are_below.Given as goal

abbrev pub invariant-loop-i : goal.invariant-loop-i
invariant-loop-i l = (k : ℕ) (d : Change) → k < l.i → IsBelow l.next (get_or l.list k d)
