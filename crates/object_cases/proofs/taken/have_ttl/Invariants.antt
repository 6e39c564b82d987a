use Rattle.std.proofs.Common.{ℕ, ◌<◌, slice_index_or}
use Rattle.state_core.specs.declared.command.Op.{Op}
use Rattle.state_core.specs.Taken.{HasTtl}
use Rattle.object_cases.proofs.taken.have_ttl.Given as goal

abbrev pub invariant-loop-place : goal.invariant-loop-place
invariant-loop-place l = (k : ℕ) (d : Op) → k < l.place → HasTtl (slice_index_or l.ops k d)
