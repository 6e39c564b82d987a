use Rattle.std.proofs.Common.{ℕ, ◌<◌, slice_index_or}
use Rattle.state_core.specs.declared.command.Item.{Item}
use Rattle.state_core.specs.Taken.{IsTtl}
use Rattle.object_cases.proofs.taken.items_have_ttl.Given as goal

abbrev pub invariant-loop-place : goal.invariant-loop-place
invariant-loop-place l = (k : ℕ) (d : Item) → k < l.place → IsTtl (slice_index_or l.items k d).ttl
