use Rattle.std.proofs.Common.{ℕ, ◌≡◌, ◌++◌, map, take}
use Rattle.state_core.specs.Pending.{change_of}
use Rattle.state_core.specs.Write.{numbered, sweep}
use Rattle.state_core.proofs.commit.swept.Given as goal

abbrev pub invariant-loop-pending : goal.invariant-loop-pending
invariant-loop-pending g l = (next : ℕ) → l.changes.items ≡ numbered next (sweep (g.K.Keeper.rows l.keeper) l.moment) ++ map change_of (take l.pending-index l.batch.earlier.items)
