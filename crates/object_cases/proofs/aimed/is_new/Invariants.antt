use Rattle.std.proofs.Common.{◌≢◌, ◌<◌, ℕ, slice_index_or}
use Rattle.ledger_core.specs.declared.plan.Aim.{Aim}
use Rattle.object_cases.proofs.aimed.is_new.Given as goal

abbrev pub invariant-loop-i : goal.invariant-loop-i
invariant-loop-i l = (i : ℕ) (d : Aim) → i < l.i → (slice_index_or l.aims i d).sub ≢ (slice_index_or l.aims l.place d).sub
