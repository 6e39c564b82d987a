use Rattle.std.proofs.Common.{◌≢◌, ◌<◌, ℕ, slice_index_or}
use Rattle.ledger_core.specs.declared.plan.Aim.{Aim}
use Rattle.object_cases.proofs.aimed.are_aims.Given as goal

abbrev pub invariant-loop-place : goal.invariant-loop-place
invariant-loop-place l = record {
  planned : (k : ℕ) (d : Aim) → k < l.place → (slice_index_or l.aims k d).sub < l.plans;
  once : (i j : ℕ) (d : Aim) → i < j → j < l.place → (slice_index_or l.aims i d).sub ≢ (slice_index_or l.aims j d).sub;
}
