use Rattle.state_core.specs.Store.{IsReached}
use Rattle.object_cases.proofs.store_case.steps.Given as goal

abbrev pub invariant-loop-section : goal.invariant-loop-section
invariant-loop-section g l = IsReached g.K.Keeper l.store
