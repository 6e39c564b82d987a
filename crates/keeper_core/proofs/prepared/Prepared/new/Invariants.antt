use Rattle.std.proofs.Common.{◌≡◌, List, ◌++◌, length}
use Rattle.std.specs.List.{All}
use Rattle.keeper_core.specs.Prepared.{changes_of, IsReady}
use Rattle.keeper_core.specs.declared.changes.Change.{Change}
use Rattle.keeper_core.specs.declared.prepared.Step.{Step}
use Rattle.keeper_core.proofs.prepared.Prepared.new.Given as goal

-- the steps so far stand for the changes that are gone
pub record Gathered (all rest : List Change) (steps : List Step) : Type 0 where
  pub whole : changes_of steps ++ rest ≡ all
  pub ready : All IsReady steps

abbrev pub invariant-loop-change : goal.invariant-loop-change
invariant-loop-change l = Gathered l.fn.list l.list l.steps

abbrev pub decreases-loop-change : goal.decreases-loop-change
decreases-loop-change l = length l.list
