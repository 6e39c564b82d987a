use Rattle.std.proofs.Common.{◌≡◌, ◌≤◌, ◌+◌, ◌-◌, ◌^◌, min, ℕ, List, length}
use Rattle.std.specs.List.{All}
use Rattle.keeper_core.specs.Rows.{bytes_in}
use Rattle.keeper_core.specs.Changes.{after_changes}
use Rattle.keeper_core.specs.Growth.{bytes_put}
use Rattle.keeper_core.specs.Prepared.{changes_of, IsReady}
use Rattle.keeper_core.specs.Table.{Table}
use Rattle.keeper_core.specs.declared.changes.Change.{Change}
use Rattle.keeper_core.specs.declared.prepared.Step.{Step}
use Rattle.keeper_core.proofs.row_table.RowTable.apply.Given as goal

-- the steps that are left lead to the rows that all lead to, and there is room for them; so many bytes went with other rows
pub record Made (all : List Change) (before now : Table) (steps : List Step) (gone : ℕ) : Type 0 where
  pub rows : after_changes now.rows (changes_of steps) ≡ after_changes before.rows all
  pub ready : All IsReady steps
  pub room : length steps ≤ now.room
  pub hasher : now.hasher ≡ before.hasher
  pub most : bytes_in now.rows + bytes_put (changes_of steps) ≤ bytes_in before.rows + bytes_put all
  pub freed : gone ≡ min (bytes_in before.rows + bytes_put all - (bytes_in now.rows + bytes_put (changes_of steps))) (2 ^ 128 - 1)

abbrev pub invariant-loop-step : goal.invariant-loop-step
invariant-loop-step l = Made l.fn.prepared l.fn.self l.self l.steps l.freed

abbrev pub decreases-loop-step : goal.decreases-loop-step
decreases-loop-step l = length l.steps
