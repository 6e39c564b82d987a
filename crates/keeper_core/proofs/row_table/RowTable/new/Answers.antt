use Rattle.keeper_core.proofs.Counted.{counted-empty}
use Rattle.keeper_core.proofs.Ends.{ends-empty}
use Rattle.keeper_core.proofs.row_table.RowTable.new.Goals as goal

pub invariant_of-result : goal.invariant_of-result
invariant_of-result c = rw (c.new.ensures.rows, c.new-2.ensures) ends-empty

pub returns-clause-counted : goal.returns-clause-counted
returns-clause-counted c = counted-empty _ c.new.ensures.rows
