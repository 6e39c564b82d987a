use Rattle.keeper_core.proofs.Ends.{ends-remove}
use Rattle.keeper_core.proofs.row_table.RowTable.take_out.Goals as goal

pub invariant_of-self : goal.invariant_of-self
invariant_of-self c = rw (c.remove.ensures.rows, c.without.ensures.ends) (ends-remove _ _ c.args.key.now c.self.invariant)
