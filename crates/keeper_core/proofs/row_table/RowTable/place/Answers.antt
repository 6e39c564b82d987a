use Rattle.std.proofs.Common.{ap, ◌∙◌}
use Rattle.keeper_core.specs.Table.{row_of}
use Rattle.keeper_core.specs.Tree.{with_end}
use Rattle.keeper_core.proofs.Ends.{ends-with}
use Rattle.keeper_core.proofs.row_table.RowTable.place.Goals as goal

pub invariant_of-self : goal.invariant_of-self
invariant_of-self c =
    let ends = c.with_end.ensures.ends ∙ ap (λ key. with_end key c.args.row.until c.self.inside.ends.ends) c.deref-2.ensures.value in
    rw (c.insert.ensures.rows, ends) (ends-with _ _ c.args.key.items (row_of c.args.row) c.self.invariant)
