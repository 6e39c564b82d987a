use Rattle.std.proofs.Common.{◌∷◌, Some, sym, ap, ◌∙◌}
use Rattle.atomic_table.specs.Table.{rest}
use Rattle.turn_cell.proofs.turn.make_step.Goals as goal

pub slot_mut-requires : goal.slot_mut-requires
slot_mut-requires g c = let t = c.requires.served in (c.requires.table.2, (_, t.holds ∙ ap (λ l. (0, Some t.now) ∷ rest l) (sym t.holds)))
