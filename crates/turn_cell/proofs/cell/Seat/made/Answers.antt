use Rattle.std.proofs.Common.{ap, ◌∙◌, subst}
use Rattle.turn_cell.specs.Sitting.{IsSound}
use Rattle.turn_cell.proofs.cell.Seat.made.Goals as goal

pub returns-clause-sound : goal.returns-clause-sound
returns-clause-sound g c first is = subst (λ z. IsSound g.O.Object first z) c.self.view_is (c.self.invariant.sound first (ap (λ z. z.first) c.self.view_is ∙ is) c.self.inside.token.table_id)
