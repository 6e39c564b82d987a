use Rattle.std.proofs.Common.{Some}
use Rattle.turn_cell.specs.Sitting.{entry_by}
use Rattle.turn_cell.specs.Play.{sitting}
use Rattle.turn_cell.proofs.turn.run.Given as goal

abbrev pub ghosts-decide : goal.ghosts-decide
ghosts-decide g a = record { entry = Some (entry_by (sitting a.token.now) a.cmd.now a.reply.now (g.O.Object.mark a.object.now.value)) }
