use Rattle.std.proofs.Common.{refl, arith}
use Rattle.turn_cell.proofs.Turns.{decides}
use Rattle.turn_cell.proofs.turn.decide.Goals as goal

pub fetch_or-requires : goal.fetch_or-requires
fetch_or-requires g c = (c.requires.table.2, omega (arith, c.requires.table.0), decides g.O.Object c.args.table.now.key.value _ _ _ c.args.number _ g.W.Decision.entry c.requires.turn.0 c.requires.turn.1 c.requires.entry refl c.requires.legal)
