use Rattle.std.proofs.Common.{arith}
use Rattle.keeper_core.proofs.Overlay.{bytes_in-most}
use Rattle.keeper_core.proofs.growth.keep_to.Goals as goal

pub returns-then-from-put-clause-fits : goal.returns-then-from-put-clause-fits
returns-then-from-put-clause-fits c = omega (arith, bytes_in-most c.args.table.now.rows c.args.changes.now, c.requires.size, c.requires.put, c.from.ensures, c.from-2.ensures, c.if-from-put.true)
