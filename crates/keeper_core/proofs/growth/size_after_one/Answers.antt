use Rattle.std.proofs.Common.{ap, arith}
use Rattle.keeper_core.specs.Growth.{bytes_at, key_of}
use Rattle.keeper_core.proofs.Overlay.{bytes_at-most, bytes_in-after_change}
use Rattle.keeper_core.proofs.growth.size_after_one.Goals as goal

pub overflow_sub-result : goal.overflow_sub-result
overflow_sub-result c = omega (arith, c.bytes_at.ensures, ap (bytes_at c.args.table.now.rows) c.key_of.ensures, bytes_at-most c.args.table.now.rows (key_of c.args.change.now), c.requires)

pub returns : goal.returns
returns c =
    omega (arith, c.bytes_at.ensures, ap (bytes_at c.args.table.now.rows) c.key_of.ensures, bytes_at-most c.args.table.now.rows (key_of c.args.change.now), bytes_in-after_change c.args.table.now.rows c.args.change.now, c.bytes_after.ensures.exact, c.requires)
