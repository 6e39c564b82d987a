use Rattle.std.proofs.Common.{arith}
use Rattle.meta_api.proofs.Placed.{bytes_put}
use Rattle.meta_api.proofs.pairs.size_with.Goals as goal

pub returns-then-place-clause-bytes : goal.returns-then-place-clause-bytes
returns-then-place-clause-bytes c = omega (arith, bytes_put c.args.place c.args.pair.now c.args.pairs.now c.requires.taken, c.from.ensures, c.pair_len.ensures.len, c.old_len.ensures, c.requires.bytes)
