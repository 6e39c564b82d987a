use Rattle.std.proofs.Common.{arith}
use Rattle.side_memory.proofs.Backs.{back_here, back_other}
use Rattle.side_memory.proofs.worker_backs.keep_back.Goals as goal

pub returns-then-place-len-clause-here : goal.returns-then-place-len-clause-here
returns-then-place-len-clause-here c = back_here c.args.backs.now.items c.args.number c.args.parts (omega arith)

pub returns-then-place-len-clause-others : goal.returns-then-place-len-clause-others
returns-then-place-len-clause-others c = back_other c.args.backs.now.items c.args.number c.args.parts (omega arith)
