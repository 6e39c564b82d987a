use Rattle.std.proofs.Common.{None}
use Rattle.sidecar_workers.proofs.Rounds.{one_more}
use Rattle.sidecar_workers.proofs.workers.work_until_exit.Goals as goal

pub loop-preserved : goal.loop-preserved
loop-preserved g c = (tt, tt, one_more g.W.Work g.met.W.Work.chains _ _ _ None c.loop.invariant.2 c.in_default.ensures)
