use Rattle.std.proofs.Common.{arith}
use Rattle.sidecar_workers.proofs.StopSteps.{halts}
use Rattle.sidecar_workers.proofs.stop.halt.Goals as goal

pub store-requires : goal.store-requires
store-requires g c = (c.requires.table.0, omega (arith, c.requires.table.1), halts g.W.Why.reason _ c.requires.reason _ _ _ c.requires.lives)
