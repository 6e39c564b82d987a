use Rattle.std.proofs.Common.{sym, ap, ◌∙◌, arith}
use Rattle.sidecar_workers.proofs.StopSteps.{looks}
use Rattle.sidecar_workers.proofs.stop.Stop.look.Goals as goal

pub load-requires : goal.load-requires
load-requires c = (
  ap (λ z. z.table) c.seat.view_is ∙ (c.requires ∙ sym c.self.view_is),
  omega (arith, c.self.invariant),
  looks _ _ _ c.seat.invariant.lives,
)
