use Rattle.std.proofs.Common.{sym, ap, ◌∙◌, arith}
use Rattle.sidecar_workers.proofs.StopJoins.{joins}
use Rattle.sidecar_workers.proofs.StopSteps.{looks}
use Rattle.sidecar_workers.proofs.stop.Stop.meet.Goals as goal

pub join_seat-requires : goal.join_seat-requires
join_seat-requires c = (
  ap (λ z. z.table) c.seat.view_is ∙ (c.requires.seat ∙ sym c.self.view_is),
  ap (λ z. z.table) c.other.view_is ∙ (c.requires.other ∙ sym c.self.view_is),
  c.other.invariant.bare,
  omega (arith, c.self.invariant),
  joins _ _ _ _ c.seat.invariant.lives (ap (λ z. z.is_root) c.seat.view_is ∙ c.requires.root) c.other.invariant.lives,
)

pub load-requires : goal.load-requires
load-requires c = (
  c.join_seat.ensures.0 ∙ (ap (λ z. z.table) c.seat.view_is ∙ (c.requires.seat ∙ sym c.self.view_is)),
  omega (arith, c.self.invariant),
  looks _ _ _ (ap (λ m. m.0.spent) c.join_seat.ensures.2 ∙ c.seat.invariant.lives),
)
