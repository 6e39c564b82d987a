use Rattle.std.proofs.Common.{sym, ap, ◌∙◌, arith}
use Rattle.sidecar_workers.proofs.StopSplits.{splits}
use Rattle.sidecar_workers.proofs.stop.Stop.split.Goals as goal

pub split_seat-token-requires : goal.split_seat-token-requires
split_seat-token-requires c = (
  ap (λ z. z.table) c.seat.view_is ∙ (c.requires.seat ∙ sym c.self.view_is),
  omega (arith, c.self.invariant),
  splits _ _ c.seat.invariant.lives (ap (λ z. z.is_root) c.seat.view_is ∙ c.requires.root),
)
