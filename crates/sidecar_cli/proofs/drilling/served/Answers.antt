use Rattle.std.proofs.Common.{ap, refl, Some, None}
use Rattle.sidecar_cli.proofs.Drilled.{by_drill}
use Rattle.sidecar_cli.proofs.drilling.served.Goals as goal

pub returns : goal.returns
returns g c =
    by_drill (ap (λ s. record { left = Some s.left; taken = Some s.taken; earlier = Some s.earlier; ended = s.ended; faults = 0 }) c.new-source.ensures)
    (ap (λ paused. record { last = 0; paused = paused; ticks = None }) c.new-clock.ensures) (ap (λ faults. record { calls = None; faults = faults; expiries = 0 }) c.new-link.ensures) refl c.serve_connection.ensures.served
