use Rattle.std.proofs.Common.{refl}
use Rattle.sidecar_cli.specs.Drill.{down, up}
use Rattle.sidecar_cli.proofs.Drilled.{session_over, up_from}
use Rattle.sidecar_cli.proofs.drilling.drilled.Goals as goal

pub returns-in-Ok : goal.returns-in-Ok
returns-in-Ok g c = up c.in-Ok.up.shared.objects c.in-Ok.up.pass _ (up_from c.now-start.ensures.last c.in-Ok.ensures.up) (session_over c.in-Ok.ensures.same c.session.ensures)

pub returns-in-Err : goal.returns-in-Err
returns-in-Err g c = down c.in-Err.status c.in-Err.ensures.down refl
