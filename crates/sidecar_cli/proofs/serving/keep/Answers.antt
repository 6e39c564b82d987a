use Rattle.std.proofs.Common.{refl}
use Rattle.sidecar_cli.specs.Serve.{down, up}
use Rattle.sidecar_cli.proofs.serving.keep.Goals as goal

pub returns-in-Ok : goal.returns-in-Ok
returns-in-Ok g c = up c.in-Ok.up.shared.config c.in-Ok.up.shared.objects c.in-Ok.up.pass _ c.in-Ok.ensures.configured c.in-Ok.ensures.up refl c.serve_over.ensures refl

pub returns-in-Err : goal.returns-in-Err
returns-in-Err g c = down c.in-Err.ensures.down refl
