use Rattle.std.proofs.Common.{refl}
use Rattle.sidecar_cli.specs.Serve.{refused, read}
use Rattle.sidecar_cli.proofs.Beginning.{read_as}
use Rattle.sidecar_cli.proofs.serving.begin.Goals as goal

pub returns-in-Ok : goal.returns-in-Ok
returns-in-Ok g c = read c.in-Ok.resources _ (read_as _ _ _ _ _ c.is_some.ensures c.in-Ok.ensures) refl c.keep.ensures

pub returns-in-Err : goal.returns-in-Err
returns-in-Err g c = refused c.in-Err.error (read_as _ _ _ _ _ c.is_some.ensures c.in-Err.ensures) c.without_resources.ensures refl
