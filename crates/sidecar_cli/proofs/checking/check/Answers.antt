use Rattle.std.proofs.Common.{refl, ap, length, ◌∙◌}
use Rattle.sidecar_cli.specs.Check.{counted, refused}
use Rattle.sidecar_cli.proofs.Counted.{counted_as}
use Rattle.sidecar_cli.proofs.checking.check.Goals as goal

pub returns-in-Ok : goal.returns-in-Ok
returns-in-Ok g c = counted c.in-Ok.resources c.in-Ok.ensures (counted_as c.len.ensures.exact (c.len-in-Ok.ensures.exact ∙ ap length c.allowed-kept.ensures) c.tell.ensures) refl

pub returns-in-Err : goal.returns-in-Err
returns-in-Err g c = refused c.in-Err.error c.in-Err.ensures c.without_resources.ensures refl
