use Rattle.std.specs.Prelude.{Err}
use Rattle.std.proofs.Common.{arith, refl, ap}
use Rattle.sidecar_cli.specs.Run.{meant, meaningless}
use Rattle.sidecar_cli.proofs.Serves.{few_workers}
use Rattle.sidecar_cli.proofs.running.run.Goals as goal

pub command-requires-after_bounds : goal.command-requires-after_bounds
command-requires-after_bounds g c κs within = let few = few_workers _ c.in-Ok.given c.in-Ok.ensures.ok in omega (arith, few)

pub returns-in-Ok : goal.returns-in-Ok
returns-in-Ok g c = meant c.in-Ok.given c.in-Ok.ensures.ok c.command.ensures

pub returns-in-Err-Usage : goal.returns-in-Err-Usage
returns-in-Err-Usage g c = meaningless (c.in-Err-Usage.ensures.usage (ap Err c.in-Err-Usage.field-0-is)) refl refl
