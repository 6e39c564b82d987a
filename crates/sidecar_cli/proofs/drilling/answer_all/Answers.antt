use Rattle.std.proofs.Common.{refl}
use Rattle.sidecar_cli.specs.Drill.{stopped, told}
use Rattle.sidecar_cli.proofs.drilling.answer_all.Goals as goal

pub returns-in-Ok : goal.returns-in-Ok
returns-in-Ok g c = told c.in-Ok.kept c.in-Ok.ensures c.tell.ensures refl

pub returns-in-Err : goal.returns-in-Err
returns-in-Err g c = stopped c.in-Err.ensures refl
