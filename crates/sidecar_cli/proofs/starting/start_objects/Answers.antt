use Rattle.sidecar_keepers.proofs.Makings.{made_fit}
use Rattle.sidecar_cli.specs.Play.{refused}
use Rattle.sidecar_cli.proofs.Fitting.{down_without}
use Rattle.sidecar_cli.proofs.starting.start_objects.Goals as goal

pub over-requires : goal.over-requires
over-requires g c = made_fit _ _ _ _ _ c.in-Ok.ensures.made

pub returns-in-Ok-clause-down : goal.returns-in-Ok-clause-down
returns-in-Ok-clause-down g c = down_without _ c.over.ensures.lacks (record { made = c.in-Ok.ensures.made; takes = c.in-Ok.ensures.takes; no_fault = c.in-Ok.ensures.no_fault; numbers = c.start_keepers.ensures.numbers })

pub returns-in-Err-clause-down : goal.returns-in-Err-clause-down
returns-in-Err-clause-down g c = refused (record { error = c.in-Err.error; refused = c.in-Err.ensures.refused; counts = c.in-Err.ensures.counts; numbers = c.start_keepers.ensures.numbers; says = c.without_keepers.ensures })
