use Rattle.std.proofs.Common.{◌∙◌, length, ap}
use Rattle.sidecar_cli.proofs.Fitting.{all_wide, same_stores, fit_started, root_started, started_of}
use Rattle.sidecar_cli.proofs.starting.over.Goals as goal

pub start-requires : goal.start-requires
start-requires g c = all_wide _ c.args.keepers.items c.requires ∙ ap length (same_stores c.args.config.components)

pub returns-in-Ok-clause-same : goal.returns-in-Ok-clause-same
returns-in-Ok-clause-same g c = c.in-Ok.ensures.started.same

pub returns-in-Ok-clause-started : goal.returns-in-Ok-clause-started
returns-in-Ok-clause-started g c = started_of c.in-Ok.ensures.started

pub returns-in-Ok-clause-fit : goal.returns-in-Ok-clause-fit
returns-in-Ok-clause-fit g c = fit_started c.in-Ok.ensures.started c.requires

pub returns-in-Ok-clause-root : goal.returns-in-Ok-clause-root
returns-in-Ok-clause-root g c = root_started c.in-Ok.ensures.started
