use Rattle.std.proofs.Common.{refl}
use Rattle.sidecar_cli.proofs.Promises.{ends_well_where_it_may, has_its_cause, refuses_words}
use Rattle.sidecar_cli.proofs.running.sidecar_main.Goals as goal

pub returns-clause-run : goal.returns-clause-run
returns-clause-run g c = record { between = _; run = c.run-status.ensures; noted = c.tell.ensures; rest = refl }

pub returns-clause-usage : goal.returns-clause-usage
returns-clause-usage g c = refuses_words _ _ _ _ _ _ _ c.run-status.ensures c.tell.ensures refl

pub returns-clause-status_has_its_cause : goal.returns-clause-status_has_its_cause
returns-clause-status_has_its_cause g c = has_its_cause _ _ _ _ _ _ _ c.run-status.ensures c.tell.ensures refl

pub returns-clause-ends_well_where_all_is_well : goal.returns-clause-ends_well_where_all_is_well
returns-clause-ends_well_where_all_is_well g c = ends_well_where_it_may _ _ _ _ _ _ _ c.run-status.ensures c.tell.ensures refl c.streams_are_unique.ensures.single c.streams_are_unique.ensures.exists
