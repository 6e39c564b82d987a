use Rattle.sidecar_objects.specs.Composed.{pass_stays}
use Rattle.sidecar_cli.proofs.Drained.{read_then}
use Rattle.sidecar_cli.proofs.playing.drained.Goals as goal

pub drain-delivered-requires : goal.drain-delivered-requires
drain-delivered-requires g c = record { pass = pass_stays _ _ _ _ _ c.take_ticks-ticked.ensures.does.went c.requires }

pub returns-clause-does : goal.returns-clause-does
returns-clause-does g c = read_then _ _ _ _ _ _ _ _ (record { later = c.now-began.ensures.later; last = c.now-began.ensures.last; paused = c.now-began.ensures.paused; ticks = c.now-began.ensures.ticks }) _ _ c.take_ticks-ticked.ensures.does c.drain-delivered.ensures.does c.together.ensures

pub returns-clause-pass : goal.returns-clause-pass
returns-clause-pass g c = pass_stays _ _ _ _ _ c.drain-delivered.ensures.does.went (pass_stays _ _ _ _ _ c.take_ticks-ticked.ensures.does.went c.requires)
