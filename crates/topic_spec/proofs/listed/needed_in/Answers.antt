use Rattle.topic_spec.specs.Listed.{needed_in, or_missing}
use Rattle.topic_spec.proofs.Gathering.{went, stopped}
use Rattle.topic_spec.proofs.listed.needed_in.Goals as goal

pub returns-in-Ok : goal.returns-in-Ok
unfolding needed_in
returns-in-Ok c values at = went (or_missing c.args.field.now) _ c.in-Ok.text _ (c.in-Ok.ensures values at) c.or_missing.ensures

pub returns-in-Err : goal.returns-in-Err
unfolding needed_in
returns-in-Err c values at = stopped (or_missing c.args.field.now) _ _ (c.in-Err.ensures values at)
