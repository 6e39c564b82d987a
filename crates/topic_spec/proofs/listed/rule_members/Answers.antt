use Rattle.topic_spec.proofs.Gathering.{went_err, stopped}
use Rattle.topic_spec.proofs.listed.rule_members.Goals as goal

pub returns-in-Err-needed_in : goal.returns-in-Err-needed_in
returns-in-Err-needed_in c values at = went_err _ _ c.in-Ok.condition _ (c.in-Ok.ensures values at) (stopped _ _ _ (c.in-Err-needed_in.ensures values at))
