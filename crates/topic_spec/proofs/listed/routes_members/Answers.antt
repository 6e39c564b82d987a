use Rattle.topic_spec.proofs.Gathering.{went, went_err, stopped, by_path}
use Rattle.topic_spec.proofs.listed.routes_members.Goals as goal

pub returns-in-Err-text_in : goal.returns-in-Err-text_in
returns-in-Err-text_in c values at = went_err _ _ c.in-Ok.rules _ (c.in-Ok.ensures _ (c.member_of.ensures.found values at)) (stopped _ _ _ (c.in-Err-text_in.ensures values at))

pub returns-in-Ok-path_said : goal.returns-in-Ok-path_said
returns-in-Ok-path_said c values at =
    went _ _ c.in-Ok.rules _ (c.in-Ok.ensures _ (c.member_of.ensures.found values at))
    (went _ _ c.in-Ok-text_in.default _ (c.in-Ok-text_in.ensures values at) (by_path _ _ _ c.in-Ok-path_said.path _ c.in-Ok-path_said.ensures c.some_route.ensures))
