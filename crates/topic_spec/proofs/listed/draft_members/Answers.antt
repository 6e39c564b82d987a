use Rattle.std.proofs.Common.{refl}
use Rattle.topic_spec.proofs.Gathering.{went_ok, went_err, stopped}
use Rattle.topic_spec.proofs.listed.draft_members.Goals as goal

pub returns-in-Err-needed_in : goal.returns-in-Err-needed_in
returns-in-Err-needed_in c item at = went_err _ _ c.in-Ok.pubsub _ (c.in-Ok.ensures item at) (stopped _ _ _ (c.in-Err-needed_in.ensures item at))

pub returns-in-Err-routes_of : goal.returns-in-Err-routes_of
returns-in-Err-routes_of c item at =
    went_err _ _ c.in-Ok.pubsub _ (c.in-Ok.ensures item at)
    (went_err _ _ c.in-Ok-needed_in.topic _ (c.in-Ok-needed_in.ensures item at) (stopped _ _ _ (c.in-Err-routes_of.ensures item at)))

pub returns-in-Ok-text_in : goal.returns-in-Ok-text_in
returns-in-Ok-text_in c item at =
    went_ok _ _ c.in-Ok.pubsub _ (c.in-Ok.ensures item at)
    (went_ok _ _ c.in-Ok-needed_in.topic _ (c.in-Ok-needed_in.ensures item at)
    (went_ok _ _ c.in-Ok-routes_of.routes _ (c.in-Ok-routes_of.ensures item at)
    (went_ok _ _ c.in-Ok-text_in.dead _ (c.in-Ok-text_in.ensures item at) refl)))

pub returns-in-Err-text_in : goal.returns-in-Err-text_in
returns-in-Err-text_in c item at =
    went_err _ _ c.in-Ok.pubsub _ (c.in-Ok.ensures item at)
    (went_err _ _ c.in-Ok-needed_in.topic _ (c.in-Ok-needed_in.ensures item at)
    (went_err _ _ c.in-Ok-routes_of.routes _ (c.in-Ok-routes_of.ensures item at) (stopped _ _ _ (c.in-Err-text_in.ensures item at))))
