use Rattle.std.proofs.Common.{inl, inr, ◌∙◌, sym, subst, refl}
use Rattle.topic_spec.specs.Aiming.{IsPath}
use Rattle.topic_spec.proofs.Pathing.{same_to, on_ok}
use Rattle.topic_spec.proofs.aiming.add_aim.Goals as goal

pub returns-then-not-is_to-clause-values : goal.returns-then-not-is_to-clause-values
returns-then-not-is_to-clause-values c shown draft is own =
    inl (sym (same_to c.args.pubsub.now c.args.topic.now draft c.args.sub.now own) ∙ sym c.is_to.ensures ∙ c.if-not-is_to.true, refl)

pub returns-in-Ok-clause-values : goal.returns-in-Ok-clause-values
returns-in-Ok-clause-values c shown draft is own =
    on_ok c.push.result
    (λ same. inr (sym (same_to c.args.pubsub.now c.args.topic.now draft c.args.sub.now own) ∙ sym c.is_to.ensures ∙ c.if-not-is_to.false, c.in-Ok.path, subst (IsPath shown draft.rules draft.default) (sym c.in-Ok.ensures) (c.path_of.ensures.values shown draft is own), same))
    c.push.ensures.ok
