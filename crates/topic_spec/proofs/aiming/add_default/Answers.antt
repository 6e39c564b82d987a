use Rattle.std.proofs.Common.{◌≡◌, ◌∙◌, ap, sym, ◌++◌, [], ◌∷◌, rules}
use Rattle.topic_spec.proofs.Pathing.{on_ok}
use Rattle.topic_spec.proofs.Unruled.{default_aim}
use Rattle.topic_spec.proofs.aiming.add_default.Goals as goal

pub returns-in-Ok-clause-aims : goal.returns-in-Ok-clause-aims
returns-in-Ok-clause-aims c event =
    let path = c.in-Ok.path in
    let is : path ≡ c.args.sub.now.default = search rules in
    let to = sym c.is_to.ensures ∙ c.if-not-is_to.false in
    on_ok c.push.result
    (λ same. same ∙ ap (λ own. c.args.aims.now ++ record { sub = c.args.place; path = own } ∷ []) is ∙ ap (λ own. c.args.aims.now ++ own) (default_aim c.args.place event c.args.pubsub.now c.args.topic.now c.args.sub.now to c.requires))
    c.push.ensures.ok
