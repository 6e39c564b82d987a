use Rattle.std.proofs.Common.{rules, ap, ◌∙◌}
use Rattle.std.specs.Prelude.{filter}
use Rattle.std.proofs.lemmas.Fn.{filter_same}
use Rattle.topic_spec.specs.Aiming.{is_kept}
use Rattle.topic_spec.proofs.choosing.keep_allowed.Goals as goal

pub returns : goal.returns
returns c =
    let test = is_kept c.args.components.now c.args.app.now in
    filter_same _ test _ (λ x b f' k. search rules) _ _ c.retain.ensures.filtered ∙ ap (filter test) c.subs.view_is
