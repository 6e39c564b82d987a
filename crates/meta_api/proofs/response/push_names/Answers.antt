use Rattle.std.proofs.Common.{◌++◌, ap, ◌∙◌, append_assoc, codes}
use Rattle.std.proofs.lemmas.Result.{on_ok_weaker}
use Rattle.meta_api.specs.Body.{member_text}
use Rattle.meta_api.proofs.response.push_names.Goals as goal

pub returns : goal.returns
returns c =
    let first = member_text (codes "{\"pubsubname\":") c.args.note.now.pubsub in
    let second = member_text (codes ",\"topic\":") c.args.note.now.topic in
    on_ok_weaker c.push_member-2.result (λ e. e ∙ ap (λ z. z ++ second) c.in_ok-push_member.ensures ∙ append_assoc c.args.body.now first second) c.push_member-2.ensures
