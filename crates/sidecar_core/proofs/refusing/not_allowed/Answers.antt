use Rattle.std.proofs.Common.{◌∙◌, ◌∷◌, ◌++◌, []}
use Rattle.side_base.specs.declared.message.Field.{Field}
use Rattle.api_routes.specs.Methods.{allow_text}
use Rattle.sidecar_core.proofs.refusing.not_allowed.Goals as goal

pub returns : goal.returns
returns c =
    let e = c.in_ok-response.ensures in
    let value = c.in_ok-push_allow.ensures.ok ∙ (λ i. c.new-value.ensures i ++ allow_text c.args.allow) in
    let field : Field = record { name = c.from_static.result; value = c.push_allow.new.out } in
    let fields = c.in_ok-push.ensures.ok ∙ (λ i. (e i).fields ++ record { name = c.from_static.ensures i; value = value i } ∷ []) in
    (λ i. record { status = (e i).status; fields = fields i; body = (e i).body })
