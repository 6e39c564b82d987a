use Rattle.std.proofs.Common.{◌≡◌, ◌++◌, ◌∙◌, subst}
use Rattle.std.specs.Prelude.{IfOk}
use Rattle.bind_api.specs.Binding.{not_bound}
use Rattle.bind_api.proofs.replying.unknown_binding.Goals as goal

pub returns : goal.returns
returns c =
    let pushed = c.in_ok-push.ensures.ok ∙ (λ i. c.in_ok-text.ensures i ++ c.as_str.ensures.value i) in
    subst (λ text. IfOk c.not_bound.result (λ response. response ≡ not_bound text)) (c.as_str-2.ensures.value ∙ pushed) c.not_bound.ensures
