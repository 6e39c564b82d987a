use Rattle.std.proofs.Common.{◌∙◌, ap₂}
use Rattle.std.proofs.lemmas.Result.{IfOk-weaker}
use Rattle.clap.specs.Words.{with_rule}
use Rattle.sidecar_words.proofs.command.command.Goals as goal

pub returns : goal.returns
returns c =
    let app = c.in_ok-arg.ensures.shape c.option.ensures.local ∙ ap₂ with_rule c.bare.ensures c.option.ensures.rule in
    let resources = c.in_ok-arg-2.ensures.shape c.option-2.ensures.local ∙ ap₂ with_rule app c.option-2.ensures.rule in
    let port = c.in_ok-arg-3.ensures.shape c.option-3.ensures.local ∙ ap₂ with_rule resources c.option-3.ensures.rule in
    let app_port = c.in_ok-arg-4.ensures.shape c.option-4.ensures.local ∙ ap₂ with_rule port c.option-4.ensures.rule in
    let workers = c.in_ok-arg-5.ensures.shape c.option-5.ensures.local ∙ ap₂ with_rule app_port c.option-5.ensures.rule in
    let peers = c.in_ok-arg-6.ensures.shape c.option-6.ensures.local ∙ ap₂ with_rule workers c.option-6.ensures.rule in
    let drill = c.in_ok-arg-7.ensures.shape c.option-7.ensures.local ∙ ap₂ with_rule peers c.option-7.ensures.rule in
    let stdio = c.in_ok-arg-8.ensures.shape c.flag.ensures.local ∙ ap₂ with_rule drill c.flag.ensures.rule in
    IfOk-weaker c.arg-9.result _ _ (λ command h. h.shape c.flag-2.ensures.local ∙ ap₂ with_rule stdio c.flag-2.ensures.rule) c.arg-9.ensures
