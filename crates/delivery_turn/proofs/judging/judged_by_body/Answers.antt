use Rattle.std.proofs.Common.{ap, ◌∙◌, subst, Err}
use Rattle.json_text.specs.Doc.{Shows}
use Rattle.json_text.specs.Faults.{IsFirstBad, IsFirstDeep}
use Rattle.delivery_turn.proofs.Choosing.{judged_read, judged_bad, judged_deep}
use Rattle.delivery_turn.proofs.judging.judged_by_body.Goals as goal

pub returns-in-Ok : goal.returns-in-Ok
returns-in-Ok c =
    judged_read c.args.response.now c.requires.good c.requires.some c.the_root_is_the_value_of_the_text.ensures c.in-Ok.doc c.verdict.result
    (subst (λ body. Shows c.in-Ok.doc body) c.bytes.ensures c.in-Ok.ensures.ok) c.verdict.ensures

pub returns-in-Err-Bad : goal.returns-in-Err-Bad
returns-in-Err-Bad c =
    judged_bad c.args.response.now c.requires.good c.requires.some c.in-Err-Bad.field-0-0 c.verdict-in-Err-Bad.result
    (subst (λ body. IsFirstBad body c.in-Err-Bad.field-0-0) c.bytes.ensures (c.read.ensures.bad c.in-Err-Bad.field-0-0 (c.in-Err-Bad.is ∙ ap Err c.in-Err-Bad.field-0-is))) c.verdict-in-Err-Bad.ensures

pub returns-in-Err-Deep : goal.returns-in-Err-Deep
returns-in-Err-Deep c =
    judged_deep c.args.response.now c.requires.good c.requires.some c.in-Err-Deep.field-0-0 c.verdict-in-Err-Deep.result
    (subst (λ body. IsFirstDeep body c.in-Err-Deep.field-0-0) c.bytes.ensures (c.read.ensures.deep c.in-Err-Deep.field-0-0 (c.in-Err-Deep.is ∙ ap Err c.in-Err-Deep.field-0-is))) c.verdict-in-Err-Deep.ensures
