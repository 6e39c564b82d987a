use Rattle.std.proofs.Common.{ap, ◌∙◌, subst, Err}
use Rattle.json_text.specs.Doc.{Shows}
use Rattle.json_text.specs.Faults.{IsFirstBad, IsFirstDeep}
use Rattle.json_text.proofs.FirstFaults.{no_bad, no_deep}
use Rattle.delivery_turn.proofs.Choosing.{aims_matched, aims_of_none}
use Rattle.delivery_turn.proofs.judging.aims_at.Goals as goal

pub returns-in-Ok-clause-aims : goal.returns-in-Ok-clause-aims
returns-in-Ok-clause-aims c =
    aims_matched c.the_root_is_the_value_of_the_text.ensures c.args.what.now.subs.now c.args.row.now.event c.args.pubsub.now c.args.topic.now c.in-Ok.doc c.aims.result
    (subst (λ event. Shows c.in-Ok.doc event) c.bytes.ensures c.in-Ok.ensures.ok) c.aims.ensures.aims

pub returns-in-Err-Bad-clause-aims : goal.returns-in-Err-Bad-clause-aims
returns-in-Err-Bad-clause-aims c =
    let bad = subst (λ event. IsFirstBad event c.in-Err-Bad.field-0-0) c.bytes.ensures (c.read.ensures.bad c.in-Err-Bad.field-0-0 (c.in-Err-Bad.is ∙ ap Err c.in-Err-Bad.field-0-is)) in
    aims_of_none c.args.what.now.subs.now c.args.row.now.event c.args.pubsub.now c.args.topic.now c.new.result c.new.ensures (λ values its. no_bad c.args.row.now.event c.in-Err-Bad.field-0-0 its.clean bad)

pub returns-in-Err-Deep-clause-aims : goal.returns-in-Err-Deep-clause-aims
returns-in-Err-Deep-clause-aims c =
    let deep = subst (λ event. IsFirstDeep event c.in-Err-Deep.field-0-0) c.bytes.ensures (c.read.ensures.deep c.in-Err-Deep.field-0-0 (c.in-Err-Deep.is ∙ ap Err c.in-Err-Deep.field-0-is)) in
    aims_of_none c.args.what.now.subs.now c.args.row.now.event c.args.pubsub.now c.args.topic.now c.new-in-Err-Deep.result c.new-in-Err-Deep.ensures (λ values its. no_deep c.args.row.now.event c.in-Err-Deep.field-0-0 its.clean deep)
