use Rattle.std.proofs.Common.{ap, ◌∙◌, Err}
use Rattle.json_text.proofs.FirstFaults.{no_bad, no_deep}
use Rattle.pubsub_api.proofs.Shown.{is_event}
use Rattle.pubsub_api.proofs.message.aims_read.Goals as goal

pub returns-in-Ok-clause-aims : goal.returns-in-Ok-clause-aims
returns-in-Ok-clause-aims c values its =
    c.aims.ensures.aims (record { bytes = c.args.event.now; values = values }) (is_event c.the_root_is_the_value_of_the_text.ensures c.in-Ok.doc c.args.event.now values c.in-Ok.ensures.ok its)

pub unreachable-requires : goal.unreachable-requires
unreachable-requires c = no_bad c.args.event.now c.in-Err-Bad.field-0-0 c.requires.1.clean (c.read.ensures.bad c.in-Err-Bad.field-0-0 (c.in-Err-Bad.is ∙ ap Err c.in-Err-Bad.field-0-is))

pub unreachable-requires-in-Err-Deep : goal.unreachable-requires-in-Err-Deep
unreachable-requires-in-Err-Deep c = no_deep c.args.event.now c.in-Err-Deep.field-0-0 c.requires.1.clean (c.read.ensures.deep c.in-Err-Deep.field-0-0 (c.in-Err-Deep.is ∙ ap Err c.in-Err-Deep.field-0-is))
