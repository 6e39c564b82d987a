use Rattle.rule_value.proofs.Answering.{item_readable}
use Rattle.rule_value.proofs.answer.item.Goals as goal

pub returns-clause-readable : goal.returns-clause-readable
returns-clause-readable c = item_readable c.args.doc.now c.pop-last.ensures.values c.pop-found.ensures.values c.pop-wanted.ensures.values c.push.ensures.values c.push-2.ensures.values c.requires.readable (c.flag_or_error.ensures.readable c.args.doc.now)
