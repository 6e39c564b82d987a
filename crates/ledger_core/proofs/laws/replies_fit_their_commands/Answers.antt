use Rattle.ledger_core.specs.Ledger.{plans_of}
use Rattle.ledger_core.specs.Course.{course_of}
use Rattle.ledger_core.proofs.Fitting.{fits}
use Rattle.ledger_core.proofs.laws.replies_fit_their_commands.Goals as goal

pub returns : goal.returns
returns c = λ first history legal before after entry is. fits (plans_of first) (course_of before) entry.cmd entry.reply (legal.each before after entry is).1.reply
