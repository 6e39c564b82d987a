use Rattle.std.proofs.Common.{ap, sym, ◌∙◌, subst}
use Rattle.ledger_core.specs.declared.command.LedgerCmd.{LedgerCmd}
use Rattle.ledger_core.specs.declared.command.LedgerCmd.TheVariants.{Accept, Take}
use Rattle.ledger_core.specs.declared.reply.LedgerReply.TheVariants.{Counts}
use Rattle.ledger_core.specs.After.{IsStepOf}
use Rattle.ledger_core.proofs.InHands.{counts_step}
use Rattle.ledger_core.proofs.ledger.answered.Goals as goal

pub returns-in-Take-clause-step : goal.returns-in-Take-clause-step
returns-in-Take-clause-step c = λ course is_book shows.
    subst (λ (cmd : LedgerCmd). IsStepOf c.args.plans.now course cmd c.take.result c.take.new.books) (ap Take c.ms-in-Take.ensures.same ∙ sym c.in-Take.is) (c.take.ensures.step c.args.plans.now course is_book shows)

pub returns-in-Counts-clause-step : goal.returns-in-Counts-clause-step
returns-in-Counts-clause-step c = λ course is_book shows.
    subst (λ (cmd : LedgerCmd). IsStepOf c.args.plans.now course cmd (Counts c.args.books.now.owed c.args.books.now.done c.args.books.now.dropped c.args.books.now.dead) c.args.books.now) (sym c.in-Counts.is) (counts_step c.args.plans.now course c.args.books.now shows)

pub returns-in-Accept-clause-step : goal.returns-in-Accept-clause-step
returns-in-Accept-clause-step c = λ course is_book shows.
    subst (λ (cmd : LedgerCmd). IsStepOf c.args.plans.now course cmd c.accept.result c.accept.new.books) (ap (Accept c.in-Accept.event c.in-Accept.aims) c.ms.ensures.same ∙ sym c.in-Accept.is) (c.accept.ensures.step course is_book shows)
