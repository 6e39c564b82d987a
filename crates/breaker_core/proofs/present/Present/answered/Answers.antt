use Rattle.breaker_core.proofs.present.Present.answered.Goals as goal

pub returns-in-Admit-clause-few : goal.returns-in-Admit-clause-few
returns-in-Admit-clause-few c = λ most few. c.admitted.ensures.few most c.args.now few

pub returns-in-Report-clause-reply : goal.returns-in-Report-clause-reply
returns-in-Report-clause-reply c = λ g gs is. rw c.in-Report.is (c.reported.ensures.reply g gs c.in-Report.now is)
