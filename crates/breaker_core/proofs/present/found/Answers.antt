use Rattle.breaker_core.proofs.present.found.Goals as goal

pub returns-in-Some-clause-few : goal.returns-in-Some-clause-few
returns-in-Some-clause-few c = λ most latest few within. c.next.ensures.few most latest (few c.in-Some.present c.in-Some.is) within
