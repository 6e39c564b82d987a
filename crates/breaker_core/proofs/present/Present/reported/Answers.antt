use Rattle.std.proofs.Common.{refl, Some, None}
use Rattle.breaker_core.proofs.Reports.{after_report, few_begun, few_counted}
use Rattle.breaker_core.proofs.present.Present.reported.Goals as goal

pub returns-in-Some-clause-after : goal.returns-in-Some-clause-after
returns-in-Some-clause-after c = λ g gs seat moment is.
    after_report c.args.policy.now c.args.now seat c.args.generation moment c.args.good g gs c.args.self c.with_report-counted.result c.begun-after.result (Some c.in-Some.phase) is c.with_report-counted.ensures c.in-Some.ensures c.begun-after.ensures

pub returns-in-None-clause-after : goal.returns-in-None-clause-after
returns-in-None-clause-after c = λ g gs seat moment is.
    after_report c.args.policy.now c.args.now seat c.args.generation moment c.args.good g gs c.args.self c.with_report-counted.result c.with_report-counted.result None is c.with_report-counted.ensures c.in-None.ensures refl

pub returns-in-Some-clause-few : goal.returns-in-Some-clause-few
returns-in-Some-clause-few c = λ most few. few_begun most c.args.now c.args.good c.args.self c.with_report-counted.result _ _ few c.with_report-counted.ensures c.begun-after.ensures

pub returns-in-None-clause-few : goal.returns-in-None-clause-few
returns-in-None-clause-few c = λ most few. few_counted most c.args.now c.args.good c.args.self _ few c.with_report-counted.ensures
