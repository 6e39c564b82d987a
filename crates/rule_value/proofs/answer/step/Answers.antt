use Rattle.rule_value.proofs.Answering.{one_readable, two_readable}
use Rattle.rule_value.proofs.answer.step.Goals as goal

pub returns-in-Called-clause-readable : goal.returns-in-Called-clause-readable
returns-in-Called-clause-readable c = two_readable c.args.doc.now c.pop_two.ensures.values c.push-in-Called.ensures.values c.requires.readable (c.flag_or_error.ensures.readable c.args.doc.now)

pub returns-in-Not-clause-readable : goal.returns-in-Not-clause-readable
returns-in-Not-clause-readable c = one_readable c.args.doc.now c.pop-value-in-Not.ensures.values c.push-in-Not.ensures.values c.requires.readable (c.flag_or_error-in-Not.ensures.readable c.args.doc.now)

pub returns-in-Both-clause-readable : goal.returns-in-Both-clause-readable
returns-in-Both-clause-readable c = two_readable c.args.doc.now c.pop_two-in-Both.ensures.values c.push-in-Both.ensures.values c.requires.readable (c.flag_or_error-in-Both.ensures.readable c.args.doc.now)

pub returns-in-Either-clause-readable : goal.returns-in-Either-clause-readable
returns-in-Either-clause-readable c = two_readable c.args.doc.now c.pop_two-in-Either.ensures.values c.push-in-Either.ensures.values c.requires.readable (c.flag_or_error-in-Either.ensures.readable c.args.doc.now)

pub returns-in-Test-clause-readable : goal.returns-in-Test-clause-readable
returns-in-Test-clause-readable c = two_readable c.args.doc.now c.pop_two-in-Test.ensures.values c.push-in-Test.ensures.values c.requires.readable (c.flag_or_error-in-Test.ensures.readable c.args.doc.now)
