use Rattle.std.proofs.Common.{◌∙◌, ap, sym, subst}
use Rattle.json_text.specs.Forest.{grows}
use Rattle.rule_value.specs.Values.{as_number, number_or_error}
use Rattle.rule_value.specs.Wholes.{whole_of}
use Rattle.rule_value.specs.Standing.{Is, IsToldAt}
use Rattle.rule_value.proofs.compare.as_number.Goals as goal

pub returns-in-Told-clause-value : goal.returns-in-Told-clause-value
returns-in-Told-clause-value c meant is =
    let told : IsToldAt c.args.doc.now c.in-Told.node meant = subst (λ own. Is c.args.doc.now own meant) c.in-Told.is is in
    let same = c.told.ensures ∙ c.text_bytes.ensures (grows told.spot told.children told.later) told.stands in
    subst (λ own. Is c.args.doc.now c.number_or_error-in-Told.result own) (ap number_or_error (c.whole_of-in-Told.ensures ∙ ap whole_of same) ∙ ap as_number (sym told.is)) (c.number_or_error-in-Told.ensures.value c.args.doc.now)

pub returns-in-Own-clause-readable : goal.returns-in-Own-clause-readable
returns-in-Own-clause-readable c = c.number_or_error.ensures.readable c.args.doc.now

pub returns-in-Told-clause-readable : goal.returns-in-Told-clause-readable
returns-in-Told-clause-readable c = c.number_or_error-in-Told.ensures.readable c.args.doc.now
