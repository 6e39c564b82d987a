use Rattle.std.proofs.Common.{◌∙◌, ap, sym, subst, Some, bytes_eq}
use Rattle.json_text.specs.Forest.{grows}
use Rattle.rule_value.specs.Values.{text, equal}
use Rattle.rule_value.specs.Standing.{Is, IsToldAt}
use Rattle.rule_value.proofs.compare.equal_text.Goals as goal

pub returns-in-Told : goal.returns-in-Told
returns-in-Told c meant is =
    let told : IsToldAt c.args.doc.now c.in-Told.node meant = subst (λ own. Is c.args.doc.now own meant) c.in-Told.is is in
    let same = c.told.ensures ∙ c.text_bytes.ensures (grows told.spot told.children told.later) told.stands in
    ap Some (c.is_same-in-Told.ensures ∙ ap (bytes_eq c.args.one) same) ∙ ap (equal (text c.args.one)) (sym told.is)
