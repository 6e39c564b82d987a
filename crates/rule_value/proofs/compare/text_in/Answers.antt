use Rattle.std.proofs.Common.{◌∙◌, ap, sym, subst, Some}
use Rattle.json_text.specs.Forest.{grows}
use Rattle.rule_value.specs.Values.{text_in}
use Rattle.rule_value.specs.Standing.{Is, IsReadable, IsToldAt}
use Rattle.rule_value.proofs.Texts.{told_utf8}
use Rattle.std.proofs.lemmas.Str.{IsUtf8-from_is_utf8}
use Rattle.rule_value.proofs.compare.text_in.Goals as goal

pub returns-in-Own-clause-utf8 : goal.returns-in-Own-clause-utf8
returns-in-Own-clause-utf8 c = IsUtf8-from_is_utf8 c.in-Own.text.now (subst (IsReadable c.args.doc.now) c.in-Own.is c.requires)

pub returns-in-Told-clause-utf8 : goal.returns-in-Told-clause-utf8
returns-in-Told-clause-utf8 c = told_utf8 c.args.doc.now c.in-Told.node c.text.result.now (subst (IsReadable c.args.doc.now) c.in-Told.is c.requires) c.text.ensures

pub returns-in-Told-clause-text : goal.returns-in-Told-clause-text
returns-in-Told-clause-text c meant is =
    let told : IsToldAt c.args.doc.now c.in-Told.node meant = subst (λ own. Is c.args.doc.now own meant) c.in-Told.is is in
    ap Some (c.text.ensures (grows told.spot told.children told.later) told.stands) ∙ ap text_in (sym told.is)
