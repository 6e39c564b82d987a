use Rattle.std.proofs.Common.{sym, subst, ◌∙◌, refl}
use Rattle.json_text.specs.Doc.{bytes_read}
use Rattle.state_api.specs.declared.what.What.TheVariants.{Shape}
use Rattle.state_api.specs.Given.{Gives}
use Rattle.state_api.specs.Raw.{few_of, list_of}
use Rattle.state_api.proofs.Nodes.{at_some, at_none}
use Rattle.state_api.proofs.Following.{held, failed}
use Rattle.state_api.proofs.Fewness.{few_failed}
use Rattle.std.specs.Prelude.{◌≡◌, Err}
use Rattle.state_api.proofs.part.read_listed.Goals as goal

pub returns-then-not-is_map : goal.returns-then-not-is_map
returns-then-not-is_map g c value at = few_failed _ _ (failed _ _ _ (sym (c.is_map.ensures value at) ∙ c.if-not-is_map.true))

pub returns-in-Some : goal.returns-in-Some
returns-in-Some g c value at =
    subst (λ all. Gives c.read_list.result (few_of all)) (sym (held _ _ _ _ (sym (c.is_map.ensures value at) ∙ c.if-not-is_map.false) refl))
    (at_some c.args.doc.now c.member.result c.in-Some.list (λ v. Gives c.read_list.result (few_of (list_of (g.P.Part.says (bytes_read c.args.doc.now)) v))) c.in-Some.is c.read_list.ensures _ (c.member.ensures.member value at))

pub returns-in-None : goal.returns-in-None
returns-in-None g c value at = few_failed _ _ (held _ _ _ _ (sym (c.is_map.ensures value at) ∙ c.if-not-is_map.false)
    (at_none c.args.doc.now c.member.result (λ v. list_of (g.P.Part.says (bytes_read c.args.doc.now)) v ≡ Err Shape) c.in-None.is refl _ (c.member.ensures.member value at)))
