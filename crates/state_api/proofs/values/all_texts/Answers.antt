use Rattle.std.proofs.Common.{◌<◌, length, sym, subst, ◌∙◌, arith}
use Rattle.std.proofs.Common.{below_more}
use Rattle.std.proofs.lemmas.List.{get_or_default}
use Rattle.json_text.specs.declared.last.Member.{Member}
use Rattle.state_api.specs.Values.{IsAt}
use Rattle.state_api.proofs.values.all_texts.Goals as goal

pub loop-i-preserved : goal.loop-i-preserved
loop-i-preserved c =
    let lt : c.loop-i.i < length c.args.members.now = omega arith in
    below_more _ _ c.loop-i.invariant (λ some value at.
    sym (c.is_text.ensures value (subst (λ (m : Member). IsAt c.args.doc.now m.node value) (get_or_default c.args.members.now c.loop-i.i some c.at.result.now lt ∙ sym c.at.ensures) at)) ∙ c.if-not-is_text.false)

pub returns : goal.returns
returns c k lt = c.loop-i.invariant k (omega arith)
