use Rattle.std.proofs.Common.{◌≡◌, inl, inr, refl, sym, ◌∙◌}
use Rattle.std.proofs.lemmas.Result.{on_ok_weaker}
use Rattle.json_text.specs.declared.spot.Spot.{Spot}
use Rattle.json_text.specs.Shape.{is_null}
use Rattle.cloud_events.proofs.Nodes.{at_value}
use Rattle.cloud_events.proofs.gather.add.Goals as goal

pub returns-then-is_null : goal.returns-then-is_null
returns-then-is_null c = inl ((λ spot at. sym (at_value c.args.doc.now c.args.member.node (λ (s : Spot). c.is_null.result ≡ is_null s.kind) c.is_null.ensures spot at) ∙ c.if-is_null.true), refl)

pub returns-in-Ok : goal.returns-in-Ok
returns-in-Ok c = on_ok_weaker c.push.result (λ e. inr (c.in-Ok.item, (c.in-Ok.ensures.name, λ spot at. (sym (at_value c.args.doc.now c.args.member.node (λ (s : Spot). c.is_null.result ≡ is_null s.kind) c.is_null.ensures spot at) ∙ c.if-is_null.false, c.in-Ok.ensures.same spot at)), e)) c.push.ensures
