use Rattle.std.proofs.Common.{[], ◌∷◌, refl, subst}
use Rattle.side_base.specs.declared.message.LinkRequest.{LinkRequest}
use Rattle.side_world.specs.Told.{Tells}
use Rattle.sidecar_cli.specs.Subscribed.{asked}
use Rattle.sidecar_cli.proofs.subscribing.subscribed.Goals as goal

pub returns-in-Ok : goal.returns-in-Ok
returns-in-Ok g c = let e = c.call.ensures in asked c.in-Some.port c.call.result c.in-Some.is (record {
  told = subst (λ (r : LinkRequest). Tells (g.L.Link.calls c.args.link.now) (g.L.Link.calls c.call.new.self) (record { request = r; limit_ms = 0; answer = c.call.result } ∷ [])) c.in-Ok.ensures e.calls;
  faults = (g.L.Link.faults c.call.new.self, e.faults, e.no_fewer, refl);
  expiries = (g.L.Link.expiries c.call.new.self, e.expiries, e.no_fewer_expiries, refl);
  replies = (e.reply, tt);
}) c.heard.ensures
