use Rattle.std.proofs.Common.{arith, ap, ◌∙◌}
use Rattle.policy_run.specs.Effects.{clocked}
use Rattle.link_call.specs.Linked.{heard}
use Rattle.link_call.specs.LinkAt.{link_at}
use Rattle.link_call.proofs.Attempting.{limited, unlimited}
use Rattle.link_call.proofs.asking.AskingOperation.attempt.Goals as goal

pub returns-then-limit-eq0-clause-made : goal.returns-then-limit-eq0-clause-made
returns-then-limit-eq0-clause-made g c =
    unlimited c.args.self.now.request.now c.args.self.now.link.ghost_name (link_at g.L.Link c.args.self.now.link.now) (link_at g.L.Link c.call.new.self) c.args.limit c.call.result c.heard.result
    (record { told = c.call.ensures.calls; faults = c.call.ensures.faults; no_fewer = c.call.ensures.no_fewer; expiries = c.call.ensures.expiries; no_fewer_expiries = c.call.ensures.no_fewer_expiries; reply = c.call.ensures.reply })
    (clocked g.C.Clock c.args.clock.now) c.if-limit-eq0.true c.heard.ensures

pub returns-clause-made : goal.returns-clause-made
returns-clause-made g c =
    limited c.args.self.now.request.now c.args.self.now.link.ghost_name (link_at g.L.Link c.args.self.now.link.now) (link_at g.L.Link c.call-answer.new.self) c.args.limit c.call-answer.result c.heard-2.result
    (record { told = c.call-answer.ensures.calls; faults = c.call-answer.ensures.faults; no_fewer = c.call-answer.ensures.no_fewer; expiries = c.call-answer.ensures.expiries; no_fewer_expiries = c.call-answer.ensures.no_fewer_expiries; reply = c.call-answer.ensures.reply })
    (clocked g.C.Clock c.args.clock.now) (clocked g.C.Clock c.now-before.new.self) (clocked g.C.Clock c.now-after.new.self) c.now-before.result c.now-after.result
    (record { later = c.now-before.ensures.later; last = c.now-before.ensures.last; paused = c.now-before.ensures.paused; ticks = c.now-before.ensures.ticks })
    (record { later = c.now-after.ensures.later; last = c.now-after.ensures.last; paused = c.now-after.ensures.paused; ticks = c.now-after.ensures.ticks })
    (omega (arith, c.if-limit-eq0.false)) (c.heard-2.ensures ∙ ap (heard c.call-answer.result) c.is_late.ensures)
