use Rattle.std.proofs.Common.{rules}
use Rattle.policy_run.specs.Effects.{Draws, Runs, clocked, times}
use Rattle.link_call.specs.LinkAt.{link_at}
use Rattle.link_call.proofs.Causes.{came_so, has_cause}
use Rattle.link_call.proofs.calling.call_link.Goals as goal

pub returns-clause-came : goal.returns-clause-came
returns-clause-came g c = let e = c.run_call.ensures.attempts in let own = e.2.owned in let place = own.same_link in let asks = own.asks in
    came_so c.args.bound.now (link_at g.L.Link c.args.link.now) (link_at g.L.Link _) (Runs g.G.Guard.held c.args.guard.now c.run_call.new.guard) (times g.C.Clock c.args.clock.now c.run_call.new.clock) (Draws g.R.Rng.stream c.args.rng.now c.run_call.new.rng) c.args.request.now c.run_call.result
    (e.0, e.1, record { owned = search rules; guards = e.2.guards; times = e.2.times; pauses = e.2.pauses; ticks = e.2.ticks; words = e.2.words })

pub returns-clause-cause : goal.returns-clause-cause
returns-clause-cause g c = let e = c.run_call.ensures.attempts in let own = e.2.owned in let place = own.same_link in let asks = own.asks in
    has_cause c.args.bound.now (link_at g.L.Link c.args.link.now) (link_at g.L.Link _) (Runs g.G.Guard.held c.args.guard.now c.run_call.new.guard) (clocked g.C.Clock c.args.clock.now) (clocked g.C.Clock c.run_call.new.clock) (Draws g.R.Rng.stream c.args.rng.now c.run_call.new.rng) c.args.request.now c.run_call.result
    (e.0, e.1, record { owned = search rules; guards = e.2.guards; times = e.2.times; pauses = e.2.pauses; ticks = e.2.ticks; words = e.2.words })
