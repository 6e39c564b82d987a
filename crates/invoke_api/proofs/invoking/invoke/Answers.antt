use Rattle.std.proofs.Common.{refl}
use Rattle.policy_run.specs.Effects.{Draws, Runs, clocked, times}
use Rattle.link_call.specs.LinkAt.{link_at}
use Rattle.invoke_api.specs.Places.{apps_of}
use Rattle.invoke_api.proofs.Answering.{called_so, shows_count, status_so, uncalled, unplaced_count, unplaced_status}
use Rattle.invoke_api.proofs.invoking.invoke.Goals as goal

pub returns-in-Ok-clause-invokes : goal.returns-in-Ok-clause-invokes
returns-in-Ok-clause-invokes g c =
    called_so (apps_of c.args.peers) c.args.request.now c.args.app.now c.args.rest.now (Runs g.G.Guard.held c.args.guard.now c.call_link-outcome.new.guard) (Draws g.R.Rng.stream c.args.rng.now c.call_link-outcome.new.rng)
    c.args.bound.now (link_at g.L.Link c.args.link.now) (link_at g.L.Link c.call_link-outcome.new.link) (times g.C.Clock c.args.clock.now c.call_link-outcome.new.clock) c.in-Ok.asked c.call_link-outcome.result c.replied.result
    c.in-Ok.ensures c.replied.ensures c.call_link-outcome.ensures.came

pub returns-in-Err-clause-invokes : goal.returns-in-Err-clause-invokes
returns-in-Err-clause-invokes g c =
    uncalled (apps_of c.args.peers) c.args.request.now c.args.app.now c.args.rest.now (Runs g.G.Guard.held c.args.guard.now c.args.guard.now) (Draws g.R.Rng.stream c.args.rng.now c.args.rng.now)
    c.args.bound.now (link_at g.L.Link c.args.link.now) (clocked g.C.Clock c.args.clock.now) c.in-Err.why c.unplaced.result
    c.in-Err.ensures c.unplaced.ensures (g.met.G.Guard.none _ c.requires.guard) refl

pub returns-in-Ok-clause-status : goal.returns-in-Ok-clause-status
returns-in-Ok-clause-status g c = status_so c.args.bound.now (link_at g.L.Link c.args.link.now) (link_at g.L.Link c.call_link-outcome.new.link) (clocked g.C.Clock c.args.clock.now) (clocked g.C.Clock c.call_link-outcome.new.clock) c.call_link-outcome.result c.replied.result c.call_link-outcome.ensures.cause c.replied.ensures

pub returns-in-Err-clause-status : goal.returns-in-Err-clause-status
returns-in-Err-clause-status g c = unplaced_status c.args.app.now c.in-Err.why c.unplaced.result c.unplaced.ensures

pub returns-in-Ok-clause-shows : goal.returns-in-Ok-clause-shows
returns-in-Ok-clause-shows g c = shows_count (g.G.Guard.shows c.call_link-outcome.new.guard) c.call_link-outcome.result c.replied.result c.replied.ensures c.call_link-outcome.ensures.shows

pub returns-in-Err-clause-shows : goal.returns-in-Err-clause-shows
returns-in-Err-clause-shows g c = unplaced_count (g.G.Guard.shows c.args.guard.now) c.args.app.now c.in-Err.why c.unplaced.result c.unplaced.ensures
