use Rattle.std.proofs.Common.{refl}
use Rattle.policy_run.specs.Effects.{Draws, Runs, clocked, times}
use Rattle.link_call.specs.LinkAt.{link_at}
use Rattle.cron_bind.proofs.Called.{posted_so, unposted}
use Rattle.cron_bind.proofs.posting.post.Goals as goal

pub returns-in-Ok-clause-posts : goal.returns-in-Ok-clause-posts
returns-in-Ok-clause-posts g c =
    posted_so c.args.bound.now c.args.app_port c.args.name.now (Runs g.G.Guard.held c.args.guard.now c.call_link.new.guard) (Draws g.R.Rng.stream c.args.rng.now c.call_link.new.rng)
    (link_at g.L.Link c.args.link.now) (link_at g.L.Link c.call_link.new.link) (times g.C.Clock c.args.clock.now c.call_link.new.clock) c.in-Ok.asked c.call_link.result c.told_of.result
    c.in-Ok.ensures c.told_of.ensures c.call_link.ensures.came

pub returns-in-Err-clause-posts : goal.returns-in-Err-clause-posts
returns-in-Err-clause-posts g c =
    unposted c.args.bound.now c.args.app_port c.args.name.now (Runs g.G.Guard.held c.args.guard.now c.args.guard.now) (Draws g.R.Rng.stream c.args.rng.now c.args.rng.now)
    (link_at g.L.Link c.args.link.now) (clocked g.C.Clock c.args.clock.now) (g.met.G.Guard.none _ c.requires.guard) refl
