use Rattle.std.proofs.Common.{refl, inl, []}
use Rattle.policy_run.specs.Effects.{Draws, clocked, times}
use Rattle.policy_run.proofs.Composed.{no_effects}
use Rattle.link_call.specs.LinkAt.{asks_none, link_at}
use Rattle.delivery_turn.specs.Stepping.{AsksApp}
use Rattle.delivery_turn.specs.Turning.{setting_of}
use Rattle.delivery_turn.proofs.Posted.{posts_from, refused_until}
use Rattle.delivery_turn.proofs.Raised.{effects_raised, raised}
use Rattle.delivery_turn.proofs.posting.post.Goals as goal

pub returns-in-Ok-clause-posts : goal.returns-in-Ok-clause-posts
returns-in-Ok-clause-posts g c =
    let made = c.call_link.ensures.came in (
      raised made.0,
      posts_from (setting_of c.args.what.now) c.args.row.now (link_at g.L.Link c.args.link.now) (link_at g.L.Link c.call_link.new.link) (times g.C.Clock c.args.clock.now c.call_link.new.clock) c.call_link.result made.0 c.once.result c.in-Ok.request c.once.ensures c.in-Ok.ensures made.1,
      effects_raised made.0 (link_at g.L.Link c.args.link.now) (link_at g.L.Link c.call_link.new.link) (λ xs. g.G.Guard.held c.args.guard.now xs c.call_link.new.guard) (clocked g.C.Clock c.args.clock.now) (clocked g.C.Clock c.call_link.new.clock) (Draws g.R.Rng.stream c.args.rng.now c.call_link.new.rng) made.2,
    )

pub returns-in-Ok-clause-until : goal.returns-in-Ok-clause-until
returns-in-Ok-clause-until g c until e =
    let made = c.call_link.ensures.came in
    refused_until (setting_of c.args.what.now) c.args.row.now c.call_link.result (raised made.0) until
    (posts_from (setting_of c.args.what.now) c.args.row.now (link_at g.L.Link c.args.link.now) (link_at g.L.Link c.call_link.new.link) (times g.C.Clock c.args.clock.now c.call_link.new.clock) c.call_link.result made.0 c.once.result c.in-Ok.request c.once.ensures c.in-Ok.ensures made.1) e

pub returns-in-Err-clause-posts : goal.returns-in-Err-clause-posts
returns-in-Err-clause-posts g c = (
  [],
  inl refl,
  no_effects (AsksApp (link_at g.L.Link c.args.link.now) (link_at g.L.Link c.args.link.now)) (λ xs. g.G.Guard.held c.args.guard.now xs c.args.guard.now) (clocked g.C.Clock c.args.clock.now) (Draws g.R.Rng.stream c.args.rng.now c.args.rng.now)
      (record { steps = refl; calls = asks_none (link_at g.L.Link c.args.link.now) }) (g.met.G.Guard.none _ c.requires.guard) refl,
)
