use Rattle.std.proofs.Common.{arith}
use Rattle.atomic_table.proofs.Lists.{at_index, set_here}
use Rattle.sidecar_turns.proofs.Linked.{asked_gated, asked_plainly}
use Rattle.sidecar_turns.proofs.Placed.{within}
use Rattle.sidecar_turns.proofs.Ticked.{posted_by}
use Rattle.sidecar_turns.proofs.at_cron.post_at.Goals as goal

pub gated-requires-clause-key : goal.gated-requires-clause-key
gated-requires-clause-key g c =
    let low = within c.args.call.now.cron.now.bound.breaker c.in-Some.k c.in-Some.is c.requires.breaker in
    c.requires.breakers.each c.in-Some.k c.index.result.now c.index_mut.result.now
    (at_index c.args.objects.now.breakers.items c.in-Some.k c.index.result.now low c.index.ensures)
    (at_index c.args.pass.now.breakers.items c.in-Some.k c.index_mut.result.now (omega (arith, low, c.requires.breakers.wide)) c.index_mut.ensures.value)

pub returns-in-None-clause-does : goal.returns-in-None-clause-does
returns-in-None-clause-does g c = let r = c.plain.ensures.posts in record {
  events = _;
  held = posted_by c.args.call.now.port c.args.call.now.cron.now c.plain.result _ _ r.0 r.1;
  went = asked_plainly _ _ _ _ _ _ _ _ _ _ r.0 r.2;
}

pub returns-in-Some-clause-does : goal.returns-in-Some-clause-does
returns-in-Some-clause-does g c = let r = c.gated.ensures.posts in let low = within c.args.call.now.cron.now.bound.breaker c.in-Some.k c.in-Some.is c.requires.breaker in record {
  events = _;
  held = posted_by c.args.call.now.port c.args.call.now.cron.now c.gated.result _ _ r.0 r.1;
  went = asked_gated _ _ _ _ _ _ _ _ _ c.args.call.now.cron.now.bound c.in-Some.k c.in-Some.is c.index.result.now c.index_mut.result.now _
      (at_index c.args.objects.now.breakers.items c.in-Some.k c.index.result.now low c.index.ensures)
      (at_index c.args.pass.now.breakers.items c.in-Some.k c.index_mut.result.now (omega (arith, low, c.requires.breakers.wide)) c.index_mut.ensures.value)
      r.0 r.2;
}

pub returns-in-Some-clause-shows : goal.returns-in-Some-clause-shows
returns-in-Some-clause-shows g c = λ count is.
    let low = within c.args.call.now.cron.now.bound.breaker c.in-Some.k c.in-Some.is c.requires.breaker in
    (c.in-Some.k, c.in-Some.is, (c.gated.new.key, set_here c.args.pass.now.breakers.items c.in-Some.k c.gated.new.key (omega (arith, low, c.requires.breakers.wide)), c.gated.ensures.shows count is))
