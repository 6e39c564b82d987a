use Rattle.std.proofs.Common.{◌<◌, sym, subst, ap, ◌∙◌, inl, inr}
use Rattle.std.specs.Prelude.{None}
use Rattle.delivery_turn.specs.declared.taking.Taking.TheVariants as taking
use Rattle.turn_cell.proofs.Growing.{still_of}
use Rattle.policy_run.specs.Effects.{clocked}
use Rattle.link_call.specs.LinkAt.{link_at}
use Rattle.delivery_turn.specs.Turning.{AreSettlingAims, setting_of}
use Rattle.delivery_turn.proofs.Assembled.{idled_from, turned_from}
use Rattle.delivery_turn.proofs.Early.{within_years, spent_by}
use Rattle.delivery_turn.proofs.turning.turn.Goals as goal

pub settling_of-settling-requires : goal.settling_of-settling-requires
settling_of-settling-requires g c = subst (λ n. c.in-Row.row.sub < n) c.requires.plans (c.take.ensures.planned c.in-Row.row c.in-Row.is)

pub settle-requires-clause-seat : goal.settle-requires-clause-seat
settle-requires-clause-seat g c = still_of _ c.args.cell.now c.args.seat.now _ c.take.new.seat c.take.ensures.takes.2.owned.steps c.requires.seat

pub settle-requires-clause-given : goal.settle-requires-clause-given
settle-requires-clause-given g c = subst (λ n. AreSettlingAims n c.settling_of-settling.result) (sym c.requires.plans) c.settling_of-settling.ensures.given

pub settle-requires-clause-until : goal.settle-requires-clause-until
settle-requires-clause-until g c =
    let made = c.settling_of-settling.ensures.settled (record { last = 0; paused = 0; ticks = None }) in
    within_years c.args.what.now.subs.now c.in-Row.row c.settling_of-settling.result made.0 c.post-outcome.result made.1 c.post-outcome.ensures.until

pub returns-in-Row-clause-delivers : goal.returns-in-Row-clause-delivers
returns-in-Row-clause-delivers g c =
    turned_from _ c.args.cell.now (setting_of c.args.what.now) c.args.seat.now c.take.new.seat c.settle.new.seat (link_at g.L.Link c.args.link.now) (link_at g.L.Link c.post-outcome.new.link) (λ xs. g.G.Guard.held c.args.guard.now xs c.post-outcome.new.guard)
    (clocked g.C.Clock c.args.clock.now) (clocked g.C.Clock c.take.new.clock) (clocked g.C.Clock c.post-outcome.new.clock) (clocked g.C.Clock c.settle.new.clock) (g.R.Rng.stream c.args.rng.now) (g.R.Rng.stream c.post-outcome.new.rng) (g.R.Rng.stream c.settling_of-settling.new.rng)
    c.take.result c.in-Row.row c.post-outcome.result c.settling_of-settling.result c.settle.result c.in-Row.is c.take.ensures.takes c.post-outcome.ensures.posts (c.settling_of-settling.ensures.settled (clocked g.C.Clock c.post-outcome.new.clock)) c.settle.ensures.settles

pub returns-in-Row-clause-shows : goal.returns-in-Row-clause-shows
returns-in-Row-clause-shows g c count e =
    let made = c.settling_of-settling.ensures.settled (record { last = 0; paused = 0; ticks = None }) in
    elim (c.settle.ensures.shows count e) [
      | inl early ↦ inl (c.post-outcome.ensures.shows count (spent_by c.args.what.now.subs.now c.in-Row.row c.settling_of-settling.result made.0 count early c.post-outcome.result made.1))
      | inr shows ↦ inr shows
    ]

pub returns-in-Ended-clause-delivers : goal.returns-in-Ended-clause-delivers
returns-in-Ended-clause-delivers g c =
    idled_from _ c.args.cell.now (setting_of c.args.what.now) c.args.seat.now c.take.new.seat (link_at g.L.Link c.args.link.now) (λ xs. g.G.Guard.held c.args.guard.now xs c.args.guard.now) (clocked g.C.Clock c.args.clock.now) (clocked g.C.Clock c.take.new.clock) (g.R.Rng.stream c.args.rng.now)
    c.take.result c.in-Ended.turn c.in-Ended.is (g.met.G.Guard.none _ c.requires.guard) c.take.ensures.takes

pub returns-in-Ended-clause-shows : goal.returns-in-Ended-clause-shows
returns-in-Ended-clause-shows g c count e = inr (c.take.ensures.shows count (c.in-Ended.is ∙ ap taking.Ended e))
