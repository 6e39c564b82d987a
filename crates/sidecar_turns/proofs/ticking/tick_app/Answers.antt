use Rattle.std.proofs.Common.{◌∙◌, ◌<◌, arith, get_or, inr, length, refl, sym}
use Rattle.link_call.specs.LinkAt.{link_at}
use Rattle.sidecar_objects.specs.Kind.{breakers}
use Rattle.sidecar_objects.specs.Composed.{pass_stays}
use Rattle.sidecar_turns.proofs.Ticked.{came_spent, cron_there, idle_app, never_app, nothing_ticks, something_ticks, ticked_app}
use Rattle.sidecar_turns.proofs.ticking.tick_app.Goals as goal

pub returns-then-is_empty-clause-does : goal.returns-then-is_empty-clause-does
returns-then-is_empty-clause-does g c = never_app c.args.app.now.port c.args.app.now.crons.now _ _ _ (nothing_ticks c.args.app.now.crons.now c.is_empty.result c.is_empty.ensures c.if-is_empty.true)

pub post_at-requires-clause-limits : goal.post_at-requires-clause-limits
post_at-requires-clause-limits g c = c.requires.limits c.in-Tick.place c.index-app-place.result (omega (arith, c.in-Tick.ensures.there c.in-Tick.place refl, c.requires.cells.periods))

pub post_at-requires-clause-breakers : goal.post_at-requires-clause-breakers
post_at-requires-clause-breakers g c = (pass_stays _ _ _ _ _ (c.in-Tick.ensures.does (link_at g.L.Link c.args.link.now) (g.R.Rng.stream c.args.rng.now)).went c.requires.pass).each breakers

pub returns-in-Tick-clause-does : goal.returns-in-Tick-clause-does
returns-in-Tick-clause-does g c =
    let low : c.in-Tick.place < length c.args.app.now.crons.now = omega (arith, c.in-Tick.ensures.there c.in-Tick.place refl, c.requires.cells.periods) in
    ticked_app c.args.app.now.port c.args.app.now.crons.now _ _ _ (something_ticks c.args.app.now.crons.now c.is_empty.result c.is_empty.ensures c.if-is_empty.false) _ _ c.in-Tick.place (get_or c.args.app.now.crons.now c.in-Tick.place c.index-app-place.result) c.post_at.result
    c.turn_of.result c.turn_of.ensures (cron_there c.args.app.now.crons.now c.in-Tick.place c.index-app-place.result low) (c.in-Tick.ensures.does (link_at g.L.Link c.args.link.now) (g.R.Rng.stream c.args.rng.now)) c.post_at.ensures.does

pub returns-in-Tick-clause-shows : goal.returns-in-Tick-clause-shows
returns-in-Tick-clause-shows g c = λ count is.
    let low : c.in-Tick.place < length c.args.app.now.crons.now = omega (arith, c.in-Tick.ensures.there c.in-Tick.place refl, c.requires.cells.periods) in inr (record {
      place = c.in-Tick.place;
      cron = get_or c.args.app.now.crons.now c.in-Tick.place c.index-app-place.result;
      there = cron_there c.args.app.now.crons.now c.in-Tick.place c.index-app-place.result low;
      shown = c.post_at.ensures.shows count (came_spent c.post_at.result count (sym c.turn_of.ensures ∙ is));
    })

pub returns-in-Ended-clause-does : goal.returns-in-Ended-clause-does
returns-in-Ended-clause-does g c = idle_app c.args.app.now.port c.args.app.now.crons.now _ _ _ (something_ticks c.args.app.now.crons.now c.is_empty.result c.is_empty.ensures c.if-is_empty.false) _ c.in-Ended.turn
    (c.in-Ended.ensures.does (link_at g.L.Link c.args.link.now) (g.R.Rng.stream c.args.rng.now))
