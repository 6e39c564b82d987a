use Rattle.std.proofs.Common.{None, arith, get_or}
use Rattle.std.proofs.lemmas.List.{drop_all}
use Rattle.retry_core.specs.declared.policy.Bound.{Bound}
use Rattle.sidecar_objects.specs.Kind.{breakers, ledgers}
use Rattle.sidecar_objects.specs.Composed.{pass_stays}
use Rattle.sidecar_turns.proofs.InOrder.{asked_all, asked_busy, asked_idle, asked_none, bound_there}
use Rattle.sidecar_turns.proofs.delivering.deliver_each.Goals as goal

abbrev no_bound : Bound
no_bound = record { timeout_ms = None; retry = None; breaker = None }

pub loop-place-init : goal.loop-place-init
loop-place-init g c = record { so_far = asked_none c.args.app.now.port c.args.app.now.subs.now c.args.app.now.inbound.now _ _ _ }

pub turn_at-requires-clause-limits : goal.turn_at-requires-clause-limits
turn_at-requires-clause-limits g c = c.requires.limits c.loop-place.place no_bound (omega (arith, c.loop-place-test.true, c.loop-place.auto.place-end))

pub turn_at-requires-clause-ledgers : goal.turn_at-requires-clause-ledgers
turn_at-requires-clause-ledgers g c = (pass_stays _ _ _ _ _ c.loop-place.invariant.so_far.went c.requires.pass).each ledgers

pub turn_at-requires-clause-breakers : goal.turn_at-requires-clause-breakers
turn_at-requires-clause-breakers g c = (pass_stays _ _ _ _ _ c.loop-place.invariant.so_far.went c.requires.pass).each breakers

pub returns-in_default : goal.returns-in_default
returns-in_default g c =
    let there = bound_there c.args.app.now.inbound.now c.loop-place.place no_bound (omega (arith, c.loop-place-test.true, c.loop-place.auto.place-end)) in record {
      does = asked_busy c.args.app.now.port c.args.app.now.subs.now c.args.app.now.inbound.now _ _ _ _ _ c.loop-place.place _ there c.loop-place.next c.loop-place.invariant.so_far c.turn_at.result (λ idle. c.in_default.not-Idle idle.0 idle.1) c.turn_at.ensures.does;
      shows = λ count is. record { place = c.loop-place.place; bound = get_or c.args.app.now.inbound.now c.loop-place.place no_bound; there = there; shown = c.turn_at.ensures.shows count is };
    }

pub loop-place-preserved : goal.loop-place-preserved
loop-place-preserved g c =
    let there = bound_there c.args.app.now.inbound.now c.loop-place.place no_bound (omega (arith, c.loop-place-test.true, c.loop-place.auto.place-end)) in record {
      so_far = asked_idle c.args.app.now.port c.args.app.now.subs.now c.args.app.now.inbound.now _ _ _ _ _ c.loop-place.place _ there c.loop-place.next c.loop-place.invariant.so_far c.in-Idle.later c.earlier-next.result c.earlier-next.ensures c.in-Idle.ensures.does;
    }

pub returns-clause-does : goal.returns-clause-does
returns-clause-does g c = asked_all c.args.app.now.port c.args.app.now.subs.now c.args.app.now.inbound.now _ _ _ _ c.loop-place.place (drop_all c.loop-place.place c.args.app.now.inbound.now (omega (arith, c.loop-place-test.false))) c.loop-place.next c.loop-place.invariant.so_far
