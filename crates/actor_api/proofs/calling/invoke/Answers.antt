use Rattle.std.proofs.Common.{codes, sym, subst, refl}
use Rattle.policy_run.specs.Effects.{clocked}
use Rattle.link_call.specs.LinkAt.{link_at}
use Rattle.actor_turns.specs.contracts.turns.TurnsObject.TheImpl.{ghosts}
use Rattle.actor_api.specs.Calling.{Invokes, not_invoked}
use Rattle.actor_api.specs.Stepping.{At, Does}
use Rattle.actor_api.proofs.Taken.{not_spent, unmade, with_port, without_port}
use Rattle.actor_api.proofs.calling.invoke.Goals as goal

pub returns-in-None-clause-invokes : goal.returns-in-None-clause-invokes
returns-in-None-clause-invokes g c =
    let at : At = record { seat = c.args.seat.now; link = link_at g.L.Link c.args.link.now; clock = clocked g.C.Clock c.args.clock.now } in
    subst (λ port. Does ghosts c.args.cell.now at at (λ events. Invokes port c.args.what.now.request.now c.args.what.now.actor.now events c.given.result)) (sym c.in-None.is)
    (without_port ghosts c.args.cell.now c.args.what.now.request.now c.args.what.now.actor.now c.given.result at (c.given.ensures (not_invoked (codes "no app port")) c.not_invoked.ensures))

pub returns-in-None-clause-shows : goal.returns-in-None-clause-shows
returns-in-None-clause-shows g c count ended = absurd (not_spent (not_invoked (codes "no app port")) c.given.result count (c.given.ensures (not_invoked (codes "no app port")) c.not_invoked.ensures) ended)

pub returns-in-Ok-clause-invokes : goal.returns-in-Ok-clause-invokes
returns-in-Ok-clause-invokes g c =
    let at : At = record { seat = c.args.seat.now; link = link_at g.L.Link c.args.link.now; clock = clocked g.C.Clock c.args.clock.now } in
    let after : At = record { seat = c.join.new.seat; link = link_at g.L.Link c.join.new.link; clock = clocked g.C.Clock c.join.new.clock } in
    subst (λ port. Does ghosts c.args.cell.now at after (λ events. Invokes port c.args.what.now.request.now c.args.what.now.actor.now events c.join.result)) (sym c.in-Some.is)
    (with_port ghosts c.args.cell.now c.args.what.now.request.now c.args.what.now.actor.now c.join.result at after c.in-Some.port c.in-Ok.asked c.in-Ok.ensures c.join.ensures.joins)

pub returns-in-Err-clause-invokes : goal.returns-in-Err-clause-invokes
returns-in-Err-clause-invokes g c =
    let at : At = record { seat = c.args.seat.now; link = link_at g.L.Link c.args.link.now; clock = clocked g.C.Clock c.args.clock.now } in
    subst (λ port. Does ghosts c.args.cell.now at at (λ events. Invokes port c.args.what.now.request.now c.args.what.now.actor.now events _)) (sym c.in-Some.is)
    (unmade ghosts c.args.cell.now c.args.what.now.request.now c.args.what.now.actor.now _ at c.in-Some.port refl)
