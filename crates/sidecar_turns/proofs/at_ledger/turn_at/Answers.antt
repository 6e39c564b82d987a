use Rattle.std.proofs.Common.{arith, inl, inr, refl}
use Rattle.atomic_table.proofs.Lists.{at_index, set_here}
use Rattle.sidecar_turns.proofs.Placed.{turned_plainly, turned_gated, within}
use Rattle.sidecar_turns.proofs.at_ledger.turn_at.Goals as goal

pub plain-requires-clause-seat : goal.plain-requires-clause-seat
plain-requires-clause-seat g c = c.requires.ledgers.each c.args.place c.index.result.now c.index_mut.result.now
    (at_index c.args.objects.now.ledgers.items c.args.place c.index.result.now c.requires.place c.index.ensures)
    (at_index c.args.pass.now.ledgers.items c.args.place c.index_mut.result.now (omega (arith, c.requires.place, c.requires.ledgers.wide)) c.index_mut.ensures.value)

pub gated-requires-clause-seat : goal.gated-requires-clause-seat
gated-requires-clause-seat g c = c.requires.ledgers.each c.args.place c.index-in-Some.result.now c.index_mut-in-Some.result.now
    (at_index c.args.objects.now.ledgers.items c.args.place c.index-in-Some.result.now c.requires.place c.index-in-Some.ensures)
    (at_index c.args.pass.now.ledgers.items c.args.place c.index_mut-in-Some.result.now (omega (arith, c.requires.place, c.requires.ledgers.wide)) c.index_mut-in-Some.ensures.value)

pub gated-requires-clause-key : goal.gated-requires-clause-key
gated-requires-clause-key g c = let low = within c.args.what.now.bound.now.breaker c.in-Some.k c.in-Some.is c.requires.breaker in
    c.requires.breakers.each c.in-Some.k c.index-in-Some-2.result.now c.index_mut-in-Some-2.result.now
    (at_index c.args.objects.now.breakers.items c.in-Some.k c.index-in-Some-2.result.now low c.index-in-Some-2.ensures)
    (at_index c.args.pass.now.breakers.items c.in-Some.k c.index_mut-in-Some-2.result.now (omega (arith, low, c.requires.breakers.wide)) c.index_mut-in-Some-2.ensures.value)

pub returns-in-None-clause-does : goal.returns-in-None-clause-does
returns-in-None-clause-does g c = let made = c.plain.ensures.delivers in
    turned_plainly _ _ _ c.args.place 0 c.index.result.now c.index_mut.result.now c.plain.new.seat _ _ _ _ _ _
    (at_index c.args.objects.now.ledgers.items c.args.place c.index.result.now c.requires.place c.index.ensures)
    (at_index c.args.pass.now.ledgers.items c.args.place c.index_mut.result.now (omega (arith, c.requires.place, c.requires.ledgers.wide)) c.index_mut.ensures.value)
    _ c.plain.result c.in-None.is refl made.0 made.1 made.2

pub returns-in-Some-clause-does : goal.returns-in-Some-clause-does
returns-in-Some-clause-does g c = let made = c.gated.ensures.delivers in let low = within c.args.what.now.bound.now.breaker c.in-Some.k c.in-Some.is c.requires.breaker in
    turned_gated _ _ _ c.args.place c.in-Some.k c.index-in-Some.result.now c.index_mut-in-Some.result.now c.gated.new.seat _ _ _ _ _ _
    (at_index c.args.objects.now.ledgers.items c.args.place c.index-in-Some.result.now c.requires.place c.index-in-Some.ensures)
    (at_index c.args.pass.now.ledgers.items c.args.place c.index_mut-in-Some.result.now (omega (arith, c.requires.place, c.requires.ledgers.wide)) c.index_mut-in-Some.ensures.value)
    _ c.gated.result c.in-Some.is c.index-in-Some-2.result.now c.index_mut-in-Some-2.result.now c.gated.new.key
    (at_index c.args.objects.now.breakers.items c.in-Some.k c.index-in-Some-2.result.now low c.index-in-Some-2.ensures)
    (at_index c.args.pass.now.breakers.items c.in-Some.k c.index_mut-in-Some-2.result.now (omega (arith, low, c.requires.breakers.wide)) c.index_mut-in-Some-2.ensures.value)
    made.0 made.1 made.2

pub returns-in-None-clause-shows : goal.returns-in-None-clause-shows
returns-in-None-clause-shows g c = λ count is. inl (c.plain.new.seat, set_here c.args.pass.now.ledgers.items c.args.place c.plain.new.seat (omega (arith, c.requires.place, c.requires.ledgers.wide)), c.plain.ensures.shows count is)

pub returns-in-Some-clause-shows : goal.returns-in-Some-clause-shows
returns-in-Some-clause-shows g c = λ count is. let low = within c.args.what.now.bound.now.breaker c.in-Some.k c.in-Some.is c.requires.breaker in
    elim (c.gated.ensures.shows count is) [
      | inl key ↦ inr (c.in-Some.k, c.in-Some.is, (c.gated.new.key, set_here c.args.pass.now.breakers.items c.in-Some.k c.gated.new.key (omega (arith, low, c.requires.breakers.wide)), key))
      | inr seat ↦ inl (c.gated.new.seat, set_here c.args.pass.now.ledgers.items c.args.place c.gated.new.seat (omega (arith, c.requires.place, c.requires.ledgers.wide)), seat)
    ]
