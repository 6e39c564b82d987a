use Rattle.std.proofs.Common.{arith}
use Rattle.atomic_table.proofs.Lists.{at_index, set_here}
use Rattle.sidecar_objects.specs.Kind.{ledgers}
use Rattle.sidecar_turns.proofs.CountedOnce.{counted, shown_count}
use Rattle.sidecar_turns.proofs.counting.counts.Goals as goal

pub index_mut-requires : goal.index_mut-requires
index_mut-requires g c = omega (arith, c.requires.place, (c.requires.pass.each ledgers).wide)

pub call-requires-clause-seat : goal.call-requires-clause-seat
call-requires-clause-seat g c = (c.requires.pass.each ledgers).each c.args.place c.index.result.now c.index_mut.result.now
    (at_index c.args.objects.now.ledgers.items c.args.place c.index.result.now c.requires.place c.index.ensures)
    (at_index c.args.pass.now.ledgers.items c.args.place c.index_mut.result.now (omega (arith, c.requires.place, (c.requires.pass.each ledgers).wide)) c.index_mut.ensures.value)

pub returns-clause-does : goal.returns-clause-does
returns-clause-does g c = λ clock link words. counted _ _ _ clock link words c.args.place c.index.result.now c.index_mut.result.now c.call.new.seat
    (at_index c.args.objects.now.ledgers.items c.args.place c.index.result.now c.requires.place c.index.ensures)
    (at_index c.args.pass.now.ledgers.items c.args.place c.index_mut.result.now (omega (arith, c.requires.place, (c.requires.pass.each ledgers).wide)) c.index_mut.ensures.value)
    c.call.result c.call.ensures.ok c.call.ensures.err

pub returns-clause-shows : goal.returns-clause-shows
returns-clause-shows g c = λ count is. (c.call.new.seat, set_here c.args.pass.now.ledgers.items c.args.place c.call.new.seat (omega (arith, c.requires.place, (c.requires.pass.each ledgers).wide)), shown_count _ _ _ _ _ c.call.result c.call.ensures.err is)
