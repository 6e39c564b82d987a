use Rattle.std.proofs.Common.{refl, arith}
use Rattle.turn_cell.specs.Passes.{EachSplitOff}
use Rattle.turn_pass.specs.Pass.{EachMayMeet}
use Rattle.sidecar_objects.specs.Kind.{stores, ledgers, breakers, book, turns, ticks}
use Rattle.sidecar_objects.proofs.ByKind.{by_kind}
use Rattle.sidecar_objects.proofs.Single.{the_seat, one_met}
use Rattle.sidecar_objects.proofs.Rewritten.{lent, met_lent}
use Rattle.sidecar_objects.proofs.objects.Objects.meet.Goals as goal

pub meet_each-requires-clause-roots : goal.meet_each-requires-clause-roots
meet_each-requires-clause-roots g c = lent EachMayMeet c.deref.ensures.value c.deref_mut.ensures.value (c.requires.roots.each stores)

pub meet_each-requires-clause-pass : goal.meet_each-requires-clause-pass
meet_each-requires-clause-pass g c = lent EachSplitOff c.deref.ensures.value refl (c.requires.other.each stores)

pub meet_each-requires-2-clause-roots : goal.meet_each-requires-2-clause-roots
meet_each-requires-2-clause-roots g c = lent EachMayMeet c.deref-2.ensures.value c.deref_mut-2.ensures.value (c.requires.roots.each ledgers)

pub meet_each-requires-2-clause-pass : goal.meet_each-requires-2-clause-pass
meet_each-requires-2-clause-pass g c = lent EachSplitOff c.deref-2.ensures.value refl (c.requires.other.each ledgers)

pub meet_each-requires-3-clause-roots : goal.meet_each-requires-3-clause-roots
meet_each-requires-3-clause-roots g c = lent EachMayMeet c.deref-3.ensures.value c.deref_mut-3.ensures.value (c.requires.roots.each breakers)

pub meet_each-requires-3-clause-pass : goal.meet_each-requires-3-clause-pass
meet_each-requires-3-clause-pass g c = lent EachSplitOff c.deref-3.ensures.value refl (c.requires.other.each breakers)

pub meet-requires-clause-seat : goal.meet-requires-clause-seat
meet-requires-clause-seat g c = (the_seat c.args.self.now.notes c.args.pass.now.notes _ (c.requires.roots.each book)).0

pub meet-requires-clause-root : goal.meet-requires-clause-root
meet-requires-clause-root g c = (the_seat c.args.self.now.notes c.args.pass.now.notes _ (c.requires.roots.each book)).1

pub meet-requires-clause-other : goal.meet-requires-clause-other
meet-requires-clause-other g c = the_seat c.args.self.now.notes c.args.other.notes _ (c.requires.other.each book)

pub meet-requires-2-clause-seat : goal.meet-requires-2-clause-seat
meet-requires-2-clause-seat g c = (the_seat c.args.self.now.turns c.args.pass.now.turns _ (c.requires.roots.each turns)).0

pub meet-requires-2-clause-root : goal.meet-requires-2-clause-root
meet-requires-2-clause-root g c = (the_seat c.args.self.now.turns c.args.pass.now.turns _ (c.requires.roots.each turns)).1

pub meet-requires-2-clause-other : goal.meet-requires-2-clause-other
meet-requires-2-clause-other g c = the_seat c.args.self.now.turns c.args.other.turns _ (c.requires.other.each turns)

pub meet-requires-3-clause-seat : goal.meet-requires-3-clause-seat
meet-requires-3-clause-seat g c = (the_seat c.args.self.now.ticks c.args.pass.now.ticks _ (c.requires.roots.each ticks)).0

pub meet-requires-3-clause-root : goal.meet-requires-3-clause-root
meet-requires-3-clause-root g c = (the_seat c.args.self.now.ticks c.args.pass.now.ticks _ (c.requires.roots.each ticks)).1

pub meet-requires-3-clause-other : goal.meet-requires-3-clause-other
meet-requires-3-clause-other g c = the_seat c.args.self.now.ticks c.args.other.ticks _ (c.requires.other.each ticks)

pub returns : goal.returns
returns g c = let cells = c.args.self.now in let pass = c.args.pass.now in let other = c.args.other in record {
  each = by_kind _
      (met_lent _ pass.stores.len cells.stores.items c.deref.result.now pass.stores.items c.deref_mut.result.now other.stores.items c.meet_each.new.roots (omega (arith, pass.stores.ok)) c.deref.ensures.value c.deref_mut.ensures.value c.meet_each.ensures)
      (met_lent _ pass.ledgers.len cells.ledgers.items c.deref-2.result.now pass.ledgers.items c.deref_mut-2.result.now other.ledgers.items c.meet_each-2.new.roots (omega (arith, pass.ledgers.ok)) c.deref-2.ensures.value c.deref_mut-2.ensures.value c.meet_each-2.ensures)
      (met_lent _ pass.breakers.len cells.breakers.items c.deref-3.result.now pass.breakers.items c.deref_mut-3.result.now other.breakers.items c.meet_each-3.new.roots (omega (arith, pass.breakers.ok)) c.deref-3.ensures.value c.deref_mut-3.ensures.value c.meet_each-3.ensures)
      (one_met cells.notes pass.notes _ _ other.notes c.meet.ensures)
      (one_met cells.turns pass.turns _ _ other.turns c.meet-2.ensures)
      (one_met cells.ticks pass.ticks _ _ other.ticks c.meet-3.ensures);
}
