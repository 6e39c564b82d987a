use Rattle.std.proofs.Common.{◌∷◌, [], arith}
use Rattle.turn_pass.specs.Pass.{MayEachSplit}
use Rattle.sidecar_objects.specs.Kind.{stores, ledgers, breakers, book, turns, ticks}
use Rattle.sidecar_objects.proofs.ByKind.{by_kind}
use Rattle.sidecar_objects.proofs.Single.{the_seat}
use Rattle.sidecar_objects.proofs.Rewritten.{lent, split_lent}
use Rattle.sidecar_objects.proofs.objects.Objects.split.Goals as goal

pub split_each-requires-clause-roots : goal.split_each-requires-clause-roots
split_each-requires-clause-roots g c = lent MayEachSplit c.deref.ensures.value c.deref_mut.ensures.value (c.requires.roots.each stores)

pub split_each-requires-2-clause-roots : goal.split_each-requires-2-clause-roots
split_each-requires-2-clause-roots g c = lent MayEachSplit c.deref-2.ensures.value c.deref_mut-2.ensures.value (c.requires.roots.each ledgers)

pub split_each-requires-3-clause-roots : goal.split_each-requires-3-clause-roots
split_each-requires-3-clause-roots g c = lent MayEachSplit c.deref-3.ensures.value c.deref_mut-3.ensures.value (c.requires.roots.each breakers)

pub split-notes-requires-clause-seat : goal.split-notes-requires-clause-seat
split-notes-requires-clause-seat g c = (the_seat c.args.self.now.notes c.args.pass.now.notes _ (c.requires.roots.each book)).0

pub split-notes-requires-clause-root : goal.split-notes-requires-clause-root
split-notes-requires-clause-root g c = (the_seat c.args.self.now.notes c.args.pass.now.notes _ (c.requires.roots.each book)).1

pub split-notes-requires-clause-room : goal.split-notes-requires-clause-room
split-notes-requires-clause-room g c = (the_seat c.args.self.now.notes c.args.pass.now.notes _ (c.requires.roots.each book)).2

pub split-turns-requires-clause-seat : goal.split-turns-requires-clause-seat
split-turns-requires-clause-seat g c = (the_seat c.args.self.now.turns c.args.pass.now.turns _ (c.requires.roots.each turns)).0

pub split-turns-requires-clause-root : goal.split-turns-requires-clause-root
split-turns-requires-clause-root g c = (the_seat c.args.self.now.turns c.args.pass.now.turns _ (c.requires.roots.each turns)).1

pub split-turns-requires-clause-room : goal.split-turns-requires-clause-room
split-turns-requires-clause-room g c = (the_seat c.args.self.now.turns c.args.pass.now.turns _ (c.requires.roots.each turns)).2

pub split-ticks-requires-clause-seat : goal.split-ticks-requires-clause-seat
split-ticks-requires-clause-seat g c = (the_seat c.args.self.now.ticks c.args.pass.now.ticks _ (c.requires.roots.each ticks)).0

pub split-ticks-requires-clause-root : goal.split-ticks-requires-clause-root
split-ticks-requires-clause-root g c = (the_seat c.args.self.now.ticks c.args.pass.now.ticks _ (c.requires.roots.each ticks)).1

pub split-ticks-requires-clause-room : goal.split-ticks-requires-clause-room
split-ticks-requires-clause-room g c = (the_seat c.args.self.now.ticks c.args.pass.now.ticks _ (c.requires.roots.each ticks)).2

pub returns-clause-split : goal.returns-clause-split
returns-clause-split g c = let pass = c.args.pass.now in record {
  each = by_kind _
      (split_lent pass.stores.len pass.stores.items c.deref_mut.result.now c.split_each.new.roots c.split_each.new.pass.items (omega (arith, pass.stores.ok)) c.deref_mut.ensures.value c.split_each.ensures)
      (split_lent pass.ledgers.len pass.ledgers.items c.deref_mut-2.result.now c.split_each-2.new.roots c.split_each-2.new.pass.items (omega (arith, pass.ledgers.ok)) c.deref_mut-2.ensures.value c.split_each-2.ensures)
      (split_lent pass.breakers.len pass.breakers.items c.deref_mut-3.result.now c.split_each-3.new.roots c.split_each-3.new.pass.items (omega (arith, pass.breakers.ok)) c.deref_mut-3.ensures.value c.split_each-3.ensures)
      (λ i. c.split-notes.ensures.parent i ∷ [], λ i. c.split-notes.ensures.child i ∷ [])
      (λ i. c.split-turns.ensures.parent i ∷ [], λ i. c.split-turns.ensures.child i ∷ [])
      (λ i. c.split-ticks.ensures.parent i ∷ [], λ i. c.split-ticks.ensures.child i ∷ []);
}
