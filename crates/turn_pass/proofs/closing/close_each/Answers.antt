use Rattle.std.proofs.Common.{◌++◌, ◌∷◌, [], sym, subst, rules, arith}
use Rattle.turn_cell.specs.Passes.{IsRootOf, EachAlone}
use Rattle.turn_pass.proofs.Popped.{Closing, none_closed, one_closed, last_seat, other_seats}
use Rattle.turn_pass.proofs.closing.close_each.Goals as goal

pub loop-cell-init : goal.loop-cell-init
loop-cell-init g c = record {
  closing = subst (λ l. Closing g.O.Object.stands c.args.cells.items c.args.seats.items c.args.cells.items c.args.seats.items l) (sym c.requires.bare) (none_closed g.O.Object.stands c.args.cells.items c.args.seats.items);
  alone = c.requires.alone;
  room = search rules;
}

pub close-requires-clause-seat : goal.close-requires-clause-seat
close-requires-clause-seat g c = (last_seat (IsRootOf 0) c.pop.new.self.items c.pop-in-Some.new.self.items c.in-Some.cell c.in-Some-pop.seat
    (subst (λ l. EachAlone l (c.pop-in-Some.new.self.items ++ c.in-Some-pop.seat ∷ [])) c.in-Some.ensures.items (subst (λ l. EachAlone c.loop-cell.cells.items l) c.in-Some-pop.ensures.items c.loop-cell.invariant.alone))).0

pub close-requires-clause-alone : goal.close-requires-clause-alone
close-requires-clause-alone g c = let last = (last_seat (IsRootOf 0) c.pop.new.self.items c.pop-in-Some.new.self.items c.in-Some.cell c.in-Some-pop.seat
    (subst (λ l. EachAlone l (c.pop-in-Some.new.self.items ++ c.in-Some-pop.seat ∷ [])) c.in-Some.ensures.items (subst (λ l. EachAlone c.loop-cell.cells.items l) c.in-Some-pop.ensures.items c.loop-cell.invariant.alone))) in (last.1, last.2)

pub push_reserved-requires : goal.push_reserved-requires
push_reserved-requires g c = omega (arith, c.loop-cell.invariant.room, c.pop.ensures.len, c.in-Some.ensures.len)

pub loop-cell-preserved : goal.loop-cell-preserved
loop-cell-preserved g c =
    let alone = subst (λ l. EachAlone l (c.pop-in-Some.new.self.items ++ c.in-Some-pop.seat ∷ [])) c.in-Some.ensures.items (subst (λ l. EachAlone c.loop-cell.cells.items l) c.in-Some-pop.ensures.items c.loop-cell.invariant.alone) in
    let so-far = subst (λ l. Closing g.O.Object.stands c.args.cells.items c.args.seats.items l (c.pop-in-Some.new.self.items ++ c.in-Some-pop.seat ∷ []) c.loop-cell.objects.items) c.in-Some.ensures.items
    (subst (λ l. Closing g.O.Object.stands c.args.cells.items c.args.seats.items c.loop-cell.cells.items l c.loop-cell.objects.items) c.in-Some-pop.ensures.items c.loop-cell.invariant.closing) in record {
      closing = subst (λ l. Closing g.O.Object.stands c.args.cells.items c.args.seats.items c.pop.new.self.items c.pop-in-Some.new.self.items l) (sym c.push_reserved.ensures.items)
          (one_closed g.O.Object.stands c.args.cells.items c.args.seats.items c.pop.new.self.items c.pop-in-Some.new.self.items c.loop-cell.objects.items c.in-Some.cell c.in-Some-pop.seat c.close.result so-far c.close.ensures);
      alone = other_seats (IsRootOf 0) c.pop.new.self.items c.pop-in-Some.new.self.items c.in-Some.cell c.in-Some-pop.seat alone;
      room = omega (arith, c.loop-cell.invariant.room, c.in-Some.ensures.len, c.push_reserved.ensures.len, c.push_reserved.ensures.capacity);
    }
