use Rattle.std.proofs.Common.{◌≡◌, true, ◌∙◌, sym, ap, arith, subst, length, length-append, append_assoc, ◌++◌, ◌∷◌, []}
use lib.ListN.{get_elem?}
use mathlib.Core.Option.{some}
use Rattle.atomic_table.proofs.Lists.{at_index}
use Rattle.turn_cell.specs.Sitting.{IsSeatOf, Meets}
use Rattle.turn_cell.proofs.Lists.{at_seam}
use Rattle.turn_cell.proofs.Passes.{met_more, met_all}
use Rattle.turn_pass.proofs.meeting.meet_each.Goals as goal

pub meet-requires : goal.meet-requires
meet-requires g c = let k = c.loop-seat.place in let h = c.loop-seat.invariant in let taken = h.taken ∙ ap (λ l. c.loop-seat.yielded ++ l) c.in-Some.ensures.steps.0 in
    let other = subst (λ n. get_elem? c.args.pass.items n ≡ some c.in-Some.seat) (sym h.place) (ap (λ l. get_elem? l (length c.loop-seat.yielded)) taken ∙ at_seam c.loop-seat.yielded c.in-Some.seat c.next.new.self.rest.items) in
    let wide = (ap length taken ∙ length-append c.loop-seat.yielded (c.in-Some.seat ∷ c.next.new.self.rest.items)) in
    let cell = at_index c.args.cells.now k c.index-cells-place.result (omega (arith, wide, h.place, c.requires.pass.wide)) c.index-cells-place.is in
    let root = at_index c.loop-seat.roots k c.index-roots-place.result (omega (arith, wide, h.place, c.requires.pass.wide, c.requires.roots.wide, c.loop-seat.auto.roots)) c.index-roots-place.is in
    let is = c.requires.roots.each k c.index-cells-place.result c.index-roots-place.result cell (sym (h.met.rest k (omega arith)) ∙ root) in record {
      seat = subst (λ z. IsSeatOf c.index-cells-place.result z) c.index-roots-place.is is.0;
      root = subst (λ z. z.is_root ≡ true) c.index-roots-place.is is.1;
      other = c.requires.pass.each k c.index-cells-place.result c.in-Some.seat cell other;
    }

pub loop-seat-preserved : goal.loop-seat-preserved
loop-seat-preserved g c = let k = c.loop-seat.place in let h = c.loop-seat.invariant in let taken = h.taken ∙ ap (λ l. c.loop-seat.yielded ++ l) c.in-Some.ensures.steps.0 in
    let other = subst (λ n. get_elem? c.args.pass.items n ≡ some c.in-Some.seat) (sym h.place) (ap (λ l. get_elem? l (length c.loop-seat.yielded)) taken ∙ at_seam c.loop-seat.yielded c.in-Some.seat c.next.new.self.rest.items) in
    let wide = (ap length taken ∙ length-append c.loop-seat.yielded (c.in-Some.seat ∷ c.next.new.self.rest.items)) in
    let cell = at_index c.args.cells.now k c.index-cells-place.result (omega (arith, wide, h.place, c.requires.pass.wide)) c.index-cells-place.is in
    let root = at_index c.loop-seat.roots k c.index-roots-place.result (omega (arith, wide, h.place, c.requires.pass.wide, c.requires.roots.wide, c.loop-seat.auto.roots)) c.index-roots-place.is in record {
      place = omega (arith, h.place, length-append c.loop-seat.yielded (c.in-Some.seat ∷ []));
      taken = taken ∙ sym (append_assoc c.loop-seat.yielded (c.in-Some.seat ∷ []) c.next.new.self.rest.items);
      met = met_more g.O.Object c.args.cells.now c.args.roots.now c.args.pass.items k c.loop-seat.roots c.index-cells-place.result c.index-roots-place.result c.in-Some.seat c.meet.new.seat h.met cell root other
          (subst (λ z. Meets g.O.Object c.index-cells-place.result.first z c.in-Some.seat c.meet.new.seat) (sym c.index-roots-place.is) c.meet.ensures);
    }

pub returns : goal.returns
returns g c = let h = c.loop-seat.invariant in let none = c.in-None.ensures.steps.0 in
    met_all g.O.Object c.args.cells.now c.args.roots.now c.args.pass.items c.loop-seat.place c.loop-seat.roots (omega (arith, c.requires.roots.wide, c.requires.pass.wide, none, c.loop-seat.seat-iterator.rest.ok.0, h.place, ap length h.taken, length-append c.loop-seat.yielded c.loop-seat.seat-iterator.rest.items)) h.met
