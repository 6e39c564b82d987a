use Rattle.std.proofs.Common.{◌∙◌, ◌++◌, ◌∷◌, [], length, map, sym, ap, subst, arith, length-append, append_assoc}
use Rattle.std.proofs.lemmas.List.{map-append}
use Rattle.turn_cell.specs.Sitting.{root_of, IsSound}
use Rattle.turn_cell.specs.Passes.{EachSound}
use Rattle.turn_cell.proofs.Passes.{each_push}
use Rattle.turn_pass.proofs.starting.start_each.Goals as goal

pub loop-first-preserved : goal.loop-first-preserved
loop-first-preserved g c =
    let h = c.loop-first.invariant in let cell = c.in_ok-cell.cell in let root = c.in_ok-cell.root in
    let p = c.push_reserved.ensures in let q = c.push_reserved-in-loop-first.ensures in
    let taken = h.taken ∙ ap (λ l. c.loop-first.yielded ++ l) c.in-Some.ensures.steps.0 in
    let wide = ap length taken ∙ length-append c.loop-first.yielded (c.in-Some.first ∷ c.next.new.self.rest.items) in record {
      taken = taken ∙ sym (append_assoc c.loop-first.yielded (c.in-Some.first ∷ []) c.next.new.self.rest.items);
      begun = ap (map (λ z. z.first)) p.items ∙ map-append (λ z. z.first) c.loop-first.cells.items (cell ∷ []) ∙ (λ i. h.begun i ++ c.in_ok-cell.ensures.first i ∷ []);
      roots = q.items ∙ (λ i. h.roots i ++ c.in_ok-cell.ensures.root i ∷ []) ∙ sym (map-append root_of c.loop-first.cells.items (cell ∷ [])) ∙ ap (map root_of) (sym p.items);
      sound = subst (λ l. EachSound g.O.Object l c.push_reserved-in-loop-first.new.self.items) (sym p.items)
          (subst (λ l. EachSound g.O.Object (c.loop-first.cells.items ++ cell ∷ []) l) (sym q.items)
          (each_push (λ z seat. IsSound g.O.Object z.first seat) c.loop-first.cells.items c.loop-first.roots.items cell root h.sound (subst (λ z. IsSound g.O.Object z root) (sym c.in_ok-cell.ensures.first) c.in_ok-cell.ensures.sound)));
      long = (omega (arith, p.len, h.long.0, length-append c.loop-first.yielded (c.in-Some.first ∷ [])), omega (arith, q.len, h.long.1, length-append c.loop-first.yielded (c.in-Some.first ∷ [])));
      room = (omega (arith, p.capacity, h.room.0), omega (arith, q.capacity, h.room.1));
    }
