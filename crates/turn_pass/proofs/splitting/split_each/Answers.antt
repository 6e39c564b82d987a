use Rattle.std.proofs.Common.{◌≡◌, ◌+◌, ◌<◌, true, ◌∙◌, sym, ap, arith, subst, ◌++◌, ◌∷◌, [], set}
use Rattle.atomic_table.proofs.Lists.{at_index}
use Rattle.turn_cell.specs.Sitting.{IsSeatOf, parent_of, child_of}
use Rattle.turn_cell.specs.Passes.{SplitTo}
use Rattle.turn_cell.proofs.Passes.{split_next, split_more}
use Rattle.turn_pass.proofs.splitting.split_each.Goals as goal

pub split-requires : goal.split-requires
split-requires g c = let root = c.index-roots-place.result in let now = at_index c.loop-place.roots c.loop-place.place root (omega (arith, c.loop-place.auto.roots, c.loop-place-test.true, c.requires.roots.wide)) c.index-roots-place.is in
    let cell = at_index c.args.cells.now c.loop-place.place c.index-cells-place.result (omega (arith, c.loop-place-test.true)) c.index-cells-place.is in
    let was = sym (split_next c.loop-place.place c.args.roots.now c.loop-place.roots c.loop-place.pass.items c.loop-place.invariant.split) ∙ now in
    let is = c.requires.roots.each c.loop-place.place c.index-cells-place.result root cell was in record {
      seat = subst (λ z. IsSeatOf c.index-cells-place.result z) c.index-roots-place.is is.0;
      root = subst (λ z. z.is_root ≡ true) c.index-roots-place.is is.1;
      room = subst (λ z. z.made < 65536) c.index-roots-place.is is.2;
    }

pub loop-place-preserved : goal.loop-place-preserved
loop-place-preserved g c = let root = c.index-roots-place.result in let now = at_index c.loop-place.roots c.loop-place.place root (omega (arith, c.loop-place.auto.roots, c.loop-place-test.true, c.requires.roots.wide)) c.index-roots-place.is in
    let more = split_more c.loop-place.place c.args.roots.now c.loop-place.roots c.loop-place.pass.items root c.loop-place.invariant.split now in
    let is : (parent_of root ≡ c.split.new.seat) × (child_of root ≡ c.split.result) = (ap parent_of c.index-roots-place.is ∙ sym c.split.ensures.parent, ap child_of c.index-roots-place.is ∙ sym c.split.ensures.child) in record {
      split = subst (λ z. SplitTo (c.loop-place.place + 1) c.args.roots.now (set c.loop-place.roots c.loop-place.place c.split.new.seat) z) (sym c.push_reserved.ensures.items)
          (subst (λ z. SplitTo (c.loop-place.place + 1) c.args.roots.now (set c.loop-place.roots c.loop-place.place c.split.new.seat) (c.loop-place.pass.items ++ z ∷ [])) is.1
          (subst (λ z. SplitTo (c.loop-place.place + 1) c.args.roots.now (set c.loop-place.roots c.loop-place.place z) (c.loop-place.pass.items ++ child_of root ∷ [])) is.0 more));
      long = c.push_reserved.ensures.len ∙ ap (λ n. n + 1) c.loop-place.invariant.long;
      room = omega (arith, c.push_reserved.ensures.capacity, c.loop-place.invariant.room);
    }
