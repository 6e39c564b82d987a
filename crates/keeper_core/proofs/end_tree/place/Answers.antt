use Rattle.std.proofs.Common.{length, sym, subst}
use Rattle.keeper_core.specs.Shapes.{slots, with_slot, Proper}
use Rattle.keeper_core.proofs.EndTable.{placed_top}
use Rattle.keeper_core.proofs.WithSlot.{with_slot-proper}
use Rattle.keeper_core.proofs.end_tree.place.Goals as goal

pub returns : goal.returns
returns c = λ shape holds proper left right sorted.
    let tree = c.insert-root.ensures shape holds proper left right sorted in
    let list = with_slot c.args.keys.now c.args.slot (slots shape) in
    let same = subst (λ n. Proper n list) (sym tree.built.len) (with_slot-proper c.args.keys.now c.args.slot (slots shape) (length c.args.links.now) proper) in
    placed_top _ _ _ _ _ _ tree same c.set_top.ensures
