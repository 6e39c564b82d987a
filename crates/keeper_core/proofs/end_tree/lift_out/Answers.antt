use Rattle.std.proofs.Common.{length, sym, subst}
use Rattle.keeper_core.specs.Shapes.{slots, Proper}
use Rattle.keeper_core.specs.Removal.{without_slot}
use Rattle.keeper_core.proofs.EndTable.{lifted_top}
use Rattle.keeper_core.proofs.WithoutSlot.{without_slot-proper}
use Rattle.keeper_core.proofs.end_tree.lift_out.Goals as goal

pub returns : goal.returns
returns c = λ shape holds proper within sorted.
    let tree = c.remove-root.ensures shape holds proper within sorted in
    let list = without_slot c.args.slot (slots shape) in
    let same = subst (λ n. Proper n list) (sym tree.built.len) (without_slot-proper c.args.slot (slots shape) (length c.args.links.now) proper) in
    lifted_top _ _ _ _ _ _ tree same c.set_top.ensures
