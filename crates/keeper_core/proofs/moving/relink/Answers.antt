use Rattle.std.proofs.Common.{◌≡◌, ◌≤◌, ◌∙◌, length, refl, sym, subst, arith}
use Rattle.keeper_core.specs.Shapes.{none}
use Rattle.keeper_core.specs.Removal.{with_moved}
use Rattle.keeper_core.specs.Fields.{Rewritten, with_parent}
use Rattle.keeper_core.proofs.Refilling.{moved_none, all_stay, all_told, relinked}
use Rattle.keeper_core.proofs.moving.relink.Goals as goal

pub returns-then-slot-last : goal.returns-then-slot-last
returns-then-slot-last c old shape within refill h proper all gone top =
    let links = c.args.links.now in
    let slot = c.args.slot in
    let is : slot ≡ length links = omega (arith, within, refill.len, c.if-slot-last.true) in
    relinked old links shape (length links) slot c.args.root c.args.root (omega (arith, refill.len)) refl refill.len (all_stay old links slot shape c.args.root is refill h gone) h top (sym (moved_none (length links) slot c.args.root is))

pub returns : goal.returns
returns c old shape within refill h proper all gone top =
    let links = c.args.links.now in
    let slot = c.args.slot in
    let named = c.rename_children.new.links in
    let told = c.set_parent.new.links in
    let new = c.set_parent-2.new.links in
    let fits : length old ≤ none = omega (arith, refill.len) in
    let names = subst (Rewritten (with_moved (length links) slot) links named) c.parent_at-parent.ensures c.rename_children.ensures in
    let tells_left = subst (Rewritten (with_parent slot) named told) c.left_at-left.ensures c.set_parent.ensures in
    let tells_right = subst (Rewritten (with_parent slot) told new) c.right_at-right.ensures c.set_parent-2.ensures in
    relinked old new shape (length links) slot c.args.root c.moved.result fits (c.set_parent-2.ensures.len ∙ c.set_parent.ensures.len ∙ c.rename_children.ensures.len) refill.len
    (all_told old links named told new slot shape c.args.root fits c.if-slot-last.false refill h all gone top names tells_left tells_right) h top c.moved.ensures
