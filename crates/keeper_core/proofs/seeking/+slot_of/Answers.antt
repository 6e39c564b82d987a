use Rattle.std.proofs.Common.{◌<◌, length, ◌∙◌, arith}
use Rattle.keeper_core.proofs.Found.{left_sorted, right_sorted}
use Rattle.keeper_core.proofs.Sought.{bare, parted, trees, around_node, compared, finds_none, finds_before, finds_behind, finds_here}
use Rattle.keeper_core.proofs.seeking.+slot_of.Goals as goal

pub returns-in_default : goal.returns-in_default
returns-in_default t c shape holds sorted =
    finds_none c.args.keys.now c.args.links.now shape c.args.key.now (bare c.args.links.now shape c.args.at c.in_default.ensures.lookup.3 holds)

pub slot_of-requires : goal.slot_of-requires
slot_of-requires t c =
    let tree = trees c.args.links.now c.args.at c.in-Some.link.now (omega arith) c.in-Some.ensures.lookup.3.0 c.in-Some.ensures.lookup.1 c.requires.tree in
    (omega (arith, tree.left_lower), (tree.left, c.requires.keys))

pub slot_of-requires-in-Greater : goal.slot_of-requires-in-Greater
slot_of-requires-in-Greater t c =
    let tree = trees c.args.links.now c.args.at c.in-Some.link.now (omega arith) c.in-Some.ensures.lookup.3.0 c.in-Some.ensures.lookup.1 c.requires.tree in
    (omega (arith, tree.right_lower), (tree.right, c.requires.keys))

pub returns-in-Less : goal.returns-in-Less
returns-in-Less t c shape holds sorted =
    let parts = parted c.args.links.now shape c.args.at c.in-Some.link.now (omega arith) c.in-Some.ensures.lookup.3.0 c.in-Some.ensures.lookup.1 holds in
    let within : c.args.at < length c.args.keys.now = omega (arith, c.in-Some.ensures.lookup.3.0, c.requires.keys) in
    let order = compared c.args.keys.now c.args.at _ _ c.args.key.now _ within c.index-keys-at.is c.as_slice.ensures.value c.cmp.ensures ∙ c.in-Less.is in
    let part = left_sorted _ _ _ _ (around_node c.args.keys.now c.args.links.now shape c.args.at c.in-Some.link.now parts) sorted in
    finds_before c.args.keys.now c.args.links.now shape c.args.at c.in-Some.link.now parts c.args.key.now _ sorted order (c.slot_of.ensures parts.before parts.before_holds part)

pub returns-in-Greater : goal.returns-in-Greater
returns-in-Greater t c shape holds sorted =
    let parts = parted c.args.links.now shape c.args.at c.in-Some.link.now (omega arith) c.in-Some.ensures.lookup.3.0 c.in-Some.ensures.lookup.1 holds in
    let within : c.args.at < length c.args.keys.now = omega (arith, c.in-Some.ensures.lookup.3.0, c.requires.keys) in
    let order = compared c.args.keys.now c.args.at _ _ c.args.key.now _ within c.index-keys-at.is c.as_slice.ensures.value c.cmp.ensures ∙ c.in-Greater.is in
    let part = right_sorted _ _ _ _ (around_node c.args.keys.now c.args.links.now shape c.args.at c.in-Some.link.now parts) sorted in
    finds_behind c.args.keys.now c.args.links.now shape c.args.at c.in-Some.link.now parts c.args.key.now _ sorted order (c.slot_of-in-Greater.ensures parts.behind parts.behind_holds part)

pub returns-in-Equal : goal.returns-in-Equal
returns-in-Equal t c shape holds sorted =
    let parts = parted c.args.links.now shape c.args.at c.in-Some.link.now (omega arith) c.in-Some.ensures.lookup.3.0 c.in-Some.ensures.lookup.1 holds in
    let within : c.args.at < length c.args.keys.now = omega (arith, c.in-Some.ensures.lookup.3.0, c.requires.keys) in
    let order = compared c.args.keys.now c.args.at _ _ c.args.key.now _ within c.index-keys-at.is c.as_slice.ensures.value c.cmp.ensures ∙ c.in-Equal.is in
    finds_here c.args.keys.now c.args.links.now shape c.args.at c.in-Some.link.now parts c.args.key.now order
