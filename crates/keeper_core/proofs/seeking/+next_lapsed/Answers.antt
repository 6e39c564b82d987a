use Rattle.std.proofs.Common.{◌<◌, length, sym, ap, ◌∙◌, arith}
use Rattle.keeper_core.specs.Tree.{last_moment}
use Rattle.keeper_core.proofs.Found.{left_sorted, right_sorted}
use Rattle.keeper_core.proofs.Lapsed.{next_in, next_none, next_past, next_left, next_here, next_right}
use Rattle.keeper_core.proofs.Sought.{bare, parted, trees, listed, around_node, least_listed, compared}
use Rattle.keeper_core.proofs.seeking.+next_lapsed.Goals as goal

pub returns-in_default-clause-lapsed : goal.returns-in_default-clause-lapsed
returns-in_default-clause-lapsed t c shape holds sorted =
    ap (λ tree. next_in c.args.after.now c.args.moment (listed c.args.keys.now c.args.links.now tree)) (sym (bare c.args.links.now shape c.args.at c.in_default.ensures.lookup.3 holds))

pub returns-then-moment-link-clause-lapsed : goal.returns-then-moment-link-clause-lapsed
returns-then-moment-link-clause-lapsed t c shape holds sorted =
    let parts = parted c.args.links.now shape c.args.at c.in-Some.link.now (omega arith) c.in-Some.ensures.lookup.3.0 c.in-Some.ensures.lookup.1 holds in
    sym (next_none c.args.after.now c.args.moment (listed c.args.keys.now c.args.links.now shape) (omega arith) (omega (arith, parts.least, least_listed c.args.keys.now c.args.links.now shape)))

pub next_lapsed-requires : goal.next_lapsed-requires
next_lapsed-requires t c =
    let tree = trees c.args.links.now c.args.at c.in-Some.link.now (omega arith) c.in-Some.ensures.lookup.3.0 c.in-Some.ensures.lookup.1 c.requires.tree in
    (omega (arith, tree.right_lower), (tree.right, c.requires.keys))

pub returns-in_default-cmp-clause-lapsed : goal.returns-in_default-cmp-clause-lapsed
returns-in_default-cmp-clause-lapsed t c shape holds sorted =
    let parts = parted c.args.links.now shape c.args.at c.in-Some.link.now (omega arith) c.in-Some.ensures.lookup.3.0 c.in-Some.ensures.lookup.1 holds in
    let around = around_node c.args.keys.now c.args.links.now shape c.args.at c.in-Some.link.now parts in
    let within : c.args.at < length c.args.keys.now = omega (arith, c.in-Some.ensures.lookup.3.0, c.requires.keys) in
    let order = compared c.args.keys.now c.args.at _ _ c.args.after.now _ within c.index-keys-at.is c.as_slice.ensures.value c.cmp.ensures in
    c.next_lapsed.ensures.lapsed parts.behind parts.behind_holds (right_sorted _ _ _ _ around sorted)
    ∙ sym (next_past c.args.after.now c.args.moment _ _ _ _ around sorted (λ less. c.in_default-cmp.not-Less (sym order ∙ less)))

pub next_lapsed-requires-2 : goal.next_lapsed-requires-2
next_lapsed-requires-2 t c =
    let tree = trees c.args.links.now c.args.at c.in-Some.link.now (omega arith) c.in-Some.ensures.lookup.3.0 c.in-Some.ensures.lookup.1 c.requires.tree in
    (omega (arith, tree.left_lower), (tree.left, c.requires.keys))

pub returns-in-Some-next_lapsed-clause-lapsed : goal.returns-in-Some-next_lapsed-clause-lapsed
returns-in-Some-next_lapsed-clause-lapsed t c shape holds sorted =
    let parts = parted c.args.links.now shape c.args.at c.in-Some.link.now (omega arith) c.in-Some.ensures.lookup.3.0 c.in-Some.ensures.lookup.1 holds in
    let around = around_node c.args.keys.now c.args.links.now shape c.args.at c.in-Some.link.now parts in
    sym (next_left c.args.after.now c.args.moment _ _ _ _ _ around (sym (c.in-Some-next_lapsed.ensures.lapsed parts.before parts.before_holds (left_sorted _ _ _ _ around sorted))))

pub returns-then-last_moment-moment-clause-lapsed : goal.returns-then-last_moment-moment-clause-lapsed
returns-then-last_moment-moment-clause-lapsed t c shape holds sorted =
    let parts = parted c.args.links.now shape c.args.at c.in-Some.link.now (omega arith) c.in-Some.ensures.lookup.3.0 c.in-Some.ensures.lookup.1 holds in
    let around = around_node c.args.keys.now c.args.links.now shape c.args.at c.in-Some.link.now parts in
    let within : c.args.at < length c.args.keys.now = omega (arith, c.in-Some.ensures.lookup.3.0, c.requires.keys) in
    let less = compared c.args.keys.now c.args.at _ _ c.args.after.now _ within c.index-keys-at.is c.as_slice.ensures.value c.cmp.ensures ∙ c.in-Less.is in
    let left = sym (c.in_default-next_lapsed.ensures.lapsed parts.before parts.before_holds (left_sorted _ _ _ _ around sorted)) in
    let last = c.last_moment.ensures ∙ ap last_moment parts.until in
    sym (next_here c.args.after.now c.args.moment _ _ _ _ around sorted (omega arith) less left (omega (arith, last)))

pub first_lapsed-requires : goal.first_lapsed-requires
first_lapsed-requires t c =
    let tree = trees c.args.links.now c.args.at c.in-Some.link.now (omega arith) c.in-Some.ensures.lookup.3.0 c.in-Some.ensures.lookup.1 c.requires.tree in
    record { tree = tree.right }

pub returns-clause-lapsed : goal.returns-clause-lapsed
returns-clause-lapsed t c shape holds sorted =
    let parts = parted c.args.links.now shape c.args.at c.in-Some.link.now (omega arith) c.in-Some.ensures.lookup.3.0 c.in-Some.ensures.lookup.1 holds in
    let around = around_node c.args.keys.now c.args.links.now shape c.args.at c.in-Some.link.now parts in
    let within : c.args.at < length c.args.keys.now = omega (arith, c.in-Some.ensures.lookup.3.0, c.requires.keys) in
    let less = compared c.args.keys.now c.args.at _ _ c.args.after.now _ within c.index-keys-at.is c.as_slice.ensures.value c.cmp.ensures ∙ c.in-Less.is in
    let left = sym (c.in_default-next_lapsed.ensures.lapsed parts.before parts.before_holds (left_sorted _ _ _ _ around sorted)) in
    let last = c.last_moment.ensures ∙ ap last_moment parts.until in
    c.first_lapsed.ensures.lapsed parts.behind c.args.keys.now parts.behind_holds
    ∙ sym (next_right c.args.after.now c.args.moment _ _ _ _ around sorted (omega arith) less left (omega (arith, last)))
