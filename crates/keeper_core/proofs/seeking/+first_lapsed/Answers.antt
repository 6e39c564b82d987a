use Rattle.std.proofs.Common.{sym, ap, ◌∙◌, arith}
use Rattle.std.specs.List.{slice_get}
use Rattle.keeper_core.specs.Rows.{lapsed_in}
use Rattle.keeper_core.specs.Tree.{last_moment}
use Rattle.keeper_core.proofs.Lapsed.{first_none, first_left, first_here, first_right}
use Rattle.keeper_core.proofs.Sought.{bare, parted, trees, listed, around_node, least_listed}
use Rattle.keeper_core.proofs.seeking.+first_lapsed.Goals as goal

pub returns-in_default-clause-lapsed : goal.returns-in_default-clause-lapsed
returns-in_default-clause-lapsed t c shape keys holds =
    let empty = bare c.args.links.now shape c.args.at (c.in_default.ensures.lookup.3) holds in
    ap (λ tree. slice_get (lapsed_in c.args.moment (listed keys c.args.links.now tree)) 0) (sym empty)

pub returns-then-moment-link-clause-lapsed : goal.returns-then-moment-link-clause-lapsed
returns-then-moment-link-clause-lapsed t c shape keys holds =
    let parts = parted c.args.links.now shape c.args.at c.in-Some.link.now (omega arith) c.in-Some.ensures.lookup.3.0 c.in-Some.ensures.lookup.1 holds in
    sym (first_none c.args.moment (listed keys c.args.links.now shape) (omega arith) (omega (arith, parts.least, least_listed keys c.args.links.now shape)))

pub first_lapsed-requires : goal.first_lapsed-requires
first_lapsed-requires t c =
    let tree = trees c.args.links.now c.args.at c.in-Some.link.now (omega arith) c.in-Some.ensures.lookup.3.0 c.in-Some.ensures.lookup.1 c.requires.tree in
    (omega (arith, tree.left_lower), tree.left)

pub returns-in-Some-first_lapsed-clause-lapsed : goal.returns-in-Some-first_lapsed-clause-lapsed
returns-in-Some-first_lapsed-clause-lapsed t c shape keys holds =
    let parts = parted c.args.links.now shape c.args.at c.in-Some.link.now (omega arith) c.in-Some.ensures.lookup.3.0 c.in-Some.ensures.lookup.1 holds in
    let left = sym (c.in-Some-first_lapsed.ensures.lapsed parts.before keys parts.before_holds) in
    sym (first_left c.args.moment _ _ _ _ _ (around_node keys c.args.links.now shape c.args.at c.in-Some.link.now parts) left)

pub returns-then-last_moment-moment-clause-lapsed : goal.returns-then-last_moment-moment-clause-lapsed
returns-then-last_moment-moment-clause-lapsed t c shape keys holds =
    let parts = parted c.args.links.now shape c.args.at c.in-Some.link.now (omega arith) c.in-Some.ensures.lookup.3.0 c.in-Some.ensures.lookup.1 holds in
    let left = sym (c.in_default-first_lapsed.ensures.lapsed parts.before keys parts.before_holds) in
    let last = c.last_moment.ensures ∙ ap last_moment parts.until in
    sym (first_here c.args.moment _ _ _ _ (around_node keys c.args.links.now shape c.args.at c.in-Some.link.now parts) (omega arith) left (omega (arith, last)))

pub first_lapsed-requires-2 : goal.first_lapsed-requires-2
first_lapsed-requires-2 t c =
    let tree = trees c.args.links.now c.args.at c.in-Some.link.now (omega arith) c.in-Some.ensures.lookup.3.0 c.in-Some.ensures.lookup.1 c.requires.tree in
    (omega (arith, tree.right_lower), tree.right)

pub returns-clause-lapsed : goal.returns-clause-lapsed
returns-clause-lapsed t c shape keys holds =
    let parts = parted c.args.links.now shape c.args.at c.in-Some.link.now (omega arith) c.in-Some.ensures.lookup.3.0 c.in-Some.ensures.lookup.1 holds in
    let left = sym (c.in_default-first_lapsed.ensures.lapsed parts.before keys parts.before_holds) in
    let last = c.last_moment.ensures ∙ ap last_moment parts.until in
    c.first_lapsed-2.ensures.lapsed parts.behind keys parts.behind_holds
    ∙ sym (first_right c.args.moment _ _ _ _ (around_node keys c.args.links.now shape c.args.at c.in-Some.link.now parts) (omega arith) left (omega (arith, last)))
