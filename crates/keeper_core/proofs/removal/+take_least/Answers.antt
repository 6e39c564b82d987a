use Rattle.std.proofs.Common.{◌≡◌, ◌∷◌, ◌++◌, length, refl, sym, ap, ◌∙◌, subst, arith}
use Rattle.keeper_core.specs.Shapes.{slots, left_at, right_at, height_at, Proper, Holds, IsTree, Rebalanced}
use Rattle.keeper_core.specs.Shapes.Shape.{Bare, Fork}
use Rattle.keeper_core.specs.Removal.{LeastTaken}
use Rattle.keeper_core.proofs.Balance.{sunk_left, alone_right}
use Rattle.keeper_core.proofs.Shapes.{Kept, Grown, grown_left, unchanged, proper_for, proper_before, proper_rest, built_after}
use Rattle.keeper_core.proofs.Sought.{bare, sides}
use Rattle.keeper_core.proofs.removal.+take_least.Goals as goal

pub returns-then-left-links : goal.returns-then-left-links
returns-then-left-links t c Bare h proper = absurd (omega (arith, h, c.requires.at))
returns-then-left-links t c (Fork before top behind) h proper =
    let old = c.args.links.now in
    let left_is : c.left_at-left.result ≡ left_at old top = c.left_at-left.ensures ∙ ap (left_at old) h.0 in
    let right_is : c.right_at.result ≡ right_at old top = c.right_at.ensures ∙ ap (right_at old) h.0 in
    let none_before = bare old before c.left_at-left.result c.if-left-links.true (subst (Holds old before) (sym left_is) h.1.1.0) in
    record {
      others = slots behind;
      first = ap (λ shape. slots shape ++ top ∷ slots behind) none_before ∙ ap (λ place. place ∷ slots behind) (sym h.0);
      removed = record {
        shrunk = behind;
        ordered = refl;
        built = unchanged old behind c.right_at.result (subst (Holds old behind) (sym right_is) h.1.1.1.0);
        sunk = λ was. alone_right before top behind none_before was;
      };
    }

pub take_least-taken-requires : goal.take_least-taken-requires
take_least-taken-requires t c =
    let both = sides c.args.links.now c.args.at (omega arith) c.requires.at c.requires.tree in
    (omega (arith, both.left_lower, ap (height_at c.args.links.now) c.left_at-left.ensures), (subst (IsTree c.args.links.now) (sym c.left_at-left.ensures) both.left, omega (arith, c.if-left-links.false)))

pub returns : goal.returns
returns t c Bare h proper = absurd (omega (arith, h, c.requires.at))
returns t c (Fork before top behind) h proper =
    let old = c.args.links.now in
    let mid = c.take_least-taken.new.links in
    let next = c.set_left.new.links in
    let new = c.balanced-rest.new.links in
    let at = c.args.at in
    let least = c.take_least-taken.result.least in
    let result = c.balanced-rest.result in
    let proper_at : Proper (length old) (slots (Fork before at behind)) = subst (λ root. Proper (length old) (slots (Fork before root behind))) (sym h.0) proper in
    let before_at : Holds old before (left_at old at) = subst (λ root. Holds old before (left_at old root)) (sym h.0) h.1.1.0 in
    let behind_at : Holds old behind (right_at old at) = subst (λ root. Holds old behind (right_at old root)) (sym h.0) h.1.1.1.0 in
    let one : LeastTaken old mid before least c.take_least-taken.result.rest = c.take_least-taken.ensures before (subst (Holds old before) (sym c.left_at-left.ensures) before_at) (proper_before (length old) (length old) before at behind refl proper_at) in
    let shape = one.removed.shrunk in
    let first : slots (Fork before at behind) ≡ least ∷ slots (Fork shape at behind) = ap (λ list. list ++ at ∷ slots behind) (one.first ∙ ap (λ list. least ∷ list) (sym one.removed.ordered)) in
    let proper_same : Proper (length old) (slots (Fork shape at behind)) = proper_rest (length old) least (slots (Fork shape at behind)) (subst (Proper (length old)) first proper_at) in
    let grown : Grown old next shape at behind = grown_left old mid next at c.take_least-taken.result.rest shape behind proper_same.distinct c.requires.at one.removed.built c.set_left.ensures behind_at in
    let balanced : Rebalanced next new shape at behind result = c.balanced-rest.ensures shape behind (proper_for (length old) (length next) (slots (Fork shape at behind)) (slots (Fork shape at behind)) refl grown.kept.len proper_same) (omega (arith, grown.kept.len, c.requires.at)) grown.before grown.behind in
    let done : LeastTaken old new (Fork before at behind) least result = record {
      others = slots (Fork shape at behind);
      first = first;
      removed = record {
        shrunk = balanced.shape;
        ordered = balanced.ordered;
        built = built_after old next new balanced.shape result (subst (Kept old next) (sym balanced.ordered) grown.kept) balanced.built;
        sunk = λ was. sunk_left before shape at behind balanced.shape was (one.removed.sunk was.1.1.0) balanced.level balanced.stays;
      };
    } in
    subst (λ root. LeastTaken old new (Fork before root behind) least result) h.0 done
