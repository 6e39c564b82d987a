use Rattle.std.proofs.Common.{◌≡◌, ◌<◌, ◌∷◌, ◌++◌, length, refl, sym, ap, ◌∙◌, subst, arith, append-nil}
use Rattle.keeper_core.specs.Shapes.{slots, times, Proper, Holds, IsTree, Rebalanced}
use Rattle.keeper_core.specs.Shapes.Shape.{Fork}
use Rattle.keeper_core.specs.Removal.{LeastTaken}
use Rattle.keeper_core.proofs.Balance.{sunk_right, alone_left}
use Rattle.keeper_core.proofs.Shapes.{Apart, apart, Kept, kept_trans, kept_more, built_kept, Grown, grown_both, stays, unchanged, proper_for, proper_behind, proper_sides, built_after, slots_below, times_fork, at_front}
use Rattle.keeper_core.proofs.Sought.{bare, sides}
use Rattle.keeper_core.proofs.removal.joined.Goals as goal

pub returns-then-right-links : goal.returns-then-right-links
returns-then-right-links c before behind proper l b h =
    let old = c.args.links.now in
    let none_behind = bare old behind c.right_at-right.result c.if-right-links.true (subst (Holds old behind) (sym c.right_at-right.ensures) h) in
    record {
      shrunk = before;
      ordered = sym (ap (λ shape. slots before ++ slots shape) none_behind ∙ append-nil (slots before));
      built = unchanged old before c.left_at-left.result (subst (Holds old before) (sym c.left_at-left.ensures) b);
      sunk = λ was. alone_left before c.args.at behind none_behind was;
    }

pub take_least-taken-requires-clause-tree : goal.take_least-taken-requires-clause-tree
take_least-taken-requires-clause-tree c = subst (IsTree c.args.links.now) (sym c.right_at-right.ensures) (sides c.args.links.now c.args.at (omega arith) c.requires.at c.requires.tree).right

pub returns : goal.returns
returns c before behind proper l b h =
    let old = c.args.links.now in
    let mid = c.take_least-taken.new.links in
    let next = c.set_right.new.links in
    let new = c.balanced.new.links in
    let at = c.args.at in
    let least = c.take_least-taken.result.least in
    let rest = c.take_least-taken.result.rest in
    let left = c.left_at-left.result in
    let result = c.balanced.result in
    let behind_at : Holds old behind c.right_at-right.result = subst (Holds old behind) (sym c.right_at-right.ensures) h in
    let one : LeastTaken old mid behind least rest = c.take_least-taken.ensures behind behind_at (proper_behind (length old) (length old) before at behind refl proper) in
    let shape = one.removed.shrunk in
    let built = one.removed.built in
    let order : slots (Fork before least shape) ≡ slots before ++ slots behind = ap (λ list. slots before ++ list) (ap (λ list. least ∷ list) one.removed.ordered ∙ sym one.first) in
    let proper_same : Proper (length old) (slots (Fork before least shape)) = subst (Proper (length old)) (sym order) (proper_sides (length old) before at behind proper) in
    let parts : Apart before least shape = apart before least shape proper_same.distinct in
    let least_in : 0 < times least (slots behind) = subst (λ list. 0 < times least list) (sym one.first) (at_front least one.others) in
    let within : least < length mid = omega (arith, slots_below old behind c.right_at-right.result least behind_at least_in, built.len) in
    let before_mid : Holds mid before left = stays old mid before left parts.before (λ slot w. built.frame slot (parts.before_behind slot w)) (omega (arith, built.len)) (subst (Holds old before) (sym c.left_at-left.ensures) b) in
    let grown : Grown mid next before least shape = grown_both mid c.set_left.new.links next least left rest before shape proper_same.distinct within before_mid built.holds c.set_left.ensures c.set_right.ensures in
    let kept : Kept old next (slots (Fork before least shape)) = kept_trans old mid next (slots (Fork before least shape))
    (kept_more old mid (slots shape) (slots (Fork before least shape)) (λ slot w. omega (arith, w, times_fork slot before least shape)) (built_kept old mid shape rest built))
    grown.kept in
    let balanced : Rebalanced next new before least shape result = c.balanced.ensures before shape (proper_for (length old) (length next) (slots (Fork before least shape)) (slots (Fork before least shape)) refl kept.len proper_same) (omega (arith, within, built.len, kept.len)) grown.before grown.behind in
    record {
      shrunk = balanced.shape;
      ordered = balanced.ordered ∙ order;
      built = built_after old next new balanced.shape result (subst (Kept old next) (sym balanced.ordered) kept) balanced.built;
      sunk = λ was. sunk_right before at behind least shape balanced.shape was (one.removed.sunk was.1.1.1) balanced.level balanced.stays;
    }
