use Rattle.std.proofs.Common.{◌≡◌, ◌≤◌, ◌+◌, ◌∷◌, ◌++◌, length, refl, sym, ap, ◌∙◌, subst, arith}
use Rattle.keeper_core.specs.Shapes.{slots, height_of, left_at, right_at, height_at, left_lifted, right_lifted, left_outward, right_outward, Proper, Holds, Built}
use Rattle.keeper_core.specs.Shapes.Shape.{Fork}
use Rattle.keeper_core.proofs.Balance.{left_lifted-slots, right_lifted-slots, left_outward-slots, right_outward-slots, left_level, right_level, is_level}
use Rattle.keeper_core.proofs.Shapes.{Kept, Grown, grown_left, grown_right, root_height, height_small, height_some, proper_for, proper_before, proper_behind, built_after}
use Rattle.keeper_core.proofs.rotation.balanced.Goals as goal
use Rattle.keeper_core.proofs.rotation.balanced.Goals.{else-before-behind-via-then-before-behind+else-before-behind-gt1, else-before-behind-via-else-before-behind, else-behind-before-via-then-behind-before+else-behind-before-gt1, else-behind-before-via-else-behind-before}

pub returns-then-before-behind-gt1 : goal.returns-then-before-behind-gt1
returns-then-before-behind-gt1 c before behind proper l b h =
    let old = c.args.links.now in
    let mid = c.outward_left-outward.new.links in
    let new = c.set_left.new.links in
    let last = c.lifted_left.new.links in
    let at = c.args.at in
    let low : c.height_at-behind.result ≡ height_of behind = c.height_at-behind.ensures ∙ ap (height_at old) c.right_at-right.ensures ∙ root_height old behind (right_at old at) (omega arith) h in
    let high : c.height_at-before.result ≡ height_of before = c.height_at-before.ensures ∙ ap (height_at old) c.left_at-left.ensures ∙ root_height old before (left_at old at) (omega arith) b in
    let shape = left_outward before in
    let outward : Built old mid shape c.outward_left-outward.result = c.outward_left-outward.ensures before (omega (arith, high, c.if-before-behind.true)) (proper_before (length old) (length old) before at behind refl proper) (subst (Holds old before) (sym c.left_at-left.ensures) b) in
    let same : slots (Fork shape at behind) ≡ slots (Fork before at behind) = ap (λ list. list ++ at ∷ slots behind) (left_outward-slots before) in
    let proper_same : Proper (length old) (slots (Fork shape at behind)) = proper_for (length old) (length old) (slots (Fork before at behind)) (slots (Fork shape at behind)) (sym same) refl proper in
    let grown : Grown old new shape at behind = grown_left old mid new at c.outward_left-outward.result shape behind proper_same.distinct l outward c.set_left.ensures h in
    let lifted : Built new last (left_lifted shape at behind) c.lifted_left.result = c.lifted_left.ensures shape behind (height_some shape (omega (arith, high, c.if-before-behind.true, height_small before, ap length (left_outward-slots before)))) (proper_for (length old) (length new) (slots (Fork shape at behind)) (slots (Fork shape at behind)) refl grown.kept.len proper_same) (omega (arith, grown.kept.len)) grown.before grown.behind in
    let order : slots (left_lifted shape at behind) ≡ slots (Fork shape at behind) = left_lifted-slots shape at behind in
    record {
      shape = left_lifted shape at behind;
      ordered = order ∙ same;
      built = built_after old new last (left_lifted shape at behind) c.lifted_left.result (subst (Kept old new) (sym order) grown.kept) lifted;
      level = λ is_low is_high most least. left_level before at behind is_low is_high (omega (arith, low, high, c.if-before-behind.true, most));
      stays = λ most least. absurd (omega (arith, low, high, c.if-before-behind.true, most));
    }

pub returns-then-behind-before-gt1 : goal.returns-then-behind-before-gt1
returns-then-behind-before-gt1 c before behind proper l b h =
    let old = c.args.links.now in
    let mid = c.outward_right-outward.new.links in
    let new = c.set_right.new.links in
    let last = c.lifted_right.new.links in
    let at = c.args.at in
    let low : c.height_at-before.result ≡ height_of before = c.height_at-before.ensures ∙ ap (height_at old) c.left_at-left.ensures ∙ root_height old before (left_at old at) (omega arith) b in
    let high : c.height_at-behind.result ≡ height_of behind = c.height_at-behind.ensures ∙ ap (height_at old) c.right_at-right.ensures ∙ root_height old behind (right_at old at) (omega arith) h in
    let shape = right_outward behind in
    let outward : Built old mid shape c.outward_right-outward.result = c.outward_right-outward.ensures behind (omega (arith, high, c.if-behind-before.true)) (proper_behind (length old) (length old) before at behind refl proper) (subst (Holds old behind) (sym c.right_at-right.ensures) h) in
    let same : slots (Fork before at shape) ≡ slots (Fork before at behind) = ap (λ list. slots before ++ at ∷ list) (right_outward-slots behind) in
    let proper_same : Proper (length old) (slots (Fork before at shape)) = proper_for (length old) (length old) (slots (Fork before at behind)) (slots (Fork before at shape)) (sym same) refl proper in
    let grown : Grown old new before at shape = grown_right old mid new at c.outward_right-outward.result before shape proper_same.distinct l outward c.set_right.ensures b in
    let lifted : Built new last (right_lifted before at shape) c.lifted_right.result = c.lifted_right.ensures before shape (height_some shape (omega (arith, high, c.if-behind-before.true, height_small behind, ap length (right_outward-slots behind)))) (proper_for (length old) (length new) (slots (Fork before at shape)) (slots (Fork before at shape)) refl grown.kept.len proper_same) (omega (arith, grown.kept.len)) grown.before grown.behind in
    let order : slots (right_lifted before at shape) ≡ slots (Fork before at shape) = right_lifted-slots before at shape in
    record {
      shape = right_lifted before at shape;
      ordered = order ∙ same;
      built = built_after old new last (right_lifted before at shape) c.lifted_right.result (subst (Kept old new) (sym order) grown.kept) lifted;
      level = λ is_low is_high most least. right_level before at behind is_low is_high (omega (arith, low, high, c.if-behind-before.true, least));
      stays = λ most least. absurd (omega (arith, low, high, c.if-behind-before.true, least));
    }

pub returns : goal.returns
returns c before behind proper l b h =
    let old = c.args.links.now in
    let at = c.args.at in
    let first : c.height_at-before.result ≡ height_of before = c.height_at-before.ensures ∙ ap (height_at old) c.left_at-left.ensures ∙ root_height old before (left_at old at) (omega arith) b in
    let second : c.height_at-behind.result ≡ height_of behind = c.height_at-behind.ensures ∙ ap (height_at old) c.right_at-right.ensures ∙ root_height old behind (right_at old at) (omega arith) h in
    let most : height_of before ≤ height_of behind + 1 = elim c.else-before-behind.branch [
      | else-before-behind-via-then-before-behind+else-before-behind-gt1 w ↦ omega (arith, first, second, w.if-before-behind.true, w.if-before-behind-gt1.false)
      | else-before-behind-via-else-before-behind w ↦ omega (arith, first, second, w.if-before-behind.false)
    ] in
    let least : height_of behind ≤ height_of before + 1 = elim c.else-behind-before.branch [
      | else-behind-before-via-then-behind-before+else-behind-before-gt1 w ↦ omega (arith, first, second, w.if-behind-before.true, w.if-behind-before-gt1.false)
      | else-behind-before-via-else-behind-before w ↦ omega (arith, first, second, w.if-behind-before.false)
    ] in
    record {
      shape = Fork before at behind;
      ordered = refl;
      built = c.mark.ensures before behind proper l b h;
      level = λ is_first is_second few more. is_level before at behind is_first is_second most least;
      stays = λ few more. refl;
    }
