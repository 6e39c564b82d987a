use Rattle.std.proofs.Common.{◌≡◌, length, sym, ap, ◌∙◌, subst, arith}
use Rattle.keeper_core.specs.Shapes.{slots, height_of, left_at, right_at, height_at, right_lifted, Proper, Holds, Built}
use Rattle.keeper_core.specs.Shapes.Shape.{Bare, Fork}
use Rattle.keeper_core.proofs.Balance.{left_outward_lifts, left_outward_stays}
use Rattle.keeper_core.proofs.Shapes.{root_height, unchanged}
use Rattle.keeper_core.proofs.rotation.outward_left.Goals as goal

pub returns-then-height_at : goal.returns-then-height_at
returns-then-height_at c Bare tall proper h = absurd (omega arith)
returns-then-height_at c (Fork before slot behind) tall proper h =
    let old = c.args.links.now in
    let at = c.args.at in
    let low : c.height_at.result ≡ height_of before = c.height_at.ensures ∙ ap (height_at old) (c.left_at.ensures ∙ ap (left_at old) h.0) ∙ root_height old before (left_at old slot) (omega arith) h.1.1.0 in
    let high : c.height_at-2.result ≡ height_of behind = c.height_at-2.ensures ∙ ap (height_at old) (c.right_at.ensures ∙ ap (right_at old) h.0) ∙ root_height old behind (right_at old slot) (omega arith) h.1.1.1.0 in
    subst (λ shape. Built old c.lifted_right.new.links shape c.lifted_right.result) (sym (left_outward_lifts before slot behind (omega (arith, low, high, c.if-height_at.true))))
    (subst (λ place. Built old c.lifted_right.new.links (right_lifted before place behind) c.lifted_right.result) h.0
    (c.lifted_right.ensures before behind (omega (arith, high, c.if-height_at.true)) (subst (λ place. Proper (length old) (slots (Fork before place behind))) (sym h.0) proper) (omega (arith, h.0, h.1.0))
    (subst (λ place. Holds old before (left_at old place)) (sym h.0) h.1.1.0) (subst (λ place. Holds old behind (right_at old place)) (sym h.0) h.1.1.1.0)))

pub returns-else-height_at : goal.returns-else-height_at
returns-else-height_at c Bare tall proper h = absurd (omega arith)
returns-else-height_at c (Fork before slot behind) tall proper h =
    let old = c.args.links.now in
    let at = c.args.at in
    let low : c.height_at.result ≡ height_of before = c.height_at.ensures ∙ ap (height_at old) (c.left_at.ensures ∙ ap (left_at old) h.0) ∙ root_height old before (left_at old slot) (omega arith) h.1.1.0 in
    let high : c.height_at-2.result ≡ height_of behind = c.height_at-2.ensures ∙ ap (height_at old) (c.right_at.ensures ∙ ap (right_at old) h.0) ∙ root_height old behind (right_at old slot) (omega arith) h.1.1.1.0 in
    subst (λ shape. Built old old shape at) (sym (left_outward_stays before slot behind (omega (arith, low, high, c.if-height_at.false)))) (unchanged old (Fork before slot behind) at h)
