use Rattle.std.proofs.Common.{◌≡◌, ℕ, ◌<◌, List, ◌∷◌, length, refl, sym, ap, ◌∙◌, subst, arith, append_assoc}
use Rattle.keeper_core.specs.Shapes.{Shape, slots, Proper, right_in, left_at, right_at, Holds, Built, right_lifted}
use Rattle.keeper_core.specs.Shapes.Shape.{Bare, Fork}
use Rattle.keeper_core.specs.Fields.{Rewritten, with_left, with_right}
use Rattle.keeper_core.specs.declared.links.Link.{Link}
use Rattle.keeper_core.proofs.Shapes.{Apart, apart, top_outside, Kept, kept_trans, built, built_kept, Marks, stays, Grown, grown_left, grown_right, unchanged, proper_for, proper_before, kept_more, times_fork}
use Rattle.keeper_core.proofs.rotation.lifted_right.Goals as goal

module _ (old first second third new : List Link) (at top : ℕ) (before middle behind : Shape)
    (proper : Proper (length old) (slots (Fork before at (Fork middle top behind))))
    (l : at < length old)
    (b : Holds old before (left_at old at))
    (h : Holds old (Fork middle top behind) (right_at old at))
    (set_at : Rewritten (with_right (left_at old top)) old first at)
    (mark_at : Marks first second at)
    (set_top : Rewritten (with_left at) second third top)
    (mark_top : Marks third new top) where
  abbrev inner : Shape
  inner = Fork before at middle

  abbrev whole : Shape
  whole = Fork inner top behind

  order : slots whole ≡ slots (Fork before at (Fork middle top behind))
  order = append_assoc (slots before) (at ∷ slots middle) (top ∷ slots behind)

  proper_whole : Proper (length old) (slots whole)
  proper_whole = proper_for (length old) (length old) _ _ (sym order) refl proper

  parts : Apart inner top behind
  parts = apart inner top behind proper_whole.distinct

  grown : Grown old first before at middle
  grown = grown_right old old first at (left_at old top) before middle parts.before l (unchanged old middle (left_at old top) h.1.1.0) set_at b

  inner_built : Built first second inner at
  inner_built = mark_at before middle (proper_before (length old) (length first) inner top behind set_at.len proper_whole) (omega (arith, set_at.len)) grown.before grown.behind

  behind_first : Holds first behind (right_at first top)
  behind_first =
      let right_is : right_at first top ≡ right_at old top = ap right_in (grown.kept.frame top (top_outside inner top behind proper_whole.distinct).0) in
      subst (Holds first behind) (sym right_is) (stays old first behind (right_at old top) parts.behind (λ slot w. grown.kept.frame slot (parts.behind_before slot w)) (omega (arith, set_at.len)) h.1.1.1.0)

  grown_top : Grown first third inner top behind
  grown_top = grown_left first second third top at inner behind proper_whole.distinct (omega (arith, set_at.len, h.1.0)) inner_built set_top behind_first

  len : length third ≡ length old
  len = set_top.len ∙ inner_built.len ∙ set_at.len

  top_built : Built third new whole top
  top_built = mark_top inner behind (proper_for (length old) (length third) _ _ refl len proper_whole) (omega (arith, len, h.1.0)) grown_top.before grown_top.behind

  kept_first : Kept old first (slots whole)
  kept_first = kept_more old first (slots inner) (slots whole) (λ slot w. omega (arith, times_fork slot inner top behind)) grown.kept

  lifted : Built old new whole top
  lifted = built old third new whole top (kept_trans old first third (slots whole) kept_first grown_top.kept) (built_kept third new whole top top_built) top_built.holds

pub returns : goal.returns
returns c before Bare tall proper l b h = absurd (omega arith)
returns c before (Fork middle top behind) tall proper l b h =
    let old = c.args.links.now in
    let at = c.args.at in
    let is_top : c.right_at-top.result ≡ top = c.right_at-top.ensures ∙ h.0 in
    subst (Built old c.mark-2.new.links (right_lifted before at (Fork middle top behind))) (sym is_top)
    (lifted old c.set_right.new.links c.mark.new.links c.set_left.new.links c.mark-2.new.links at top before middle behind proper l b h
    (subst (λ place. Rewritten (with_right place) old c.set_right.new.links at) (c.left_at-middle.ensures ∙ ap (left_at old) is_top) c.set_right.ensures)
    c.mark.ensures
    (subst (Rewritten (with_left at) c.mark.new.links c.set_left.new.links) is_top c.set_left.ensures)
    (subst (Marks c.set_left.new.links c.mark-2.new.links) is_top c.mark-2.ensures))
