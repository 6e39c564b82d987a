use Rattle.std.proofs.Common.{◌≡◌, ℕ, ◌<◌, List, ◌∷◌, length, refl, sym, ap, ◌∙◌, subst, arith, append_assoc}
use Rattle.keeper_core.specs.Shapes.{Shape, slots, Proper, left_in, left_at, right_at, Holds, Built, left_lifted}
use Rattle.keeper_core.specs.Shapes.Shape.{Bare, Fork}
use Rattle.keeper_core.specs.Fields.{Rewritten, with_left, with_right}
use Rattle.keeper_core.specs.declared.links.Link.{Link}
use Rattle.keeper_core.proofs.Shapes.{Apart, apart, top_outside, Kept, kept_trans, built, built_kept, Marks, stays, Grown, grown_left, grown_right, unchanged, proper_for, proper_behind, kept_more, times_fork}
use Rattle.keeper_core.proofs.rotation.lifted_left.Goals as goal

module _ (old first second third new : List Link) (at top : ℕ) (before middle behind : Shape)
    (proper : Proper (length old) (slots (Fork (Fork before top middle) at behind)))
    (l : at < length old)
    (h : Holds old (Fork before top middle) (left_at old at))
    (b : Holds old behind (right_at old at))
    (set_at : Rewritten (with_left (right_at old top)) old first at)
    (mark_at : Marks first second at)
    (set_top : Rewritten (with_right at) second third top)
    (mark_top : Marks third new top) where
  abbrev inner : Shape
  inner = Fork middle at behind

  abbrev whole : Shape
  whole = Fork before top inner

  order : slots (Fork (Fork before top middle) at behind) ≡ slots whole
  order = append_assoc (slots before) (top ∷ slots middle) (at ∷ slots behind)

  proper_whole : Proper (length old) (slots whole)
  proper_whole = proper_for (length old) (length old) _ _ order refl proper

  parts : Apart before top inner
  parts = apart before top inner proper_whole.distinct

  grown : Grown old first middle at behind
  grown = grown_left old old first at (right_at old top) middle behind parts.behind l (unchanged old middle (right_at old top) h.1.1.1.0) set_at b

  inner_built : Built first second inner at
  inner_built = mark_at middle behind (proper_behind (length old) (length first) before top inner set_at.len proper_whole) (omega (arith, set_at.len)) grown.before grown.behind

  before_first : Holds first before (left_at first top)
  before_first =
      let left_is : left_at first top ≡ left_at old top = ap left_in (grown.kept.frame top (top_outside before top inner proper_whole.distinct).1) in
      subst (Holds first before) (sym left_is) (stays old first before (left_at old top) parts.before (λ slot w. grown.kept.frame slot (parts.before_behind slot w)) (omega (arith, set_at.len)) h.1.1.0)

  grown_top : Grown first third before top inner
  grown_top = grown_right first second third top at before inner proper_whole.distinct (omega (arith, set_at.len, h.1.0)) inner_built set_top before_first

  len : length third ≡ length old
  len = set_top.len ∙ inner_built.len ∙ set_at.len

  top_built : Built third new whole top
  top_built = mark_top before inner (proper_for (length old) (length third) _ _ refl len proper_whole) (omega (arith, len, h.1.0)) grown_top.before grown_top.behind

  kept_first : Kept old first (slots whole)
  kept_first = kept_more old first (slots inner) (slots whole) (λ slot w. omega (arith, times_fork slot before top inner)) grown.kept

  lifted : Built old new whole top
  lifted = built old third new whole top (kept_trans old first third (slots whole) kept_first grown_top.kept) (built_kept third new whole top top_built) top_built.holds

pub returns : goal.returns
returns c Bare behind tall proper l h b = absurd (omega arith)
returns c (Fork before top middle) behind tall proper l h b =
    let old = c.args.links.now in
    let at = c.args.at in
    let is_top : c.left_at-top.result ≡ top = c.left_at-top.ensures ∙ h.0 in
    subst (Built old c.mark-2.new.links (left_lifted (Fork before top middle) at behind)) (sym is_top)
    (lifted old c.set_left.new.links c.mark.new.links c.set_right.new.links c.mark-2.new.links at top before middle behind proper l h b
    (subst (λ place. Rewritten (with_left place) old c.set_left.new.links at) (c.right_at-middle.ensures ∙ ap (right_at old) is_top) c.set_left.ensures)
    c.mark.ensures
    (subst (Rewritten (with_right at) c.mark.new.links c.set_right.new.links) is_top c.set_right.ensures)
    (subst (Marks c.set_right.new.links c.mark-2.new.links) is_top c.mark-2.ensures))
