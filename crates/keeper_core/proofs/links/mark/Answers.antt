use Rattle.std.proofs.Common.{◌≡◌, ◌≢◌, inl, inr, ℕ, ◌+◌, ◌-◌, ◌^◌, ◌<◌, ◌≤◌, min, max, List, length, refl, sym, ap, ◌∙◌, subst, arith}
use Rattle.std.specs.Prelude.{slice_get}
use Rattle.std.proofs.lemmas.Bool.{cases_lt}
use Rattle.std.proofs.lemmas.Option.{slice_get_past}
use Rattle.keeper_core.specs.Tree.{last_moment}
use Rattle.keeper_core.specs.Shapes.{Shape, none, slots, height_of, times, Proper, left_in, right_in, parent_in, until_in, least_in, height_in, left_at, right_at, parent_at, until_at, least_at, height_at, least_below, HasParent, Holds, Built}
use Rattle.keeper_core.specs.Shapes.Shape.{Fork}
use Rattle.keeper_core.specs.Fields.{Rewritten, with_parent, with_marks}
use Rattle.keeper_core.specs.declared.links.Link.{Link}
use Rattle.keeper_core.proofs.Shapes.{Apart, apart, Same, same_of, same_trans, Alike, least_same, goes_over, slots_below, root_outside, root_in, root_least, root_height, height_small, times_fork, one_here, unmoved, moved, reparented, parent_is}
use Rattle.keeper_core.proofs.links.mark.Goals as goal

module _ (old l1 l2 new : List Link) (at : ℕ) (least height : ℕ) (before behind : Shape)
    (most : length old ≤ none)
    (proper : Proper (length old) (slots (Fork before at behind)))
    (l : at < length old)
    (b : Holds old before (left_at old at))
    (h : Holds old behind (right_at old at))
    (r1 : Rewritten (with_marks least height) old l1 at)
    (r2 : Rewritten (with_parent at) l1 l2 (left_at old at))
    (r3 : Rewritten (with_parent at) l2 new (right_at old at))
    (least_is : least ≡ min (last_moment (until_at old at)) (min (least_at old (left_at old at)) (least_at old (right_at old at))))
    (height_is : height ≡ min (max (height_at old (left_at old at)) (height_at old (right_at old at)) + 1) (2 ^ 64 - 1)) where
  parts : Apart before at behind
  parts = apart before at behind proper.distinct

  lefts : (slot : ℕ) → left_at new slot ≡ left_at old slot
  lefts slot = (reparented at l2 new (right_at old at) r3 slot).left ∙ (reparented at l1 l2 (left_at old at) r2 slot).left ∙ unmoved left_in (with_marks least height) (λ link. refl) old l1 at r1 slot

  rights : (slot : ℕ) → right_at new slot ≡ right_at old slot
  rights slot = (reparented at l2 new (right_at old at) r3 slot).right ∙ (reparented at l1 l2 (left_at old at) r2 slot).right ∙ unmoved right_in (with_marks least height) (λ link. refl) old l1 at r1 slot

  untils : (slot : ℕ) → until_at new slot ≡ until_at old slot
  untils slot = (reparented at l2 new (right_at old at) r3 slot).until ∙ (reparented at l1 l2 (left_at old at) r2 slot).until ∙ unmoved until_in (with_marks least height) (λ link. refl) old l1 at r1 slot

  len : length new ≡ length old
  len = r3.len ∙ r2.len ∙ r1.len

  fields : (slot : ℕ) → slot ≢ at → Same old new slot
  fields slot ne = same_trans old l1 new slot (same_of old l1 slot (r1.others slot ne)) (same_trans l1 l2 new slot (reparented at l1 l2 (left_at old at) r2 slot) (reparented at l2 new (right_at old at) r3 slot))

  parents : (slot : ℕ) → slot ≢ left_at old at → slot ≢ right_at old at → parent_at new slot ≡ parent_at old slot
  parents slot left right = ap parent_in (r3.others slot right) ∙ ap parent_in (r2.others slot left) ∙ unmoved parent_in (with_marks least height) (λ link. refl) old l1 at r1 slot

  before_alike : Alike old new before (left_at old at)
  before_alike = record {
    fields = λ slot w. fields slot (parts.before_top slot w);
    parents = λ slot w ne. parents slot ne (root_outside old behind (right_at old at) slot most h (slots_below old before (left_at old at) slot b w) (parts.before_behind slot w));
    len = omega (arith, len);
  }

  behind_alike : Alike old new behind (right_at old at)
  behind_alike = record {
    fields = λ slot w. fields slot (parts.behind_top slot w);
    parents = λ slot w ne. parents slot (root_outside old before (left_at old at) slot most b (slots_below old behind (right_at old at) slot h w) (parts.behind_before slot w)) ne;
    len = omega (arith, len);
  }

  before_parent : HasParent new before at
  before_parent =
      let b_new : Holds new before (left_at old at) = goes_over old new before (left_at old at) parts.before before_alike b in
      parent_is new before (left_at old at) at b_new (λ some.
      let w : 0 < times (left_at old at) (slots before) = root_in old before (left_at old at) b some in
      let below : left_at old at < length old = slots_below old before (left_at old at) (left_at old at) b w in
      let ne : left_at old at ≢ right_at old at = root_outside old behind (right_at old at) (left_at old at) most h below (parts.before_behind (left_at old at) w) in
      ap parent_in (r3.others (left_at old at) ne) ∙ moved parent_in (with_parent at) at (λ link. refl) l1 l2 (left_at old at) r2 (omega (arith, r1.len)))

  behind_parent : HasParent new behind at
  behind_parent =
      let h_new : Holds new behind (right_at old at) = goes_over old new behind (right_at old at) parts.behind behind_alike h in
      parent_is new behind (right_at old at) at h_new (λ some.
      let w : 0 < times (right_at old at) (slots behind) = root_in old behind (right_at old at) h some in
      let below : right_at old at < length old = slots_below old behind (right_at old at) (right_at old at) h w in
      moved parent_in (with_parent at) at (λ link. refl) l2 new (right_at old at) r3 (omega (arith, r1.len, r2.len)))

  least_new : least_at new at ≡ least_below new (Fork before at behind)
  least_new =
      (reparented at l2 new (right_at old at) r3 at).least ∙ (reparented at l1 l2 (left_at old at) r2 at).least ∙ moved least_in (with_marks least height) least (λ link. refl) old l1 at r1 l
      ∙ least_is
      ∙ ap (λ n. min (last_moment (until_at old at)) (min n (least_at old (right_at old at)))) (root_least old before (left_at old at) most b)
      ∙ ap (λ n. min (last_moment (until_at old at)) (min (least_below old before) n)) (root_least old behind (right_at old at) most h)
      ∙ sym (least_same old new (Fork before at behind) (λ slot w. untils slot))

  height_new : height_at new at ≡ height_of (Fork before at behind)
  height_new =
      (reparented at l2 new (right_at old at) r3 at).height ∙ (reparented at l1 l2 (left_at old at) r2 at).height ∙ moved height_in (with_marks least height) height (λ link. refl) old l1 at r1 l
      ∙ omega (arith, height_is, root_height old before (left_at old at) most b, root_height old behind (right_at old at) most h, height_small (Fork before at behind), proper.few)

  frame : (slot : ℕ) → times slot (slots (Fork before at behind)) ≡ 0 → slice_get new slot ≡ slice_get old slot
  frame slot w =
      let out : (times slot (slots before) ≡ 0) × ((slot ≢ at) × (times slot (slots behind) ≡ 0)) = (omega (arith, times_fork slot before at behind), ((λ e. omega (arith, times_fork slot before at behind, one_here slot at e)), omega (arith, times_fork slot before at behind))) in
      elim (cases_lt slot (length old)) [
        | inl below ↦ r3.others slot (root_outside old behind (right_at old at) slot most h below out.1.1) ∙ r2.others slot (root_outside old before (left_at old at) slot most b below out.0) ∙ r1.others slot out.1.0
        | inr past ↦ slice_get_past new slot (omega (arith, len)) ∙ sym (slice_get_past old slot past)
      ]

  holds : Holds new (Fork before at behind) at
  holds = (refl, (omega (arith, len), (subst (λ place. Holds new before place) (sym (lefts at)) (goes_over old new before (left_at old at) parts.before before_alike b), (subst (λ place. Holds new behind place) (sym (rights at)) (goes_over old new behind (right_at old at) parts.behind behind_alike h), record { least = least_new; height = height_new; before_parent = before_parent; behind_parent = behind_parent }))))

  marked : Built old new (Fork before at behind) at
  marked = record { holds = holds; frame = frame; untils = untils; len = len }

pub returns : goal.returns
returns c before behind proper l b h =
    marked c.args.links.now c.set_marks.new.links c.set_parent.new.links c.set_parent-2.new.links c.args.at _ _ before behind (omega arith) proper l b h c.set_marks.ensures
    (subst (λ place. Rewritten (with_parent c.args.at) c.set_marks.new.links c.set_parent.new.links place) c.left_at-left.ensures c.set_parent.ensures)
    (subst (λ place. Rewritten (with_parent c.args.at) c.set_parent.new.links c.set_parent-2.new.links place) c.right_at-right.ensures c.set_parent-2.ensures)
    c.least_by-least.ensures
    (cc)
