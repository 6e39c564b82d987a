use Rattle.std.proofs.Common.{◌≡◌, ◌≢◌, ℕ, ◌<◌, true, false, List, ◌∷◌, ◌++◌, length, refl, sym, ap, ◌∙◌, subst, arith}
use Rattle.std.specs.Ordering.{is_lt}
use Rattle.std.specs.FinMap.{is_sorted}
use Rattle.std.specs.declared.alloc.Global.{Global}
use Rattle.std.specs.declared.vec.Vec.{Vec}
use Rattle.keeper_core.specs.Rows.{byte_order}
use Rattle.keeper_core.specs.Shapes.{Shape, slots, times, left_at, right_at, height_at, key_at, entries_at, Proper, Holds, IsTree, Rebalanced}
use Rattle.keeper_core.specs.Shapes.Shape.{Bare, Fork}
use Rattle.keeper_core.specs.Removal.{without_slot, Removed}
use Rattle.keeper_core.specs.Fields.{Rewritten, with_left, with_right}
use Rattle.keeper_core.specs.declared.links.Link.{Link}
use Rattle.keeper_core.proofs.Balance.{sunk_left, sunk_right}
use Rattle.keeper_core.proofs.Shapes.{Kept, Grown, grown_left, grown_right, apart, top_outside, proper_for, proper_before, proper_behind, built_after}
use Rattle.keeper_core.proofs.Sought.{bare, sides}
use Rattle.keeper_core.proofs.WithSlot.{around_slot}
use Rattle.keeper_core.proofs.WithoutSlot.{without_slot-proper, without_slot_before, without_slot_behind, without_top, stands_before, stands_behind}
use Rattle.keeper_core.proofs.removal.+remove.Goals as goal
use Rattle.keeper_core.proofs.removal.+remove.Goals.{then-is_below, else-is_below}

-- what balancing gives
abbrev Balances : List Link → List Link → ℕ → ℕ → Type 0
Balances old new at result = (before behind : Shape) → Proper (length old) (slots (Fork before at behind)) → at < length old → Holds old before (left_at old at) → Holds old behind (right_at old at) → Rebalanced old new before at behind result

-- what taking a node out gives
abbrev Removes : List (Vec ℕ Global) → ℕ → List Link → List Link → ℕ → ℕ → Type 0
Removes keys slot old new at result = (shape : Shape) → Holds old shape at → Proper (length old) (slots shape) → 0 < times slot (slots shape) → is_sorted byte_order (entries_at keys old (slots shape)) ≡ true → Removed old new shape (without_slot slot (slots shape)) result

module _ (keys : List (Vec ℕ Global)) (slot : ℕ) (old mid next new : List Link) (at child result : ℕ) (before behind : Shape)
    (proper : Proper (length old) (slots (Fork before at behind)))
    (l : at < length old)
    (b : Holds old before (left_at old at))
    (h : Holds old behind (right_at old at))
    (ne : slot ≢ at)
    (m : 0 < times slot (slots (Fork before at behind)))
    (sorted : is_sorted byte_order (entries_at keys old (slots (Fork before at behind))) ≡ true)
    (balances : Balances next new at result) where
  removed_left : is_lt (byte_order (key_at keys slot) (key_at keys at)) ≡ true → Removes keys slot old mid (left_at old at) child → Rewritten (with_left child) mid next at → Removed old new (Fork before at behind) (without_slot slot (slots (Fork before at behind))) result
  removed_left less removes r =
      let m_before = stands_before keys old slot before at behind sorted ne less m in
      let one : Removed old mid before (without_slot slot (slots before)) child = removes before b (proper_before (length old) (length old) before at behind refl proper) m_before (around_slot keys old (slots before) at (slots behind) sorted).left_sorted in
      let shape = one.shrunk in
      let same : slots (Fork shape at behind) ≡ without_slot slot (slots (Fork before at behind)) = ap (λ list. list ++ at ∷ slots behind) one.ordered ∙ sym (without_slot_before slot before at behind ne ((apart before at behind proper.distinct).before_behind slot m_before)) in
      let proper_same : Proper (length old) (slots (Fork shape at behind)) = proper_for (length old) (length old) (without_slot slot (slots (Fork before at behind))) (slots (Fork shape at behind)) (sym same) refl (without_slot-proper slot (slots (Fork before at behind)) (length old) proper) in
      let grown : Grown old next shape at behind = grown_left old mid next at child shape behind proper_same.distinct l one.built r h in
      let balanced : Rebalanced next new shape at behind result = balances shape behind (proper_for (length old) (length next) (slots (Fork shape at behind)) (slots (Fork shape at behind)) refl grown.kept.len proper_same) (omega (arith, grown.kept.len)) grown.before grown.behind in
      record {
        shrunk = balanced.shape;
        ordered = balanced.ordered ∙ same;
        built = built_after old next new balanced.shape result (subst (Kept old next) (sym balanced.ordered) grown.kept) balanced.built;
        sunk = λ was. sunk_left before shape at behind balanced.shape was (one.sunk was.1.1.0) balanced.level balanced.stays;
      }

  removed_right : is_lt (byte_order (key_at keys slot) (key_at keys at)) ≡ false → Removes keys slot old mid (right_at old at) child → Rewritten (with_right child) mid next at → Removed old new (Fork before at behind) (without_slot slot (slots (Fork before at behind))) result
  removed_right above removes r =
      let m_behind = stands_behind keys old slot before at behind sorted ne above m in
      let one : Removed old mid behind (without_slot slot (slots behind)) child = removes behind h (proper_behind (length old) (length old) before at behind refl proper) m_behind (around_slot keys old (slots before) at (slots behind) sorted).right_sorted in
      let shape = one.shrunk in
      let same : slots (Fork before at shape) ≡ without_slot slot (slots (Fork before at behind)) = ap (λ list. slots before ++ at ∷ list) one.ordered ∙ sym (without_slot_behind slot before at behind ne ((apart before at behind proper.distinct).behind_before slot m_behind)) in
      let proper_same : Proper (length old) (slots (Fork before at shape)) = proper_for (length old) (length old) (without_slot slot (slots (Fork before at behind))) (slots (Fork before at shape)) (sym same) refl (without_slot-proper slot (slots (Fork before at behind)) (length old) proper) in
      let grown : Grown old next before at shape = grown_right old mid next at child before shape proper_same.distinct l one.built r b in
      let balanced : Rebalanced next new before at shape result = balances before shape (proper_for (length old) (length next) (slots (Fork before at shape)) (slots (Fork before at shape)) refl grown.kept.len proper_same) (omega (arith, grown.kept.len)) grown.before grown.behind in
      record {
        shrunk = balanced.shape;
        ordered = balanced.ordered ∙ same;
        built = built_after old next new balanced.shape result (subst (Kept old next) (sym balanced.ordered) grown.kept) balanced.built;
        sunk = λ was. sunk_right before at behind at shape balanced.shape was (one.sunk was.1.1.1) balanced.level balanced.stays;
      }

pub returns-then-at-links : goal.returns-then-at-links
returns-then-at-links t c shape h proper m sorted =
    let is = bare c.args.links.now shape c.args.at c.if-at-links.true h in
    absurd (omega (arith, subst (λ s. 0 < times c.args.slot (slots s)) is m))

pub returns-then-at-slot : goal.returns-then-at-slot
returns-then-at-slot t c Bare h proper m sorted = absurd (omega (arith, m))
returns-then-at-slot t c (Fork before top behind) h proper m sorted =
    let old = c.args.links.now in
    let new = c.joined.new.links in
    let at = c.args.at in
    let result = c.joined.result in
    let proper_at : Proper (length old) (slots (Fork before at behind)) = subst (λ root. Proper (length old) (slots (Fork before root behind))) (sym h.0) proper in
    let before_at : Holds old before (left_at old at) = subst (λ root. Holds old before (left_at old root)) (sym h.0) h.1.1.0 in
    let behind_at : Holds old behind (right_at old at) = subst (λ root. Holds old behind (right_at old root)) (sym h.0) h.1.1.1.0 in
    let outside = top_outside before at behind proper_at.distinct in
    let one : Removed old new (Fork before at behind) (slots before ++ slots behind) result = c.joined.ensures before behind proper_at c.if-at-links.false before_at behind_at in
    let done : Removed old new (Fork before at behind) (without_slot at (slots (Fork before at behind))) result = subst (λ list. Removed old new (Fork before at behind) list result) (sym (without_top before at behind outside.0 outside.1)) one in
    subst (λ root. Removed old new (Fork before root behind) (without_slot c.args.slot (slots (Fork before root behind))) result) h.0
    (subst (λ place. Removed old new (Fork before at behind) (without_slot place (slots (Fork before at behind))) result) c.if-at-slot.true done)

pub remove-left-requires : goal.remove-left-requires
remove-left-requires t c =
    let both = sides c.args.links.now c.args.at (omega arith) (omega arith) c.requires.tree in
    (omega (arith, both.left_lower, ap (height_at c.args.links.now) c.left_at-left.ensures), (subst (IsTree c.args.links.now) (sym c.left_at-left.ensures) both.left, (c.requires.keys, c.requires.slot)))

pub remove-right-requires : goal.remove-right-requires
remove-right-requires t c =
    let both = sides c.args.links.now c.args.at (omega arith) (omega arith) c.requires.tree in
    (omega (arith, both.right_lower, ap (height_at c.args.links.now) c.right_at-right.ensures), (subst (IsTree c.args.links.now) (sym c.right_at-right.ensures) both.right, (c.requires.keys, c.requires.slot)))

pub returns : goal.returns
returns t c Bare h proper m sorted = absurd (omega (arith, m))
returns t c (Fork before place behind) h proper m sorted =
    let keys = c.args.keys.now in
    let slot = c.args.slot in
    let old = c.args.links.now in
    let next = c.if-is_below.links in
    let new = c.balanced.new.links in
    let at = c.args.at in
    let result = c.balanced.result in
    let ne : slot ≢ at = λ is. c.if-at-slot.false (sym is) in
    let proper_at : Proper (length old) (slots (Fork before at behind)) = subst (λ root. Proper (length old) (slots (Fork before root behind))) (sym h.0) proper in
    let before_at : Holds old before (left_at old at) = subst (λ root. Holds old before (left_at old root)) (sym h.0) h.1.1.0 in
    let behind_at : Holds old behind (right_at old at) = subst (λ root. Holds old behind (right_at old root)) (sym h.0) h.1.1.1.0 in
    let m_at : 0 < times slot (slots (Fork before at behind)) = subst (λ root. 0 < times slot (slots (Fork before root behind))) (sym h.0) m in
    let sorted_at : is_sorted byte_order (entries_at keys old (slots (Fork before at behind))) ≡ true = subst (λ root. is_sorted byte_order (entries_at keys old (slots (Fork before root behind))) ≡ true) (sym h.0) sorted in
    let done : Removed old new (Fork before at behind) (without_slot slot (slots (Fork before at behind))) result = elim c.if-is_below.branch [
      | then-is_below w ↦ removed_left keys slot old w.remove-left.new.links next new at w.remove-left.result result before behind proper_at c.if-at-links.false before_at behind_at ne m_at sorted_at c.balanced.ensures
          (sym c.is_below.ensures ∙ w.if-is_below.true)
          (subst (λ child. Removes keys slot old w.remove-left.new.links child w.remove-left.result) w.left_at-left.ensures w.remove-left.ensures)
          (subst (λ links. Rewritten (with_left w.remove-left.result) w.remove-left.new.links links at) (sym w.links-is) w.set_left.ensures)
      | else-is_below w ↦ removed_right keys slot old w.remove-right.new.links next new at w.remove-right.result result before behind proper_at c.if-at-links.false before_at behind_at ne m_at sorted_at c.balanced.ensures
          (sym c.is_below.ensures ∙ w.if-is_below.false)
          (subst (λ child. Removes keys slot old w.remove-right.new.links child w.remove-right.result) w.right_at-right.ensures w.remove-right.ensures)
          (subst (λ links. Rewritten (with_right w.remove-right.result) w.remove-right.new.links links at) (sym w.links-is) w.set_right.ensures)
    ] in
    subst (λ root. Removed old new (Fork before root behind) (without_slot slot (slots (Fork before root behind))) result) h.0 done
