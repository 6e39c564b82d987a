use Rattle.std.proofs.Common.{◌≡◌, ℕ, ◌<◌, true, false, List, ◌∷◌, ◌++◌, length, refl, sym, ap, ◌∙◌, subst, arith, length-append}
use Rattle.std.specs.Ordering.{is_lt}
use Rattle.std.specs.FinMap.{is_sorted}
use Rattle.std.specs.declared.alloc.Global.{Global}
use Rattle.std.specs.declared.vec.Vec.{Vec}
use Rattle.keeper_core.specs.Rows.{byte_order}
use Rattle.keeper_core.specs.Shapes.{Shape, none, slots, left_at, right_at, height_at, key_at, entries_at, with_slot, Proper, Holds, IsTree, IsRisen, Rebalanced, Inserted}
use Rattle.keeper_core.specs.Shapes.Shape.{Bare, Fork}
use Rattle.keeper_core.specs.Fields.{Rewritten, with_left, with_right}
use Rattle.keeper_core.specs.declared.links.Link.{Link}
use Rattle.keeper_core.proofs.Balance.{risen_left, risen_right}
use Rattle.keeper_core.proofs.Shapes.{Kept, Grown, grown_left, grown_right, proper_for, built_after, times-cons, times_fork}
use Rattle.keeper_core.proofs.Sought.{sides}
use Rattle.keeper_core.proofs.WithSlot.{with_slot-proper, with_slot_before, with_slot_behind, around_slot}
use Rattle.keeper_core.proofs.insertion.+insert.Goals as goal
use Rattle.keeper_core.proofs.insertion.+insert.Goals.{then-is_below, else-is_below}

-- what balancing gives
abbrev Balances : List Link → List Link → ℕ → ℕ → Type 0
Balances old new at result = (before behind : Shape) → Proper (length old) (slots (Fork before at behind)) → at < length old → Holds old before (left_at old at) → Holds old behind (right_at old at) → Rebalanced old new before at behind result

-- what inserting gives
abbrev Inserts : List (Vec ℕ Global) → ℕ → List Link → List Link → ℕ → ℕ → Type 0
Inserts keys slot old new at result = (shape : Shape) → Holds old shape at → Proper (length old) (slot ∷ slots shape) → left_at old slot ≡ none → right_at old slot ≡ none → is_sorted byte_order (entries_at keys old (slots shape)) ≡ true → Inserted old new shape (with_slot keys slot (slots shape)) result

module _ (keys : List (Vec ℕ Global)) (slot : ℕ) (old mid next new : List Link) (at child result : ℕ) (before behind : Shape)
    (proper : Proper (length old) (slot ∷ slots (Fork before at behind)))
    (l : at < length old)
    (b : Holds old before (left_at old at))
    (h : Holds old behind (right_at old at))
    (no_left : left_at old slot ≡ none)
    (no_right : right_at old slot ≡ none)
    (sorted : is_sorted byte_order (entries_at keys old (slots (Fork before at behind))) ≡ true)
    (balances : Balances next new at result) where
  inserted_left : is_lt (byte_order (key_at keys slot) (key_at keys at)) ≡ true → Inserts keys slot old mid (left_at old at) child → Rewritten (with_left child) mid next at → Inserted old new (Fork before at behind) (with_slot keys slot (slots (Fork before at behind))) result
  inserted_left less inserts r =
      let one : Inserted old mid before (with_slot keys slot (slots before)) child = inserts before b (record {
        distinct = λ other. omega (arith, proper.distinct other, times-cons other slot (slots (Fork before at behind)), times-cons other slot (slots before), times_fork other before at behind);
        few = omega (arith, proper.few, length-append (slots before) (at ∷ slots behind));
      }) no_left no_right (around_slot keys old (slots before) at (slots behind) sorted).left_sorted in
      let shape = one.grown in
      let same : slots (Fork shape at behind) ≡ with_slot keys slot (slots (Fork before at behind)) = ap (λ list. list ++ at ∷ slots behind) one.ordered ∙ sym (with_slot_before keys slot (slots before) at (slots behind) less) in
      let proper_same : Proper (length old) (slots (Fork shape at behind)) = proper_for (length old) (length old) (with_slot keys slot (slots (Fork before at behind))) (slots (Fork shape at behind)) (sym same) refl (with_slot-proper keys slot (slots (Fork before at behind)) (length old) proper) in
      let grown : Grown old next shape at behind = grown_left old mid next at child shape behind proper_same.distinct l one.built r h in
      let balanced : Rebalanced next new shape at behind result = balances shape behind (proper_for (length old) (length next) (slots (Fork shape at behind)) (slots (Fork shape at behind)) refl grown.kept.len proper_same) (omega (arith, grown.kept.len)) grown.before grown.behind in
      record {
        grown = balanced.shape;
        ordered = balanced.ordered ∙ same;
        built = built_after old next new balanced.shape result (subst (Kept old next) (sym balanced.ordered) grown.kept) balanced.built;
        risen = λ was. risen_left before shape at behind balanced.shape was (one.risen was.1.1.0) balanced.level balanced.stays;
      }

  inserted_right : is_lt (byte_order (key_at keys slot) (key_at keys at)) ≡ false → Inserts keys slot old mid (right_at old at) child → Rewritten (with_right child) mid next at → Inserted old new (Fork before at behind) (with_slot keys slot (slots (Fork before at behind))) result
  inserted_right above inserts r =
      let one : Inserted old mid behind (with_slot keys slot (slots behind)) child = inserts behind h (record {
        distinct = λ other. omega (arith, proper.distinct other, times-cons other slot (slots (Fork before at behind)), times-cons other slot (slots behind), times_fork other before at behind);
        few = omega (arith, proper.few, length-append (slots before) (at ∷ slots behind));
      }) no_left no_right (around_slot keys old (slots before) at (slots behind) sorted).right_sorted in
      let shape = one.grown in
      let same : slots (Fork before at shape) ≡ with_slot keys slot (slots (Fork before at behind)) = ap (λ list. slots before ++ at ∷ list) one.ordered ∙ sym (with_slot_behind keys old slot (slots before) at (slots behind) sorted above) in
      let proper_same : Proper (length old) (slots (Fork before at shape)) = proper_for (length old) (length old) (with_slot keys slot (slots (Fork before at behind))) (slots (Fork before at shape)) (sym same) refl (with_slot-proper keys slot (slots (Fork before at behind)) (length old) proper) in
      let grown : Grown old next before at shape = grown_right old mid next at child before shape proper_same.distinct l one.built r b in
      let balanced : Rebalanced next new before at shape result = balances before shape (proper_for (length old) (length next) (slots (Fork before at shape)) (slots (Fork before at shape)) refl grown.kept.len proper_same) (omega (arith, grown.kept.len)) grown.before grown.behind in
      record {
        grown = balanced.shape;
        ordered = balanced.ordered ∙ same;
        built = built_after old next new balanced.shape result (subst (Kept old next) (sym balanced.ordered) grown.kept) balanced.built;
        risen = λ was. risen_right before at behind shape balanced.shape was (one.risen was.1.1.1) balanced.level balanced.stays;
      }

one_risen : (slot : ℕ) → IsRisen Bare (Fork Bare slot Bare)
one_risen slot = record { balanced = (omega arith, (omega arith, (tt, tt))); least = omega arith; most = omega arith }

pub returns-then-at-links : goal.returns-then-at-links
returns-then-at-links t c Bare h proper no_left no_right sorted = record { grown = Fork Bare c.args.slot Bare; ordered = refl; built = c.mark.ensures Bare Bare proper c.requires.slot no_left no_right; risen = λ was. one_risen c.args.slot }
returns-then-at-links t c (Fork before slot behind) h proper no_left no_right sorted = absurd (omega (arith, h.0, h.1.0))

pub insert-left-requires : goal.insert-left-requires
insert-left-requires t c =
    let both = sides c.args.links.now c.args.at (omega arith) (omega arith) c.requires.tree in
    (omega (arith, both.left_lower, ap (height_at c.args.links.now) c.left_at-left.ensures), (subst (IsTree c.args.links.now) (sym c.left_at-left.ensures) both.left, (c.requires.keys, c.requires.slot)))

pub insert-right-requires : goal.insert-right-requires
insert-right-requires t c =
    let both = sides c.args.links.now c.args.at (omega arith) (omega arith) c.requires.tree in
    (omega (arith, both.right_lower, ap (height_at c.args.links.now) c.right_at-right.ensures), (subst (IsTree c.args.links.now) (sym c.right_at-right.ensures) both.right, (c.requires.keys, c.requires.slot)))

pub returns : goal.returns
returns t c Bare h proper no_left no_right sorted = absurd (omega (arith, h))
returns t c (Fork before place behind) h proper no_left no_right sorted =
    let keys = c.args.keys.now in
    let slot = c.args.slot in
    let old = c.args.links.now in
    let next = c.if-is_below.links in
    let new = c.balanced.new.links in
    let at = c.args.at in
    let result = c.balanced.result in
    let proper_at : Proper (length old) (slot ∷ slots (Fork before at behind)) = subst (λ root. Proper (length old) (slot ∷ slots (Fork before root behind))) (sym h.0) proper in
    let before_at : Holds old before (left_at old at) = subst (λ root. Holds old before (left_at old root)) (sym h.0) h.1.1.0 in
    let behind_at : Holds old behind (right_at old at) = subst (λ root. Holds old behind (right_at old root)) (sym h.0) h.1.1.1.0 in
    let sorted_at : is_sorted byte_order (entries_at keys old (slots (Fork before at behind))) ≡ true = subst (λ root. is_sorted byte_order (entries_at keys old (slots (Fork before root behind))) ≡ true) (sym h.0) sorted in
    let done : Inserted old new (Fork before at behind) (with_slot keys slot (slots (Fork before at behind))) result = elim c.if-is_below.branch [
      | then-is_below w ↦ inserted_left keys slot old w.insert-left.new.links next new at w.insert-left.result result before behind proper_at c.if-at-links.false before_at behind_at no_left no_right sorted_at c.balanced.ensures
          (sym c.is_below.ensures ∙ w.if-is_below.true)
          (subst (λ child. Inserts keys slot old w.insert-left.new.links child w.insert-left.result) w.left_at-left.ensures w.insert-left.ensures)
          (subst (λ links. Rewritten (with_left w.insert-left.result) w.insert-left.new.links links at) (sym w.links-is) w.set_left.ensures)
      | else-is_below w ↦ inserted_right keys slot old w.insert-right.new.links next new at w.insert-right.result result before behind proper_at c.if-at-links.false before_at behind_at no_left no_right sorted_at c.balanced.ensures
          (sym c.is_below.ensures ∙ w.if-is_below.false)
          (subst (λ child. Inserts keys slot old w.insert-right.new.links child w.insert-right.result) w.right_at-right.ensures w.insert-right.ensures)
          (subst (λ links. Rewritten (with_right w.insert-right.result) w.insert-right.new.links links at) (sym w.links-is) w.set_right.ensures)
    ] in
    subst (λ root. Inserted old new (Fork before root behind) (with_slot keys slot (slots (Fork before root behind))) result) h.0 done
