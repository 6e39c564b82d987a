-- What of a tree stays when nodes change, and what its places are.
use Rattle.std.proofs.Common.{◌≡◌, ◌≢◌, ◌⊎◌, inl, inr, ℕ, ◌+◌, ◌<◌, ◌≤◌, ◌==◌, cond, List, ◌∷◌, ◌++◌, length, get_or, Option, Some, None, refl, sym, ap, ◌∙◌, subst, arith, length-append}
use Rattle.std.specs.Prelude.{slice_get, option_map}
use Rattle.std.proofs.lemmas.Bool.{cases_lt}
use Rattle.std.proofs.lemmas.Bool.Decides.{eqb_tells}
use Rattle.std.proofs.lemmas.List.Sums.{sum_by-append, sum_by-cons}
use Rattle.std.proofs.lemmas.Option.{slice_get_past, slice_get_cases}
use Rattle.keeper_core.specs.Shapes.{Shape, none, slots, height_of, times, left_in, right_in, parent_in, until_in, least_in, height_in, left_at, right_at, parent_at, until_at, least_at, height_at, least_below, HasParent, Holds, Proper, Built}
use Rattle.keeper_core.specs.Shapes.Shape.{Bare, Fork}
use Rattle.keeper_core.specs.Fields.{Rewritten, with_left, with_right, with_parent}
use Rattle.keeper_core.specs.declared.links.Link.{Link}

pub times-append : (slot : ℕ) (xs ys : List ℕ) → times slot (xs ++ ys) ≡ times slot xs + times slot ys
times-append slot xs ys = sum_by-append (λ other. cond (slot == other) 1 0) xs ys

pub one_here : (slot at : ℕ) → slot ≡ at → cond {A = ℕ} (slot == at) 1 0 ≡ 1
one_here slot at e = elim (eqb_tells slot at) [ inl h ↦ ap (λ b. cond {A = ℕ} b 1 0) h.0 | inr h ↦ absurd (h.1 e) ]

pub one_other : (slot at : ℕ) → slot ≢ at → cond {A = ℕ} (slot == at) 1 0 ≡ 0
one_other slot at ne = elim (eqb_tells slot at) [ inl h ↦ absurd (ne h.1) | inr h ↦ ap (λ b. cond {A = ℕ} b 1 0) h.0 ]

pub times-cons : (slot at : ℕ) (list : List ℕ) → times slot (at ∷ list) ≡ cond {A = ℕ} (slot == at) 1 0 + times slot list
times-cons slot at list = sum_by-cons (λ other. cond {A = ℕ} (slot == other) 1 0) at list

-- a place of a list with one more in front
pub at_front : (at : ℕ) (list : List ℕ) → 0 < times at (at ∷ list)
at_front at list = omega (arith, times-cons at at list, one_here at at refl)

pub past_front : (slot at : ℕ) (list : List ℕ) → 0 < times slot list → 0 < times slot (at ∷ list)
past_front slot at list h = omega (arith, times-cons slot at list)

pub later : (slot at : ℕ) (list : List ℕ) → slot ≢ at → 0 < times slot (at ∷ list) → 0 < times slot list
later slot at list ne h = omega (arith, times-cons slot at list, one_other slot at ne)

-- how often a place stands in a tree
pub times_fork : (slot : ℕ) (before : Shape) (at : ℕ) (behind : Shape) → times slot (slots (Fork before at behind)) ≡ times slot (slots before) + (cond (slot == at) 1 0 + times slot (slots behind))
times_fork slot before at behind = times-append slot (slots before) (at ∷ slots behind) ∙ ap (λ n. times slot (slots before) + n) (times-cons slot at (slots behind))

-- no place stands twice
abbrev pub IsDistinct : List ℕ → Type 0
IsDistinct list = (slot : ℕ) → times slot list ≤ 1

-- the parts of a tree have no place in common
pub record Apart (lower : Shape) (top : ℕ) (upper : Shape) : Type 0 where
  pub before : IsDistinct (slots lower)
  pub behind : IsDistinct (slots upper)
  pub before_top : (slot : ℕ) → 0 < times slot (slots lower) → slot ≢ top
  pub behind_top : (slot : ℕ) → 0 < times slot (slots upper) → slot ≢ top
  pub before_behind : (slot : ℕ) → 0 < times slot (slots lower) → times slot (slots upper) ≡ 0
  pub behind_before : (slot : ℕ) → 0 < times slot (slots upper) → times slot (slots lower) ≡ 0

pub apart : (before : Shape) (at : ℕ) (behind : Shape) → IsDistinct (slots (Fork before at behind)) → Apart before at behind
apart before at behind d = record {
  before = λ slot. omega (arith, times_fork slot before at behind, d slot);
  behind = λ slot. omega (arith, times_fork slot before at behind, d slot);
  before_top = λ slot h e. omega (arith, times_fork slot before at behind, d slot, one_here slot at e);
  behind_top = λ slot h e. omega (arith, times_fork slot before at behind, d slot, one_here slot at e);
  before_behind = λ slot h. omega (arith, times_fork slot before at behind, d slot);
  behind_before = λ slot h. omega (arith, times_fork slot before at behind, d slot);
}

-- the top of a tree is in neither part
pub top_outside : (before : Shape) (at : ℕ) (behind : Shape) → IsDistinct (slots (Fork before at behind)) → (times at (slots before) ≡ 0) × (times at (slots behind) ≡ 0)
top_outside before at behind d = (omega (arith, times_fork at before at behind, d at, one_here at at refl), omega (arith, times_fork at before at behind, d at, one_here at at refl))

pub in_top : (before : Shape) (at : ℕ) (behind : Shape) → 0 < times at (slots (Fork before at behind))
in_top before at behind = omega (arith, times_fork at before at behind, one_here at at refl)

pub in_before : (slot : ℕ) (before : Shape) (at : ℕ) (behind : Shape) → 0 < times slot (slots before) → 0 < times slot (slots (Fork before at behind))
in_before slot before at behind h = omega (arith, times_fork slot before at behind)

pub in_behind : (slot : ℕ) (before : Shape) (at : ℕ) (behind : Shape) → 0 < times slot (slots behind) → 0 < times slot (slots (Fork before at behind))
in_behind slot before at behind h = omega (arith, times_fork slot before at behind)

zero_or : (n : ℕ) → (n ≡ 0) ⊎ (0 < n)
zero_or n = elim (cases_lt 0 n) [ inl h ↦ inr h | inr h ↦ inl (omega arith) ]

-- which part of a tree a place is in
pub among : (slot : ℕ) (before : Shape) (at : ℕ) (behind : Shape) → 0 < times slot (slots (Fork before at behind)) → (0 < times slot (slots before)) ⊎ ((slot ≡ at) ⊎ (0 < times slot (slots behind)))
among slot before at behind w = elim (zero_or (times slot (slots before))) [
  | inl no_before ↦ inr (elim (eqb_tells slot at) [ inl e ↦ inl e.1 | inr ne ↦ inr (omega (arith, times_fork slot before at behind, one_other slot at ne.1)) ])
  | inr is_before ↦ inl is_before
]

-- what is true of each node by the tree below it
pub each_node : (links : List Link) (P : ℕ → Type 0) → ((before : Shape) (slot : ℕ) (behind : Shape) → Holds links (Fork before slot behind) slot → P slot) → (shape : Shape) (at slot : ℕ) → Holds links shape at → 0 < times slot (slots shape) → P slot
each_node links P f Bare at slot h w = absurd (omega arith)
each_node links P f (Fork before top behind) at slot h w = elim (among slot before top behind w) [
  | inl is_before ↦ each_node links P f before (left_at links top) slot h.1.1.0 is_before
  | inr rest ↦ elim rest [
    | inl e ↦ subst P (sym e) (f before top behind (refl, h.1))
    | inr is_behind ↦ each_node links P f behind (right_at links top) slot h.1.1.1.0 is_behind
  ]
]

-- a node is as it was, but for its parent
pub record Same (old new : List Link) (slot : ℕ) : Type 0 where
  pub left : left_at new slot ≡ left_at old slot
  pub right : right_at new slot ≡ right_at old slot
  pub until : until_at new slot ≡ until_at old slot
  pub least : least_at new slot ≡ least_at old slot
  pub height : height_at new slot ≡ height_at old slot

pub same_of : (old new : List Link) (slot : ℕ) → slice_get new slot ≡ slice_get old slot → Same old new slot
same_of old new slot e = record { left = ap left_in e; right = ap right_in e; until = ap until_in e; least = ap least_in e; height = ap height_in e }

pub same_trans : (old mid new : List Link) (slot : ℕ) → Same old mid slot → Same mid new slot → Same old new slot
same_trans old mid new slot a b = record { left = b.left ∙ a.left; right = b.right ∙ a.right; until = b.until ∙ a.until; least = b.least ∙ a.least; height = b.height ∙ a.height }

-- the nodes of a tree are as they were, but for the parent of its root
pub record Alike (old new : List Link) (shape : Shape) (root : ℕ) : Type 0 where
  pub fields : (slot : ℕ) → 0 < times slot (slots shape) → Same old new slot
  pub parents : (slot : ℕ) → 0 < times slot (slots shape) → slot ≢ root → parent_at new slot ≡ parent_at old slot
  pub len : length old ≤ length new

pub least_same : (old new : List Link) (shape : Shape) → ((slot : ℕ) → 0 < times slot (slots shape) → until_at new slot ≡ until_at old slot) → least_below new shape ≡ least_below old shape
least_same old new Bare f = refl
least_same old new (Fork before at behind) f =
    let a : least_below new before ≡ least_below old before = least_same old new before (λ slot h. f slot (in_before slot before at behind h)) in
    let b : least_below new behind ≡ least_below old behind = least_same old new behind (λ slot h. f slot (in_behind slot before at behind h)) in
    let t : until_at new at ≡ until_at old at = f at (in_top before at behind) in
    cc

pub parent_same : (old new : List Link) (shape : Shape) (parent : ℕ) → ((slot : ℕ) → 0 < times slot (slots shape) → parent_at new slot ≡ parent_at old slot) → HasParent old shape parent → HasParent new shape parent
parent_same old new Bare parent f h = tt
parent_same old new (Fork before at behind) parent f h = f at (in_top before at behind) ∙ h

-- a tree whose nodes are as they were stands where it stood
pub goes_over : (old new : List Link) (shape : Shape) (at : ℕ) → IsDistinct (slots shape) → Alike old new shape at → Holds old shape at → Holds new shape at
goes_over old new Bare at d same h = h
goes_over old new (Fork before slot behind) at d same h =
    let parts = apart before slot behind d in
    let top : Same old new slot = same.fields slot (in_top before slot behind) in
    let mark = h.1.1.1.1 in
    let parents_before : (other : ℕ) → 0 < times other (slots before) → parent_at new other ≡ parent_at old other = λ other w. same.parents other (in_before other before slot behind w) (λ e. parts.before_top other w (e ∙ h.0)) in
    let parents_behind : (other : ℕ) → 0 < times other (slots behind) → parent_at new other ≡ parent_at old other = λ other w. same.parents other (in_behind other before slot behind w) (λ e. parts.behind_top other w (e ∙ h.0)) in
    let below : Holds new before (left_at old slot) = goes_over old new before (left_at old slot) parts.before (record { fields = λ other w. same.fields other (in_before other before slot behind w); parents = λ other w ne. parents_before other w; len = same.len }) h.1.1.0 in
    let above : Holds new behind (right_at old slot) = goes_over old new behind (right_at old slot) parts.behind (record { fields = λ other w. same.fields other (in_behind other before slot behind w); parents = λ other w ne. parents_behind other w; len = same.len }) h.1.1.1.0 in
    let least : least_below new (Fork before slot behind) ≡ least_below old (Fork before slot behind) = least_same old new (Fork before slot behind) (λ other w. (same.fields other w).until) in (
      h.0,
      (
        omega (arith, same.len, h.1.0),
        (
          subst (λ place. Holds new before place) (sym top.left) below,
          (
            subst (λ place. Holds new behind place) (sym top.right) above,
            record {
              least = top.least ∙ mark.least ∙ sym least;
              height = top.height ∙ mark.height;
              before_parent = parent_same old new before slot parents_before mark.before_parent;
              behind_parent = parent_same old new behind slot parents_behind mark.behind_parent;
            },
          ),
        ),
      ),
    )

-- the places of a tree are those of nodes
pub slots_below : (links : List Link) (shape : Shape) (at slot : ℕ) → Holds links shape at → 0 < times slot (slots shape) → slot < length links
slots_below links shape at slot h w = each_node links (λ place. place < length links) (λ before place behind holds. holds.1.0) shape at slot h w

-- the root of a tree is no other's place
pub root_outside : (links : List Link) (shape : Shape) (at slot : ℕ) → length links ≤ none → Holds links shape at → slot < length links → times slot (slots shape) ≡ 0 → slot ≢ at
root_outside links Bare at slot most h l w e = omega (arith, h)
root_outside links (Fork before top behind) at slot most h l w e = omega (arith, times_fork slot before top behind, one_here slot top (e ∙ h.0))

pub root_least : (links : List Link) (shape : Shape) (at : ℕ) → length links ≤ none → Holds links shape at → least_at links at ≡ least_below links shape
root_least links Bare at most h = ap least_in (slice_get_past links at (omega (arith, h)))
root_least links (Fork before top behind) at most h = ap (least_at links) h.0 ∙ h.1.1.1.1.least

pub root_height : (links : List Link) (shape : Shape) (at : ℕ) → length links ≤ none → Holds links shape at → height_at links at ≡ height_of shape
root_height links Bare at most h = ap height_in (slice_get_past links at (omega (arith, h)))
root_height links (Fork before top behind) at most h = ap (height_at links) h.0 ∙ h.1.1.1.1.height

pub height_small : (shape : Shape) → height_of shape ≤ length (slots shape)
height_small Bare = omega arith
height_small (Fork before top behind) = omega (arith, height_small before, height_small behind, length-append (slots before) (top ∷ slots behind))

-- nodes at these places were changed; the others, and all ends, are as they were
pub record Kept (old new : List Link) (list : List ℕ) : Type 0 where
  pub frame : (slot : ℕ) → times slot list ≡ 0 → slice_get new slot ≡ slice_get old slot
  pub untils : (slot : ℕ) → until_at new slot ≡ until_at old slot
  pub len : length new ≡ length old

pub kept_trans : (old mid new : List Link) (list : List ℕ) → Kept old mid list → Kept mid new list → Kept old new list
kept_trans old mid new list a b = record {
  frame = λ slot w. b.frame slot w ∙ a.frame slot w;
  untils = λ slot. b.untils slot ∙ a.untils slot;
  len = b.len ∙ a.len;
}

-- the same of more places
pub kept_more : (old new : List Link) (part list : List ℕ) → ((slot : ℕ) → times slot list ≡ 0 → times slot part ≡ 0) → Kept old new part → Kept old new list
kept_more old new part list f a = record { frame = λ slot w. a.frame slot (f slot w); untils = a.untils; len = a.len }

pub built_kept : (old new : List Link) (shape : Shape) (at : ℕ) → Built old new shape at → Kept old new (slots shape)
built_kept old new shape at b = record { frame = b.frame; untils = b.untils; len = b.len }

-- a tree that stands after two changes
pub built : (old mid new : List Link) (shape : Shape) (at : ℕ) → Kept old mid (slots shape) → Kept mid new (slots shape) → Holds new shape at → Built old new shape at
built old mid new shape at a b h =
    let c : Kept old new (slots shape) = kept_trans old mid new (slots shape) a b in
    record { holds = h; frame = c.frame; untils = c.untils; len = c.len }

-- a change of one node that a field does not tell of
pub unmoved : {X : Type 0} (field : Option Link → X) (change : Link → Link) → ((link : Link) → field (Some (change link)) ≡ field (Some link)) → (old new : List Link) (at : ℕ) → Rewritten change old new at → (slot : ℕ) → field (slice_get new slot) ≡ field (slice_get old slot)
unmoved field change f old new at r slot = elim (eqb_tells slot at) [
  | inl h ↦ ap (λ place. field (slice_get new place)) h.1 ∙ ap field r.here ∙ changed (slice_get old at) ∙ sym (ap (λ place. field (slice_get old place)) h.1)
  | inr h ↦ ap field (r.others slot h.1)
]
  where
    changed : (link : Option Link) → field (option_map change link) ≡ field link
    changed None = refl
    changed (Some link) = f link

-- what a field tells of a node that was changed
pub moved : {X : Type 0} (field : Option Link → X) (change : Link → Link) (x : X) → ((link : Link) → field (Some (change link)) ≡ x) → (old new : List Link) (at : ℕ) → Rewritten change old new at → at < length old → field (slice_get new at) ≡ x
moved field change x f old new at r l = ap field r.here ∙ changed (slice_get_cases old at).1
  where
    changed : ((link : Link) × (at < length old) × (slice_get old at ≡ Some link) × (get_or old at link ≡ link)) ⊎ ((length old ≤ at) × (slice_get old at ≡ None)) → field (option_map change (slice_get old at)) ≡ x
    changed (inl w) = ap (λ link. field (option_map change link)) w.2 ∙ f w.0
    changed (inr w) = absurd (omega arith)

pub reparented : (parent : ℕ) (old new : List Link) (at : ℕ) → Rewritten (with_parent parent) old new at → (slot : ℕ) → Same old new slot
reparented parent old new at r slot = record {
  left = unmoved left_in (with_parent parent) (λ link. refl) old new at r slot;
  right = unmoved right_in (with_parent parent) (λ link. refl) old new at r slot;
  until = unmoved until_in (with_parent parent) (λ link. refl) old new at r slot;
  least = unmoved least_in (with_parent parent) (λ link. refl) old new at r slot;
  height = unmoved height_in (with_parent parent) (λ link. refl) old new at r slot;
}

-- a child's parent
pub parent_is : (links : List Link) (shape : Shape) (at parent : ℕ) → Holds links shape at → (0 < length (slots shape) → parent_at links at ≡ parent) → HasParent links shape parent
parent_is links Bare at parent h f = tt
parent_is links (Fork before top behind) at parent h f = ap (parent_at links) (sym h.0) ∙ f (omega (arith, length-append (slots before) (top ∷ slots behind)))

-- the root of a tree that has nodes is one of them
pub root_in : (links : List Link) (shape : Shape) (at : ℕ) → Holds links shape at → 0 < length (slots shape) → 0 < times at (slots shape)
root_in links Bare at h l = absurd (omega arith)
root_in links (Fork before top behind) at h l = subst (λ place. 0 < times place (slots (Fork before top behind))) (sym h.0) (in_top before top behind)

-- what a mark of a node gives
abbrev pub Marks : List Link → List Link → ℕ → Type 0
Marks old new at = (before behind : Shape) → Proper (length old) (slots (Fork before at behind)) → at < length old → Holds old before (left_at old at) → Holds old behind (right_at old at) → Built old new (Fork before at behind) at

-- a tree of which no node was changed
pub stays : (old new : List Link) (shape : Shape) (at : ℕ) → IsDistinct (slots shape) → ((slot : ℕ) → 0 < times slot (slots shape) → slice_get new slot ≡ slice_get old slot) → length old ≤ length new → Holds old shape at → Holds new shape at
stays old new shape at d f l h = goes_over old new shape at d (record { fields = λ slot w. same_of old new slot (f slot w); parents = λ slot w ne. ap parent_in (f slot w); len = l }) h

-- a change of one node leaves the others
pub rewritten_kept : (change : Link → Link) → ((link : Link) → until_in (Some (change link)) ≡ until_in (Some link)) → (old new : List Link) (at : ℕ) (list : List ℕ) → Rewritten change old new at → 0 < times at list → Kept old new list
rewritten_kept change f old new at list r w = record {
  frame = λ slot none_of. r.others slot (λ e. omega (arith, ap (λ place. times place list) e));
  untils = unmoved until_in change f old new at r;
  len = r.len;
}

-- a tree that is built after a change of nodes among them
pub built_after : (old mid new : List Link) (shape : Shape) (at : ℕ) → Kept old mid (slots shape) → Built mid new shape at → Built old new shape at
built_after old mid new shape at kept b = built old mid new shape at kept (built_kept mid new shape at b) b.holds

-- a tree with nodes has a height
pub height_some : (shape : Shape) → 0 < length (slots shape) → 0 < height_of shape
height_some Bare l = absurd (omega arith)
height_some (Fork before top behind) l = omega arith

-- a node has these trees below it, after changes of these nodes
pub record Grown (old new : List Link) (lower : Shape) (top : ℕ) (upper : Shape) : Type 0 where
  pub before : Holds new lower (left_at new top)
  pub behind : Holds new upper (right_at new top)
  pub kept : Kept old new (slots (Fork lower top upper))

-- another tree on a node's left side
pub grown_left : (old mid new : List Link) (at left : ℕ) (before behind : Shape) → IsDistinct (slots (Fork before at behind)) → at < length old → Built old mid before left → Rewritten (with_left left) mid new at → Holds old behind (right_at old at) → Grown old new before at behind
grown_left old mid new at left before behind d l b r h =
    let parts : Apart before at behind = apart before at behind d in
    let right_is : right_at new at ≡ right_at old at = unmoved right_in (with_left left) (λ link. refl) mid new at r at ∙ ap right_in (b.frame at (top_outside before at behind d).0) in
    let left_is : left_at new at ≡ left = moved left_in (with_left left) left (λ link. refl) mid new at r (omega (arith, b.len)) in
    record {
      before = subst (Holds new before) (sym left_is) (stays mid new before left parts.before (λ slot w. r.others slot (parts.before_top slot w)) (omega (arith, r.len)) b.holds);
      behind = subst (Holds new behind) (sym right_is) (stays old new behind (right_at old at) parts.behind (λ slot w. r.others slot (parts.behind_top slot w) ∙ b.frame slot (parts.behind_before slot w)) (omega (arith, r.len, b.len)) h);
      kept = kept_trans old mid new (slots (Fork before at behind))
          (kept_more old mid (slots before) (slots (Fork before at behind)) (λ slot w. omega (arith, times_fork slot before at behind)) (built_kept old mid before left b))
          (rewritten_kept (with_left left) (λ link. refl) mid new at (slots (Fork before at behind)) r (in_top before at behind));
    }

-- another tree on a node's right side
pub grown_right : (old mid new : List Link) (at right : ℕ) (before behind : Shape) → IsDistinct (slots (Fork before at behind)) → at < length old → Built old mid behind right → Rewritten (with_right right) mid new at → Holds old before (left_at old at) → Grown old new before at behind
grown_right old mid new at right before behind d l b r h =
    let parts : Apart before at behind = apart before at behind d in
    let left_is : left_at new at ≡ left_at old at = unmoved left_in (with_right right) (λ link. refl) mid new at r at ∙ ap left_in (b.frame at (top_outside before at behind d).1) in
    let right_is : right_at new at ≡ right = moved right_in (with_right right) right (λ link. refl) mid new at r (omega (arith, b.len)) in
    record {
      before = subst (Holds new before) (sym left_is) (stays old new before (left_at old at) parts.before (λ slot w. r.others slot (parts.before_top slot w) ∙ b.frame slot (parts.before_behind slot w)) (omega (arith, r.len, b.len)) h);
      behind = subst (Holds new behind) (sym right_is) (stays mid new behind right parts.behind (λ slot w. r.others slot (parts.behind_top slot w)) (omega (arith, r.len)) b.holds);
      kept = kept_trans old mid new (slots (Fork before at behind))
          (kept_more old mid (slots behind) (slots (Fork before at behind)) (λ slot w. omega (arith, times_fork slot before at behind)) (built_kept old mid behind right b))
          (rewritten_kept (with_right right) (λ link. refl) mid new at (slots (Fork before at behind)) r (in_top before at behind));
    }

-- other trees on both sides of a node
pub grown_both : (old mid new : List Link) (at left right : ℕ) (before behind : Shape) → IsDistinct (slots (Fork before at behind)) → at < length old → Holds old before left → Holds old behind right → Rewritten (with_left left) old mid at → Rewritten (with_right right) mid new at → Grown old new before at behind
grown_both old mid new at left right before behind d l b h r s =
    let parts : Apart before at behind = apart before at behind d in
    let left_is : left_at new at ≡ left = unmoved left_in (with_right right) (λ link. refl) mid new at s at ∙ moved left_in (with_left left) left (λ link. refl) old mid at r l in
    let right_is : right_at new at ≡ right = moved right_in (with_right right) right (λ link. refl) mid new at s (omega (arith, r.len)) in
    record {
      before = subst (Holds new before) (sym left_is) (stays old new before left parts.before (λ slot w. s.others slot (parts.before_top slot w) ∙ r.others slot (parts.before_top slot w)) (omega (arith, r.len, s.len)) b);
      behind = subst (Holds new behind) (sym right_is) (stays old new behind right parts.behind (λ slot w. s.others slot (parts.behind_top slot w) ∙ r.others slot (parts.behind_top slot w)) (omega (arith, r.len, s.len)) h);
      kept = kept_trans old mid new (slots (Fork before at behind))
          (rewritten_kept (with_left left) (λ link. refl) old mid at (slots (Fork before at behind)) r (in_top before at behind))
          (rewritten_kept (with_right right) (λ link. refl) mid new at (slots (Fork before at behind)) s (in_top before at behind));
    }

-- a tree without a change
pub unchanged : (links : List Link) (shape : Shape) (at : ℕ) → Holds links shape at → Built links links shape at
unchanged links shape at h = record { holds = h; frame = λ slot w. refl; untils = λ slot. refl; len = refl }

-- as many places, none of them twice, in another order of brackets
pub proper_for : (most more : ℕ) (list other : List ℕ) → list ≡ other → more ≡ most → Proper most list → Proper more other
proper_for most more list other e m p = subst (Proper more) e (subst (λ n. Proper n list) (sym m) p)

pub proper_before : (most more : ℕ) (before : Shape) (at : ℕ) (behind : Shape) → more ≡ most → Proper most (slots (Fork before at behind)) → Proper more (slots before)
proper_before most more before at behind m p = record { distinct = (apart before at behind p.distinct).before; few = omega (arith, p.few, length-append (slots before) (at ∷ slots behind)) }

pub proper_behind : (most more : ℕ) (before : Shape) (at : ℕ) (behind : Shape) → more ≡ most → Proper most (slots (Fork before at behind)) → Proper more (slots behind)
proper_behind most more before at behind m p = record { distinct = (apart before at behind p.distinct).behind; few = omega (arith, p.few, length-append (slots before) (at ∷ slots behind)) }

-- the same without a place in front
pub proper_rest : (most at : ℕ) (list : List ℕ) → Proper most (at ∷ list) → Proper most list
proper_rest most at list p = record { distinct = λ slot. omega (arith, p.distinct slot, times-cons slot at list); few = omega (arith, p.few) }

-- the same of both sides of a node
pub proper_sides : (most : ℕ) (before : Shape) (at : ℕ) (behind : Shape) → Proper most (slots (Fork before at behind)) → Proper most (slots before ++ slots behind)
proper_sides most before at behind p = record {
  distinct = λ slot. omega (arith, p.distinct slot, times_fork slot before at behind, times-append slot (slots before) (slots behind));
  few = omega (arith, p.few, length-append (slots before) (at ∷ slots behind), length-append (slots before) (slots behind));
}
