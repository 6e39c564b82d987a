-- What the nodes of a tree say of each other, one by one, and that this is enough for the whole.
use Rattle.std.proofs.Common.{◌≡◌, ◌≢◌, ◌⊎◌, inl, inr, ◌<◌, ◌≤◌, ℕ, suc, min, max, List, length, Some, refl, sym, ap, ◌∙◌, subst, arith}
use Rattle.keeper_core.specs.Tree.{last_moment}
use Rattle.keeper_core.specs.Shapes.{Shape, none, slots, times, height_of, left_at, right_at, parent_at, until_at, least_at, left_in, right_in, parent_in, until_in, least_in, height_at, height_in, least_by, least_below, HasParent, Holds}
use Rattle.keeper_core.specs.Fields.{Rewritten, with_until, with_least}
use Rattle.keeper_core.proofs.Shapes.{among, each_node, in_top, in_before, in_behind, parent_same, root_least, root_height, height_small, unmoved, moved}
use Rattle.keeper_core.specs.Shapes.Shape.{Bare, Fork}
use Rattle.keeper_core.specs.declared.links.Link.{Link}

-- a root says what its children do
by_children : (links : List Link) (b : Shape) (i : ℕ) (a : Shape) → length links ≤ none → Holds links b (left_at links i) → Holds links a (right_at links i) → least_below links (Fork b i a) ≡ least_by links i
by_children links b i a few hb ha = sym (ap (λ l. min (last_moment (until_at links i)) (min l (least_at links (right_at links i)))) (root_least links b (left_at links i) few hb) ∙ ap (λ r. min (last_moment (until_at links i)) (min (least_below links b) r)) (root_least links a (right_at links i) few ha))

-- each node says what its children do
pub exact : (links : List Link) (s : Shape) (at slot : ℕ) → length links ≤ none → Holds links s at → 0 < times slot (slots s) → least_at links slot ≡ least_by links slot
exact links s at slot few h m = each_node links (λ n. least_at links n ≡ least_by links n) (λ b i a t. t.1.1.1.1.least ∙ by_children links b i a few t.1.1.0 t.1.1.1.0) s at slot h m

-- the nodes name each other as before
pub record SameShape (old new : List Link) : Type 0 where
  pub left : (slot : ℕ) → left_at new slot ≡ left_at old slot
  pub right : (slot : ℕ) → right_at new slot ≡ right_at old slot
  pub parent : (slot : ℕ) → parent_at new slot ≡ parent_at old slot
  pub height : (slot : ℕ) → height_at new slot ≡ height_at old slot
  pub len : length new ≡ length old

-- one node has another end
pub record HasUntil (old new : List Link) (at until : ℕ) : Type 0 where
  pub same : SameShape old new
  pub here : until_at new at ≡ until
  pub others : (slot : ℕ) → slot ≢ at → until_at new slot ≡ until_at old slot
  pub least : (slot : ℕ) → least_at new slot ≡ least_at old slot

-- one node says another least moment
pub record HasLeast (old new : List Link) (at least : ℕ) : Type 0 where
  pub same : SameShape old new
  pub untils : (slot : ℕ) → until_at new slot ≡ until_at old slot
  pub here : least_at new at ≡ least
  pub others : (slot : ℕ) → slot ≢ at → least_at new slot ≡ least_at old slot

-- one node has another end, and all but one say what their children do; that one may be none
pub record Rising (old new : List Link) (shape : Shape) (at until node : ℕ) : Type 0 where
  pub same : SameShape old new
  pub here : until_at new at ≡ until
  pub others : (slot : ℕ) → slot ≢ at → until_at new slot ≡ until_at old slot
  pub exact : (slot : ℕ) → 0 < times slot (slots shape) → slot ≢ node → least_at new slot ≡ least_by new slot
  pub among : (node ≡ none) ⊎ (0 < times node (slots shape))

-- what one field's change leaves
same_shape : (change : Link → Link) → ((link : Link) → left_in (Some (change link)) ≡ left_in (Some link)) → ((link : Link) → right_in (Some (change link)) ≡ right_in (Some link)) → ((link : Link) → parent_in (Some (change link)) ≡ parent_in (Some link)) → ((link : Link) → height_in (Some (change link)) ≡ height_in (Some link)) → (old new : List Link) (at : ℕ) → Rewritten change old new at → SameShape old new
same_shape change l r p h old new at w = record {
  left = unmoved left_in change l old new at w;
  right = unmoved right_in change r old new at w;
  parent = unmoved parent_in change p old new at w;
  height = unmoved height_in change h old new at w;
  len = w.len;
}

pub has_until : (old new : List Link) (at until : ℕ) → at < length old → Rewritten (with_until until) old new at → HasUntil old new at until
has_until old new at until l w = record {
  same = same_shape (with_until until) (λ link. refl) (λ link. refl) (λ link. refl) (λ link. refl) old new at w;
  here = moved until_in (with_until until) until (λ link. refl) old new at w l;
  others = λ slot other. ap until_in (w.others slot other);
  least = unmoved least_in (with_until until) (λ link. refl) old new at w;
}

pub has_least : (old new : List Link) (at least : ℕ) → at < length old → Rewritten (with_least least) old new at → HasLeast old new at least
has_least old new at least l w = record {
  same = same_shape (with_least least) (λ link. refl) (λ link. refl) (λ link. refl) (λ link. refl) old new at w;
  untils = unmoved until_in (with_least least) (λ link. refl) old new at w;
  here = moved least_in (with_least least) least (λ link. refl) old new at w l;
  others = λ slot other. ap least_in (w.others slot other);
}

-- what a node says of its neighbours
pub record Near (links : List Link) (slot : ℕ) : Type 0 where
  pub height : height_at links slot ≡ suc (max (height_at links (left_at links slot)) (height_at links (right_at links slot)))
  pub left : (left_at links slot ≡ none) ⊎ (parent_at links (left_at links slot) ≡ slot)
  pub right : (right_at links slot ≡ none) ⊎ (parent_at links (right_at links slot) ≡ slot)

-- a node is lower than its parent
pub higher : (links : List Link) (slot up : ℕ) → Near links up → (left_at links up ≡ slot) ⊎ (right_at links up ≡ slot) → height_at links slot < height_at links up
higher links slot up near side = elim side [ inl e ↦ omega (arith, near.height, ap (height_at links) e) | inr e ↦ omega (arith, near.height, ap (height_at links) e) ]

child : (links : List Link) (s : Shape) (at slot : ℕ) → Holds links s at → HasParent links s slot → (at ≡ none) ⊎ (parent_at links at ≡ slot)
child links Bare at slot h p = inl h
child links (Fork b i a) at slot h p = inr (ap (parent_at links) h.0 ∙ p)

near_root : (links : List Link) (b : Shape) (i : ℕ) (a : Shape) → length links ≤ none → Holds links (Fork b i a) i → Near links i
near_root links b i a few h = record {
  height = h.1.1.1.1.height ∙ sym (ap (λ l. suc (max l (height_at links (right_at links i)))) (root_height links b (left_at links i) few h.1.1.0) ∙ ap (λ r. suc (max (height_of b) r)) (root_height links a (right_at links i) few h.1.1.1.0));
  left = child links b (left_at links i) i h.1.1.0 h.1.1.1.1.before_parent;
  right = child links a (right_at links i) i h.1.1.1.0 h.1.1.1.1.behind_parent;
}

pub near : (links : List Link) (s : Shape) (at slot : ℕ) → length links ≤ none → Holds links s at → 0 < times slot (slots s) → Near links slot
near links s at slot few h m = each_node links (Near links) (λ b i a t. near_root links b i a few t) s at slot h m

-- a node is a child of its parent, which is a node as well
pub record Below (links : List Link) (s : Shape) (slot : ℕ) : Type 0 where
  pub among : 0 < times (parent_at links slot) (slots s)
  pub side : (left_at links (parent_at links slot) ≡ slot) ⊎ (right_at links (parent_at links slot) ≡ slot)

-- the root of a part of a tree
top : (links : List Link) (s : Shape) (at slot i : ℕ) → Holds links s at → HasParent links s i → 0 < times slot (slots s) → slot ≡ at → parent_at links slot ≡ i
top links Bare at slot i h p m is = absurd (omega (arith, m))
top links (Fork b j a) at slot i h p m is = ap (parent_at links) (is ∙ h.0) ∙ p

pub up : (links : List Link) (s : Shape) (at slot : ℕ) → Holds links s at → 0 < times slot (slots s) → (slot ≡ at) ⊎ Below links s slot
up links Bare at slot h m = absurd (omega (arith, m))
up links (Fork b i a) at slot h m = elim (among slot b i a m) [
  | inl in_b ↦ elim (up links b (left_at links i) slot h.1.1.0 in_b) [
    | inl is ↦ let p = top links b (left_at links i) slot i h.1.1.0 h.1.1.1.1.before_parent in_b is in
        inr (record { among = subst (λ n. 0 < times n (slots (Fork b i a))) (sym p) (in_top b i a); side = inl (ap (left_at links) p ∙ sym is) })
    | inr below ↦ inr (record { among = in_before (parent_at links slot) b i a below.among; side = below.side })
  ]
  | inr rest ↦ elim rest [
    | inl is ↦ inl (is ∙ sym h.0)
    | inr in_a ↦ elim (up links a (right_at links i) slot h.1.1.1.0 in_a) [
      | inl is ↦ let p = top links a (right_at links i) slot i h.1.1.1.0 h.1.1.1.1.behind_parent in_a is in
          inr (record { among = subst (λ n. 0 < times n (slots (Fork b i a))) (sym p) (in_top b i a); side = inr (ap (right_at links) p ∙ sym is) })
      | inr below ↦ inr (record { among = in_behind (parent_at links slot) b i a below.among; side = below.side })
    ]
  ]
]

-- where the nodes name each other as before, and each says what its children do, the tree stands as before
pub again : (old new : List Link) (s : Shape) (at : ℕ) → length new ≤ none → Holds old s at → SameShape old new → ((slot : ℕ) → 0 < times slot (slots s) → least_at new slot ≡ least_by new slot) → Holds new s at
again old new Bare at few h same all = h
again old new (Fork b i a) at few h same all =
    let hb = subst (Holds new b) (sym (same.left i)) (again old new b (left_at old i) few h.1.1.0 same (λ slot m. all slot (in_before slot b i a m))) in
    let ha = subst (Holds new a) (sym (same.right i)) (again old new a (right_at old i) few h.1.1.1.0 same (λ slot m. all slot (in_behind slot b i a m))) in (
      h.0,
      (
        subst (λ n. i < n) (sym same.len) h.1.0,
        (
          hb,
          (
            ha,
            record {
              least = all i (in_top b i a) ∙ sym (by_children new b i a few hb ha);
              height = same.height i ∙ h.1.1.1.1.height;
              before_parent = parent_same old new b i (λ slot m. same.parent slot) h.1.1.1.1.before_parent;
              behind_parent = parent_same old new a i (λ slot m. same.parent slot) h.1.1.1.1.behind_parent;
            },
          ),
        ),
      ),
    )

low_root : (links : List Link) (s : Shape) (at slot : ℕ) → Holds links s at → 0 < times slot (slots s) → height_at links slot ≤ height_of s
low_root links Bare at slot h m = absurd (omega (arith, m))
low_root links (Fork b i a) at slot h m = elim (among slot b i a m) [
  | inl in_b ↦ omega (arith, low_root links b (left_at links i) slot h.1.1.0 in_b)
  | inr rest ↦ elim rest [
    | inl is ↦ omega (arith, ap (height_at links) is, h.1.1.1.1.height)
    | inr in_a ↦ omega (arith, low_root links a (right_at links i) slot h.1.1.1.0 in_a)
  ]
]

pub low : (links : List Link) (s : Shape) (at slot : ℕ) → Holds links s at → 0 < times slot (slots s) → length (slots s) ≤ length links → height_at links slot ≤ length links
low links s at slot h m few = omega (arith, low_root links s at slot h m, height_small s, few)
