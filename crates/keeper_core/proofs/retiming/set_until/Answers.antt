use Rattle.std.proofs.Common.{◌≡◌, ◌≢◌, ◌⊎◌, inl, inr, ◌<◌, ◌≤◌, ◌+◌, ◌-◌, ℕ, nat_lt, min, cond, List, length, sym, ap, ◌∙◌, subst, arith}
use Rattle.std.proofs.lemmas.Bool.Decides.{eqb_tells, nat_tests}
use Rattle.keeper_core.specs.Tree.{last_moment}
use Rattle.keeper_core.specs.Shapes.{Shape, none, slots, times, left_at, right_at, parent_at, until_at, least_at, height_at, least_by, Holds, Retimed}
use Rattle.keeper_core.specs.declared.links.Link.{Link}
use Rattle.keeper_core.proofs.Retimed.{SameShape, HasLeast, Rising, has_until, has_least, Near, exact, near, up, higher, again, low}
use Rattle.keeper_core.proofs.Shapes.{slots_below}
use Rattle.keeper_core.proofs.retiming.set_until.Goals as goal

-- what the loop leaves, once every node says what its children do
whole : (old new : List Link) (root : ℕ) (shape : Shape) (at until node : ℕ) → length new ≤ none → Holds old shape root → parent_at old root ≡ none → Rising old new shape at until node → ((slot : ℕ) → 0 < times slot (slots shape) → least_at new slot ≡ least_by new slot) → Retimed old new shape root at until
whole old new root shape at until node few h t r all = record {
  holds = again old new shape root few h r.same all;
  here = r.here;
  others = r.others;
  top = r.same.parent root ∙ t;
  len = r.same.len;
}

-- the same, where the one left out does so as well
all_but : (new : List Link) (shape : Shape) (node : ℕ) → least_at new node ≡ least_by new node → ((slot : ℕ) → 0 < times slot (slots shape) → slot ≢ node → least_at new slot ≡ least_by new slot) → (slot : ℕ) → 0 < times slot (slots shape) → least_at new slot ≡ least_by new slot
all_but new shape node e rest slot m = elim (eqb_tells slot node) [ inl h ↦ subst (λ n. least_at new n ≡ least_by new n) (sym h.1) e | inr h ↦ rest slot m h.1 ]

-- what children say goes over, where they and the end do
carried : (old new : List Link) (slot : ℕ) → until_at new slot ≡ until_at old slot → left_at new slot ≡ left_at old slot → right_at new slot ≡ right_at old slot → least_at new (left_at old slot) ≡ least_at old (left_at old slot) → least_at new (right_at old slot) ≡ least_at old (right_at old slot) → least_by new slot ≡ least_by old slot
carried old new slot u l r el er =
    ap (λ moment. min (last_moment moment) (min (least_at new (left_at new slot)) (least_at new (right_at new slot)))) u
    ∙ ap (λ least. min (last_moment (until_at old slot)) (min least (least_at new (right_at new slot)))) (ap (least_at new) l ∙ el)
    ∙ ap (λ least. min (last_moment (until_at old slot)) (min (least_at old (left_at old slot)) least)) (ap (least_at new) r ∙ er)

pub loop-node-init : goal.loop-node-init
loop-node-init c root shape h p t m =
    let e = has_until c.args.links.now c.set_end.new.links c.args.at c.args.until (slots_below c.args.links.now shape root c.args.at h m) c.set_end.ensures in
    record {
      same = e.same;
      here = e.here;
      others = e.others;
      exact = λ slot n other. e.least slot ∙ exact c.args.links.now shape root slot (omega (arith, c.set_end.auto.links, e.same.len)) h n
          ∙ sym (carried c.args.links.now c.set_end.new.links slot (e.others slot other) (e.same.left slot) (e.same.right slot) (e.least (left_at c.args.links.now slot)) (e.least (right_at c.args.links.now slot)));
      among = inr m;
    }

pub returns-then-least-least_at : goal.returns-then-least-least_at
returns-then-least-least_at c root shape h p t m =
    let r = c.loop-node.invariant root shape h p t m in
    whole c.args.links.now c.loop-node.links root shape c.args.at c.args.until c.loop-node.node (omega (arith, c.loop-node.auto.links)) h t r (all_but c.loop-node.links shape c.loop-node.node (sym c.least_at.ensures ∙ sym c.if-least-least_at.true ∙ c.least_by-least.ensures) r.exact)

-- a child is another node
other_child : (links : List Link) (child slot : ℕ) → height_at links child < height_at links slot → child ≢ slot
other_child links child slot lower is = absurd (omega (arith, lower, ap (height_at links) is))

-- a node whose parent is not this one is not its child
not_child : (links : List Link) (child slot node : ℕ) → (child ≡ none) ⊎ (parent_at links child ≡ slot) → node < none → slot ≢ parent_at links node → child ≢ node
not_child links child slot node either is_node other is = elim either [ inl e ↦ absurd (omega (arith, e, is, is_node)) | inr e ↦ absurd (other (sym e ∙ ap (parent_at links) is)) ]

-- the nodes say of each other what they did
near_again : (old new : List Link) (slot : ℕ) → SameShape old new → Near old slot → Near new slot
near_again old new slot same near = record {
  height = omega (arith, same.height slot, near.height, ap (height_at new) (same.left slot), same.height (left_at old slot), ap (height_at new) (same.right slot), same.height (right_at old slot));
  left = elim near.left [ inl e ↦ inl (same.left slot ∙ e) | inr e ↦ inr (ap (parent_at new) (same.left slot) ∙ same.parent (left_at old slot) ∙ e) ];
  right = elim near.right [ inl e ↦ inl (same.right slot ∙ e) | inr e ↦ inr (ap (parent_at new) (same.right slot) ∙ same.parent (right_at old slot) ∙ e) ];
}

same_again : (old mid new : List Link) → SameShape old mid → SameShape mid new → SameShape old new
same_again old mid new a b = record {
  left = λ slot. b.left slot ∙ a.left slot;
  right = λ slot. b.right slot ∙ a.right slot;
  parent = λ slot. b.parent slot ∙ a.parent slot;
  height = λ slot. b.height slot ∙ a.height slot;
  len = b.len ∙ a.len;
}

-- the node that was left out is one of the tree, where it is one of the list
is_among : (links : List Link) (shape : Shape) (node : ℕ) → length links ≤ none → node < length links → (node ≡ none) ⊎ (0 < times node (slots shape)) → 0 < times node (slots shape)
is_among links shape node few in_list either = elim either [ inl is ↦ absurd (omega (arith, is, in_list, few)) | inr m ↦ m ]

-- the node that was left out says what its children do, and only its parent may not
next : (old links new : List Link) (root : ℕ) (shape : Shape) (at until node least : ℕ) → length old ≤ none → Holds old shape root → parent_at old root ≡ none → node < length links → Rising old links shape at until node → HasLeast links new node least → least ≡ least_by links node → Rising old new shape at until (parent_at new node)
next old links new root shape at until node least few h t in_list r e is =
    let m : 0 < times node (slots shape) = is_among links shape node (omega (arith, few, r.same.len)) in_list r.among in
    let below_none : node < none = omega (arith, few, r.same.len, in_list) in
    let parent : parent_at new node ≡ parent_at old node = e.same.parent node ∙ r.same.parent node in
    let nears : (slot : ℕ) → 0 < times slot (slots shape) → Near links slot = λ slot n. near_again old links slot r.same (near old shape root slot few h n) in
    record {
      same = same_again old links new r.same e.same;
      here = e.untils at ∙ r.here;
      others = λ slot other. e.untils slot ∙ r.others slot other;
      exact = λ slot n other. elim (eqb_tells slot node) [
        | inl q ↦ subst (λ k. least_at new k ≡ least_by new k) (sym q.1)
            (e.here ∙ is ∙ sym (carried links new node (e.untils node) (e.same.left node) (e.same.right node) (e.others (left_at links node) (other_child links (left_at links node) node (omega (arith, (nears node m).height)))) (e.others (right_at links node) (other_child links (right_at links node) node (omega (arith, (nears node m).height))))))
        | inr q ↦
            let no_parent : slot ≢ parent_at links node = λ k. other (k ∙ sym (e.same.parent node)) in
            e.others slot q.1 ∙ r.exact slot n q.1
            ∙ sym (carried links new slot (e.untils slot) (e.same.left slot) (e.same.right slot) (e.others (left_at links slot) (not_child links (left_at links slot) slot node (nears slot n).left below_none no_parent)) (e.others (right_at links slot) (not_child links (right_at links slot) slot node (nears slot n).right below_none no_parent)))
      ];
      among = elim (up old shape root node h m) [ inl q ↦ inl (parent ∙ ap (parent_at old) q ∙ t) | inr q ↦ inr (subst (λ k. 0 < times k (slots shape)) (sym parent) q.among) ];
    }

-- the way up is as long as the heights that are left
shorter : (links new : List Link) (node up : ℕ) → node < length links → length new ≡ length links → height_at links node ≤ length links → (up < length new → (height_at links node < height_at new up) × (height_at new up ≤ length new)) → cond {A = ℕ} (nat_lt up (length new)) (length new + 1 - height_at new up) 0 < cond {A = ℕ} (nat_lt node (length links)) (length links + 1 - height_at links node) 0
shorter links new node up in_list len low higher = grind (arith, nat_tests)

-- the same of what the loop leaves
climbs : (old links new : List Link) (root : ℕ) (shape : Shape) (at until node least up : ℕ) → length old ≤ none → length (slots shape) ≤ length old → Holds old shape root → parent_at old root ≡ none → node < length links → Rising old links shape at until node → HasLeast links new node least → up ≡ parent_at new node → up < length new → (height_at links node < height_at new up) × (height_at new up ≤ length new)
climbs old links new root shape at until node least above few proper h t in_list r e is in_new =
    let m : 0 < times node (slots shape) = is_among links shape node (omega (arith, few, r.same.len)) in_list r.among in
    let parent : above ≡ parent_at old node = is ∙ e.same.parent node ∙ r.same.parent node in
    elim (up old shape root node h m) [
      | inl q ↦ absurd (omega (arith, parent ∙ ap (parent_at old) q ∙ t, in_new, few, r.same.len, e.same.len))
      | inr q ↦
          let height : height_at new above ≡ height_at old (parent_at old node) = ap (height_at new) parent ∙ e.same.height (parent_at old node) ∙ r.same.height (parent_at old node) in
          let above_old = higher old node (parent_at old node) (near old shape root (parent_at old node) few h q.among) q.side in
          let most = low old shape root (parent_at old node) h q.among proper in
          (omega (arith, height, above_old, r.same.height node), omega (arith, height, most, r.same.len, e.same.len))
    ]

pub loop-node-smaller : goal.loop-node-smaller
loop-node-smaller c =
    let need = c.requires in
    let r = c.loop-node.invariant need.root need.shape need.holds need.proper need.top need.within in
    let few : length c.args.links.now ≤ none = omega (arith, c.loop-node.auto.links, r.same.len) in
    let m = is_among c.loop-node.links need.shape c.loop-node.node (omega (arith, few, r.same.len)) c.loop-node-test.true r.among in
    shorter c.loop-node.links c.set_least.new.links c.loop-node.node c.parent_at-node.result c.loop-node-test.true c.set_least.ensures.len
    (omega (arith, low c.args.links.now need.shape need.root c.loop-node.node need.holds m need.proper.few, r.same.height c.loop-node.node, r.same.len))
    (climbs c.args.links.now c.loop-node.links c.set_least.new.links need.root need.shape c.args.at c.args.until c.loop-node.node c.least_by-least.result c.parent_at-node.result few need.proper.few need.holds need.top c.loop-node-test.true r (has_least c.loop-node.links c.set_least.new.links c.loop-node.node c.least_by-least.result c.loop-node-test.true c.set_least.ensures) c.parent_at-node.ensures)

pub loop-node-preserved : goal.loop-node-preserved
loop-node-preserved c root shape h p t m =
    subst (Rising c.args.links.now c.set_least.new.links shape c.args.at c.args.until) (sym c.parent_at-node.ensures)
    (next c.args.links.now c.loop-node.links c.set_least.new.links root shape c.args.at c.args.until c.loop-node.node c.least_by-least.result (omega (arith, c.loop-node.auto.links, (c.loop-node.invariant root shape h p t m).same.len)) h t c.loop-node-test.true (c.loop-node.invariant root shape h p t m) (has_least c.loop-node.links c.set_least.new.links c.loop-node.node c.least_by-least.result c.loop-node-test.true c.set_least.ensures) c.least_by-least.ensures)

pub returns : goal.returns
returns c root shape h p t m =
    let r = c.loop-node.invariant root shape h p t m in
    let few : length c.loop-node.links ≤ none = omega (arith, c.loop-node.auto.links) in
    whole c.args.links.now c.loop-node.links root shape c.args.at c.args.until c.loop-node.node few h t r
    (λ slot n. r.exact slot n (λ is. absurd (omega (arith, is, c.loop-node-test.false, slots_below c.args.links.now shape root slot h n, r.same.len))))
