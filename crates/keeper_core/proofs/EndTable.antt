-- A tree of ends in one list: what stays when a node is added, is taken out, becomes the root or gets another end.
use Rattle.std.proofs.Common.{◌≡◌, ◌≢◌, ℕ, zero, suc, ◌+◌, ◌<◌, ◌≤◌, true, cond, inl, inr, List, [], ◌∷◌, ◌++◌, length, map, take, drop, swap_remove, Option, Some, None, refl, sym, ap, ◌∙◌, subst, arith, length-append}
use Rattle.std.specs.Prelude.{slice_get, option_map, is_some, IsTrue}
use Rattle.std.specs.FinMap.{find, put, is_sorted}
use Rattle.std.specs.FinMap.Entries.{below_all, by_order}
use Rattle.std.specs.Ordering.{is_lt, is_eq}
use Rattle.std.specs.declared.cmp.Ordering.TheVariants.{Less, Equal, Greater}
use Rattle.std.specs.declared.alloc.Global.{Global}
use Rattle.std.specs.declared.vec.Vec.{Vec}
use Rattle.std.proofs.lemmas.Bool.{and_parts, lt-ltb, le-ltb}
use Rattle.std.proofs.lemmas.Bool.Decides.{eqb_tells}
use Rattle.std.proofs.lemmas.Cmp.{tied_itself}
use Rattle.std.proofs.lemmas.List.{length_push}
use Rattle.std.proofs.lemmas.Option.{same_Some, none-some, slice_get_within}
use Rattle.std.proofs.Math.Seq.{take-append_seam}
use Rattle.keeper_core.specs.Rows.{Entry, byte_order}
use Rattle.keeper_core.specs.Ends.{end_alone}
use Rattle.keeper_core.specs.Tree.{without}
use Rattle.keeper_core.specs.Shapes.{Shape, none, slots, times, left_in, right_in, parent_in, until_in, left_at, right_at, parent_at, until_at, key_in, key_at, entry_at, entries_at, Holds, Proper, Retimed, IsTree, IsBalanced, Inserted, Finds, with_slot}
use Rattle.keeper_core.specs.Shapes.Shape.{Bare, Fork}
use Rattle.keeper_core.specs.Fields.{Rewritten, with_parent}
use Rattle.keeper_core.specs.EndTable.{shape_in, slots_in, ends_in, IsWhole, IsTop, IsPlaced}
use Rattle.keeper_core.specs.Removal.{without_slot, moved, moved_in, Removed, Refilled, Relinked}
use Rattle.keeper_core.specs.declared.links.Link.{Link}
use Rattle.keeper_core.proofs.Shapes.{times-cons, one_here, one_other, at_front, past_front, later, slots_below, goes_over, stays, reparented}
use Rattle.keeper_core.proofs.Refilling.{moved_in-slots, moved_in-balanced, moved_proper, moved_all, stands_at, swapped}
use Rattle.keeper_core.proofs.WithSlot.{times-with_slot, with_slot-proper}
use Rattle.keeper_core.proofs.WithoutSlot.{times-without_self, times-without_other, length-without_slot, without_slot-proper, entries-without_slot}
use Rattle.keeper_core.proofs.Sorted.{Key, total, turned, below_each}
use Rattle.keeper_core.proofs.Table.{sorted_put, sorted_without, without-absent}

abbrev pub Keys : Type 0
Keys = List (Vec ℕ Global)

-- the shape of a tree is the one that is read from its nodes

shape_is : (links : List Link) (depth : ℕ) (shape : Shape) (at : ℕ) → length links ≤ none → Holds links shape at → length (slots shape) ≤ depth → shape_in depth links at ≡ shape
shape_is links zero Bare at small h few = refl
shape_is links zero (Fork before slot behind) at small h few = absurd (omega (arith, length-append (slots before) (slot ∷ slots behind)))
shape_is links (suc depth) Bare at small h few = ap (λ b. cond b (Fork (shape_in depth links (left_at links at)) at (shape_in depth links (right_at links at))) Bare) (le-ltb at (length links) (omega (arith, h)))
shape_is links (suc depth) (Fork before slot behind) at small h few =
    let front = ap (λ a. shape_in depth links (left_at links a)) h.0 ∙ shape_is links depth before (left_at links slot) small h.1.1.0 (omega (arith, length-append (slots before) (slot ∷ slots behind))) in
    let back = ap (λ a. shape_in depth links (right_at links a)) h.0 ∙ shape_is links depth behind (right_at links slot) small h.1.1.1.0 (omega (arith, length-append (slots before) (slot ∷ slots behind))) in
    ap (λ b. cond b (Fork (shape_in depth links (left_at links at)) at (shape_in depth links (right_at links at))) Bare) (lt-ltb at (length links) (subst (λ n. n < length links) (sym h.0) h.1.0))
    ∙ (λ i. Fork (front i) (h.0 i) (back i))

-- all nodes are those of a tree of this shape, in the order of their keys
record Stands (keys : Keys) (links : List Link) (root : ℕ) (shape : Shape) : Type 0 where
  pub holds : Holds links shape root
  pub proper : Proper (length links) (slots shape)
  pub all : (slot : ℕ) → slot < length links → 0 < times slot (slots shape)
  pub top : parent_at links root ≡ none
  pub keyed : length keys ≡ length links
  pub sorted : IsTrue (is_sorted byte_order (entries_at keys links (slots shape)))
  pub balanced : IsBalanced shape

-- the entries of a list depend on its own places alone
entries_alike : (keys others : Keys) (old new : List Link) (list : List ℕ) → ((q : ℕ) → 0 < times q list → entry_at others new q ≡ entry_at keys old q) → entries_at others new list ≡ entries_at keys old list
entries_alike keys others old new [] alike = refl
entries_alike keys others old new (x ∷ xs) alike =
    let here = alike x (at_front x xs) in
    let rest = entries_alike keys others old new xs (λ q m. alike q (past_front q x xs m)) in
    λ i. here i ∷ rest i

pub below_one : (keys : Keys) (links : List Link) (k : Key) (list : List ℕ) (q : ℕ) → below_all byte_order k (entries_at keys links list) ≡ true → 0 < times q list → byte_order k (key_at keys q) ≡ Less
below_one keys links k [] q e m = absurd (omega arith)
below_one keys links k (x ∷ xs) q e m =
    elim (eqb_tells q x) [
      | inl s ↦ subst (λ n. byte_order k (key_at keys n) ≡ Less) (sym s.1) (below_each k (entries_at keys links (x ∷ xs)) e).0
      | inr ne ↦ below_one keys links k xs q (and_parts _ _ e).1 (later q x xs ne.1 m)
    ]

-- a node gets another end

put_at : (keys : Keys) (old new : List Link) (list : List ℕ) (at until : ℕ) → is_sorted byte_order (entries_at keys old list) ≡ true → 0 < times at list → times at list ≤ 1 → until_at new at ≡ until → ((q : ℕ) → q ≢ at → until_at new q ≡ until_at old q) → entries_at keys new list ≡ put byte_order (key_at keys at) (end_alone until) (entries_at keys old list)
put_at keys old new [] at until sorted m once here others = absurd (omega arith)
put_at keys old new (x ∷ xs) at until sorted m once here others =
    let parts : (below_all byte_order (key_at keys x) (entries_at keys old xs) ≡ true) × (is_sorted byte_order (entries_at keys old xs) ≡ true) = and_parts _ _ sorted in
    let key = key_at keys at in
    let row = end_alone until in
    let es = entries_at keys old xs in
    elim (eqb_tells at x) [
      | inl e ↦
          let tied : byte_order key (key_at keys x) ≡ Equal = ap (λ n. byte_order key (key_at keys n)) (sym e.1) ∙ tied_itself total key in
          let gone : times at xs ≡ 0 = omega (arith, times-cons at x xs, one_here at x e.1) in
          let rest = entries_alike keys keys old new xs (λ q n. ap (λ u. (key_at keys q, end_alone u)) (others q (λ s. absurd (omega (arith, gone, subst (λ p. 0 < times p xs) s n))))) in
          let now : until_at new x ≡ until = ap (until_at new) (sym e.1) ∙ here in
          (λ i. (key_at keys x, end_alone (now i)) ∷ rest i)
          ∙ sym (ap (λ o. by_order o ((key, row) ∷ entry_at keys old x ∷ es) ((key_at keys x, row) ∷ es) (entry_at keys old x ∷ put byte_order key row es)) tied)
      | inr e ↦
          let in_rest = later at x xs e.1 m in
          let above : byte_order key (key_at keys x) ≡ Greater = turned (key_at keys x) key Less (below_one keys old (key_at keys x) xs at parts.0 in_rest) in
          let rest = put_at keys old new xs at until parts.1 in_rest (omega (arith, times-cons at x xs)) here others in
          let same : until_at new x ≡ until_at old x = others x (λ s. e.1 (sym s)) in
          (λ i. (key_at keys x, end_alone (same i)) ∷ rest i)
          ∙ sym (ap (λ o. by_order o ((key, row) ∷ entry_at keys old x ∷ es) ((key_at keys x, row) ∷ es) (entry_at keys old x ∷ put byte_order key row es)) above)
    ]

-- a tree stands, and has these ends
pub record Shows (keys : Keys) (links : List Link) (root : ℕ) (ends : List Entry) : Type 0 where
  pub stands : IsWhole keys links root
  pub shown : ends_in keys links root ≡ ends

-- a tree of this shape is the one that is read from its nodes
showing : (keys : Keys) (links : List Link) (root : ℕ) (shape : Shape) (es : List Entry) → length links ≤ none → is_sorted byte_order es ≡ true → Holds links shape root → Proper (length links) (slots shape) → ((slot : ℕ) → slot < length links → 0 < times slot (slots shape)) → parent_at links root ≡ none → length keys ≡ length links → IsBalanced shape → entries_at keys links (slots shape) ≡ es → Shows keys links root es
showing keys links root shape es small sorted holds proper all top keyed balanced is =
    let read = shape_is links (length links) shape root small holds proper.few in
    let stands : Stands keys links root shape = record { holds = holds; proper = proper; all = all; top = top; keyed = keyed; sorted = ap (is_sorted byte_order) is ∙ sorted; balanced = balanced } in
    let there = subst (Stands keys links root) (sym read) stands in
    record {
      stands = record { holds = there.holds; proper = there.proper; all = there.all; top = there.top; keyed = there.keyed; sorted = there.sorted; balanced = there.balanced };
      shown = ap (λ s. entries_at keys links (slots s)) read ∙ is;
    }

retimed : (keys : Keys) (old new : List Link) (root at until : ℕ) → length old ≤ none → IsWhole keys old root → 0 < times at (slots_in old root) → Retimed old new (shape_in (length old) old root) root at until → Shows keys new root (put byte_order (key_at keys at) (end_alone until) (ends_in keys old root))
retimed keys old new root at until small before m is =
    showing keys new root (shape_in (length old) old root) (put byte_order (key_at keys at) (end_alone until) (ends_in keys old root)) (omega (arith, is.len)) (sorted_put (ends_in keys old root) (key_at keys at) (end_alone until) before.sorted) is.holds
    (subst (λ n. Proper n (slots_in old root)) (sym is.len) before.proper)
    (λ slot h. before.all slot (omega (arith, is.len, h)))
    is.top (before.keyed ∙ sym is.len) before.balanced
    (put_at keys old new (slots_in old root) at until before.sorted m (before.proper.distinct at) is.here is.others)

-- a node becomes the root

no_parent : (link : Option Link) → parent_in (option_map (with_parent none) link) ≡ none
no_parent None = refl
no_parent (Some link) = refl

pub is_top : (old new : List Link) (root : ℕ) (shape : Shape) → Rewritten (with_parent none) old new root → Holds old shape root → Proper (length old) (slots shape) → IsTop old new shape root
is_top old new root shape r h proper =
    let same = reparented none old new root r in
    record {
      holds = goes_over old new shape root proper.distinct (record { fields = λ slot w. same slot; parents = λ slot w ne. ap parent_in (r.others slot ne); len = omega (arith, r.len) }) h;
      top = ap parent_in r.here ∙ no_parent (slice_get old root);
      untils = λ slot. (same slot).until;
      len = r.len;
    }

-- a key that no node has
pub unknown : (keys others : Keys) (links there : List Link) (root : ℕ) (key : Key) (ends : List Entry) → others ≡ keys → there ≡ links → IsWhole keys links root → Finds others there (slots_in there root) key None → ends_in keys links root ≡ ends → ends ≡ without key ends
unknown keys others links there root key ends same alike before found is =
    let absent = subst (λ ks. find byte_order key (entries_at ks links (slots_in links root)) ≡ None) same (subst (λ ls. find byte_order key (entries_at others ls (slots_in ls root)) ≡ None) alike (found.nowhere refl)) in
    subst (λ es. es ≡ without key es) is (sym (without-absent key (ends_in keys links root) (ap is_some absent)))

-- what stands in a list whose items were written over
written : (len : ℕ) (new old : List Link) → length new ≡ length old → len ≡ length old → take len (new ++ drop (length new) old) ≡ new
written len new old same is = ap (λ n. take n (new ++ drop (length new) old)) (is ∙ sym same) ∙ take-append_seam new (drop (length new) old)

-- the node of a key gets another end
pub given : (keys others : Keys) (links there lent new : List Link) (len root slot until : ℕ) (key : Key) (ends : List Entry) → others ≡ keys → there ≡ links → lent ≡ links → length lent ≡ len → length lent ≤ none → IsWhole keys links root → Finds others there (slots_in there root) key (Some slot) → ((top : ℕ) (shape : Shape) → Holds lent shape top → Proper (length lent) (slots shape) → parent_at lent top ≡ none → 0 < times slot (slots shape) → Retimed lent new shape top slot until) → ends_in keys links root ≡ ends → Shows keys (take len (new ++ drop (length new) links)) root (put byte_order key (end_alone until) ends)
given keys others links there lent new len root slot until key ends same alike borrowed lens small before found sets shown =
    let here = found.here slot refl in
    let node : 0 < times slot (slots_in links root) = subst (λ ls. 0 < times slot (slots_in ls root)) alike here.0 in
    let its : key_at keys slot ≡ key = ap (λ ks. key_at ks slot) (sym same) ∙ here.1 in
    let after : Retimed links new (shape_in (length links) links root) root slot until = subst (λ ls. (top : ℕ) (shape : Shape) → Holds ls shape top → Proper (length ls) (slots shape) → parent_at ls top ≡ none → 0 < times slot (slots shape) → Retimed ls new shape top slot until) borrowed sets root (shape_in (length links) links root) before.holds before.proper before.top node in
    subst (λ ls. Shows keys ls root (put byte_order key (end_alone until) ends)) (sym (written len new links after.len (sym lens ∙ ap length borrowed)))
    (subst (λ es. Shows keys new root (put byte_order key (end_alone until) es)) shown
    (subst (λ k. Shows keys new root (put byte_order k (end_alone until) (ends_in keys links root))) its
    (retimed keys links new root slot until (omega (arith, small, ap length borrowed)) before node after)))

-- a key that its row's place shows
pub hinted : (keys : Keys) (links : List Link) (root hint : ℕ) (key : Key) (there : Vec ℕ Global) → IsWhole keys links root → slice_get keys hint ≡ Some there → there.items ≡ key → Finds keys links (slots_in links root) key (Some hint)
hinted keys links root hint key there before is same = record {
  here = λ slot e. subst (λ n. (0 < times n (slots_in links root)) × (key_at keys n ≡ key)) (same_Some hint slot e) (before.all hint (omega (arith, slice_get_within keys hint there is, before.keyed)), ap key_in is ∙ same);
  nowhere = λ e. absurd (none-some hint (sym e));
}

-- the root of a tree with one node more has no parent
pub placed_top : (old mid new : List Link) (before : Shape) (list : List ℕ) (root : ℕ) → Inserted old mid before list root → Proper (length mid) list → ((shape : Shape) → Holds mid shape root → Proper (length mid) (slots shape) → IsTop mid new shape root) → IsPlaced old new before list root
placed_top old mid new before list root tree proper tops =
    let top = tops tree.grown tree.built.holds (subst (Proper (length mid)) (sym tree.ordered) proper) in
    record {
      shape = tree.grown;
      ordered = tree.ordered;
      balanced = λ was. (tree.risen was).balanced;
      placed = record { holds = top.holds; top = top.top; untils = λ q. top.untils q ∙ tree.built.untils q; len = top.len ∙ tree.built.len };
    }

-- the entries of places with one more are those of a put
put_new : (keys : Keys) (links : List Link) (slot : ℕ) (list : List ℕ) → find byte_order (key_at keys slot) (entries_at keys links list) ≡ None → entries_at keys links (with_slot keys slot list) ≡ put byte_order (key_at keys slot) (end_alone (until_at links slot)) (entries_at keys links list)
put_new keys links slot [] lacks = refl
put_new keys links slot (x ∷ xs) lacks =
    let es = entries_at keys links xs in
    let row = end_alone (until_at links slot) in
    elim (byte_order (key_at keys slot) (key_at keys x)) as (λ o. cond (is_eq o) (Some (end_alone (until_at links x))) (find byte_order (key_at keys slot) es) ≡ None → entries_at keys links (cond (is_lt o) (slot ∷ x ∷ xs) (x ∷ with_slot keys slot xs)) ≡ by_order o (entry_at keys links slot ∷ entry_at keys links x ∷ es) ((key_at keys x, row) ∷ es) (entry_at keys links x ∷ put byte_order (key_at keys slot) row es)) [
      | Less ↦ λ n. refl
      | Equal ↦ λ n. absurd (none-some (end_alone (until_at links x)) (sym n))
      | Greater ↦ λ n. ap (λ rest. entry_at keys links x ∷ rest) (put_new keys links slot xs n)
    ] lacks

-- lists with one more at their end

get_push : {A : Type 0} (xs : List A) (x : A) (q : ℕ) → q < length xs → slice_get (xs ++ x ∷ []) q ≡ slice_get xs q
get_push [] x q h = absurd (omega (arith, h))
get_push (y ∷ ys) x zero h = refl
get_push (y ∷ ys) x (suc q) h = get_push ys x q (omega (arith, h))

get_last : {A : Type 0} (xs : List A) (x : A) → slice_get (xs ++ x ∷ []) (length xs) ≡ Some x
get_last [] x = refl
get_last (y ∷ ys) x = get_last ys x

-- a tree that stands, beside a node that is not in it yet
record Beside (keys : Keys) (links : List Link) (root slot : ℕ) (shape : Shape) (entries : List Entry) : Type 0 where
  pub tree : IsTree links root
  pub holds : Holds links shape root
  pub proper : Proper (length links) (slot ∷ slots shape)
  pub kept : entries_at keys links (slots shape) ≡ entries

pushed : (keys : Keys) (links : List Link) (root : ℕ) (key : Vec ℕ Global) (link : Link) → IsWhole keys links root → Beside (keys ++ key ∷ []) (links ++ link ∷ []) root (length links) (shape_in (length links) links root) (entries_at keys links (slots_in links root))
pushed keys links root key link before =
    let shape = shape_in (length links) links root in
    let longer : length (links ++ link ∷ []) ≡ length links + 1 = length_push links link in
    let below : (q : ℕ) → 0 < times q (slots shape) → q < length links = λ q m. slots_below links shape root q before.holds m in
    let holds = stays links (links ++ link ∷ []) shape root before.proper.distinct (λ q m. get_push links link q (below q m)) (omega (arith, longer)) before.holds in
    let absent : times (length links) (slots shape) ≡ 0 = elim (eqb_tells (times (length links) (slots shape)) 0) [ inl e ↦ e.1 | inr e ↦ absurd (omega (arith, below (length links) (omega (arith, e.1)))) ] in
    record {
      tree = record { shape = shape; holds = holds; proper = record { distinct = before.proper.distinct; few = omega (arith, longer, before.proper.few) } };
      holds = holds;
      proper = record {
        distinct = λ q. elim (eqb_tells q (length links)) [
          | inl e ↦ omega (arith, times-cons q (length links) (slots shape), one_here q (length links) e.1, subst (λ n. times n (slots shape) ≡ 0) (sym e.1) absent)
          | inr e ↦ omega (arith, times-cons q (length links) (slots shape), one_other q (length links) e.1, before.proper.distinct q)
        ];
        few = omega (arith, longer, before.proper.few);
      };
      kept = entries_alike keys (keys ++ key ∷ []) links (links ++ link ∷ []) (slots shape) (λ q m. λ i. (key_in (get_push keys key q (omega (arith, below q m, before.keyed)) i), end_alone (until_in (get_push links link q (below q m) i))));
    }

-- what a call says that puts a node into a tree
abbrev Places : List Link → Keys → ℕ → ℕ → List Link → ℕ → Type 0
Places links keys root slot new result =
    (shape : Shape) → Holds links shape root → Proper (length links) (slot ∷ slots shape) → left_at links slot ≡ none → right_at links slot ≡ none → IsTrue (is_sorted byte_order (entries_at keys links (slots shape))) → IsPlaced links new shape (with_slot keys slot (slots shape)) result

-- a tree stands with one node more
record Adds (keys : Keys) (links : List Link) (root : ℕ) (ends : List Entry) (most : ℕ) : Type 0 where
  pub shows : Shows keys links root ends
  pub len : length links ≡ most

added_one : (keys : Keys) (links new : List Link) (root result : ℕ) (key : Vec ℕ Global) (link : Link) → IsWhole keys links root → length links + 1 ≤ none → link.left ≡ none → link.right ≡ none → find byte_order key.items (entries_at keys links (slots_in links root)) ≡ None → Places (links ++ link ∷ []) (keys ++ key ∷ []) root (length links) new result → Adds (keys ++ key ∷ []) new result (put byte_order key.items (end_alone link.until) (ends_in keys links root)) (length (links ++ link ∷ []))
added_one keys links new root result key link before small left right lacks places =
    let shape = shape_in (length links) links root in
    let slot = length links in
    let more : Keys = keys ++ key ∷ [] in
    let longer : List Link = links ++ link ∷ [] in
    let beside = pushed keys links root key link before in
    let last = get_last links link in
    let placed : IsPlaced longer new shape (with_slot more slot (slots shape)) result = places shape beside.holds beside.proper (ap left_in last ∙ left) (ap right_in last ∙ right) (ap (is_sorted byte_order) beside.kept ∙ before.sorted) in
    let top = placed.placed in
    let list = with_slot more slot (slots shape) in
    let its : key_at more slot ≡ key.items = ap (key_at more) (sym before.keyed) ∙ ap key_in (get_last keys key) in
    let ends : until_at longer slot ≡ link.until = ap until_in last in
    let absent : find byte_order (key_at more slot) (entries_at more longer (slots shape)) ≡ None = (λ i. find byte_order (its i) (beside.kept i)) ∙ lacks in
    let entries : entries_at more new (slots placed.shape) ≡ put byte_order key.items (end_alone link.until) (entries_at keys links (slots shape)) =
    ap (entries_at more new) placed.ordered
    ∙ entries_alike more more longer new list (λ q m. λ i. (key_at more q, end_alone (top.untils q i)))
    ∙ put_new more longer slot (slots shape) absent
    ∙ (λ i. put byte_order (its i) (end_alone (ends i)) (beside.kept i)) in
    let count : length new ≡ length links + 1 = top.len ∙ length_push links link in
    let proper : Proper (length new) (slots placed.shape) = subst (λ n. Proper n (slots placed.shape)) (sym top.len) (subst (Proper (length longer)) (sym placed.ordered) (with_slot-proper more slot (slots shape) (length longer) beside.proper)) in
    let all : (q : ℕ) → q < length new → 0 < times q (slots placed.shape) = λ q h. subst (λ qs. 0 < times q qs) (sym placed.ordered) (elim (eqb_tells q slot) [
      | inl e ↦ omega (arith, times-with_slot more slot (slots shape) q, one_here q slot e.1)
      | inr e ↦ omega (arith, times-with_slot more slot (slots shape) q, before.all q (omega (arith, count, h, e.1)))
    ]) in
    record {
      shows = showing more new result placed.shape (put byte_order key.items (end_alone link.until) (ends_in keys links root)) (omega (arith, count, small)) (sorted_put (ends_in keys links root) key.items (end_alone link.until) before.sorted) top.holds proper all top.top (length_push keys key ∙ ap (λ n. n + 1) before.keyed ∙ sym count) (placed.balanced before.balanced) entries;
      len = top.len;
    }

pub added : (keys others there : Keys) (links longer lent new : List Link) (root result slot len : ℕ) (key : Vec ℕ Global) (link : Link) → others ≡ keys ++ key ∷ [] → longer ≡ links ++ link ∷ [] → lent ≡ longer → there ≡ others → length lent ≡ len → len ≡ slot + 1 → length lent ≤ none → link.left ≡ none → link.right ≡ none → IsWhole keys links root → find byte_order key.items (entries_at keys links (slots_in links root)) ≡ None → Places lent there root slot new result → Shows others (take len (new ++ drop (length new) longer)) result (put byte_order key.items (end_alone link.until) (ends_in keys links root))
added keys others there links longer lent new root result slot len key link more grown borrowed read lens next small left right before lacks places =
    let one : length longer ≡ length links + 1 = ap length grown ∙ length_push links link in
    let same : length lent ≡ length longer = ap length borrowed in
    let at : slot ≡ length links = omega (arith, one, same, lens, next) in
    let p = subst (λ ls. Places ls there root slot new result) (borrowed ∙ grown) places in
    let q = subst (λ ks. Places (links ++ link ∷ []) ks root slot new result) (read ∙ more) p in
    let r = subst (λ n. Places (links ++ link ∷ []) (keys ++ key ∷ []) root n new result) at q in
    let adds = added_one keys links new root result key link before (omega (arith, small, same, one)) left right lacks r in
    subst (λ ls. Shows others ls result (put byte_order key.items (end_alone link.until) (ends_in keys links root))) (sym (written len new longer (adds.len ∙ ap length (sym grown)) (sym lens ∙ same)))
    (subst (λ ks. Shows ks new result (put byte_order key.items (end_alone link.until) (ends_in keys links root))) (sym more) adds.shows)

pub added-tree : (keys : Keys) (links longer lent : List Link) (root : ℕ) (key : Vec ℕ Global) (link : Link) → longer ≡ links ++ link ∷ [] → lent ≡ longer → IsWhole keys links root → IsTree lent root
added-tree keys links longer lent root key link grown borrowed before = subst (λ ls. IsTree ls root) (sym (borrowed ∙ grown)) (pushed keys links root key link before).tree

-- a node is taken out, and the last one moves to its place

entries_moved : (keys more : Keys) (old new : List Link) (to : ℕ → ℕ) (list : List ℕ) → ((q : ℕ) → 0 < times q list → entry_at more new (to q) ≡ entry_at keys old q) → entries_at more new (map to list) ≡ entries_at keys old list
entries_moved keys more old new to [] alike = refl
entries_moved keys more old new to (x ∷ xs) alike =
    let here = alike x (at_front x xs) in
    let rest = entries_moved keys more old new to xs (λ q m. alike q (past_front q x xs m)) in
    λ i. here i ∷ rest i

-- what a call says that takes a node out of a tree
abbrev Lifts : Keys → List Link → ℕ → ℕ → List Link → ℕ → Type 0
Lifts keys links root slot lifted result =
    (shape : Shape) → Holds links shape root → Proper (length links) (slots shape) → 0 < times slot (slots shape) → IsTrue (is_sorted byte_order (entries_at keys links (slots shape))) → IsPlaced links lifted shape (without_slot slot (slots shape)) result

-- what a call says that tells the neighbours of a node that moved
abbrev Relinks : List Link → ℕ → ℕ → List Link → ℕ → Type 0
Relinks filled top slot new result =
    (old : List Link) (shape : Shape) → slot < length old → Refilled old filled slot → Holds old shape top → Proper (length old) (slots shape) → ((place : ℕ) → place < length old → place ≢ slot → 0 < times place (slots shape))
    → times slot (slots shape) ≡ 0 → parent_at old top ≡ none → Relinked old new shape slot result

-- a tree stands with one node fewer
record Lacks (keys : Keys) (links : List Link) (root : ℕ) (ends : List Entry) (most : ℕ) : Type 0 where
  pub shows : Shows keys links root ends
  pub len : most ≡ suc (length links)

taken_one : (keys more : Keys) (links lifted filled new : List Link) (root top result slot : ℕ) → length links ≤ none → slot < length links → IsWhole keys links root → Lifts keys links root slot lifted top → Refilled lifted filled slot → Refilled keys more slot → Relinks filled top slot new result → Lacks more new result (without (key_at keys slot) (ends_in keys links root)) (length links)
taken_one keys more links lifted filled new root top result slot small within before lifts refill refill_keys relinks =
    let shape = shape_in (length links) links root in
    let m : 0 < times slot (slots shape) = before.all slot within in
    let lift : IsPlaced links lifted shape (without_slot slot (slots shape)) top = lifts shape before.holds before.proper m before.sorted in
    let shrunk = lift.shape in
    let same : length lifted ≡ length links = lift.placed.len in
    let count : (q : ℕ) → times q (slots shrunk) ≡ times q (without_slot slot (slots shape)) = λ q. ap (times q) lift.ordered in
    let gone : times slot (slots shrunk) ≡ 0 = count slot ∙ times-without_self slot (slots shape) in
    let all : (place : ℕ) → place < length lifted → place ≢ slot → 0 < times place (slots shrunk) = λ place h ne. omega (arith, count place, times-without_other slot (slots shape) place ne, before.all place (omega (arith, same, h))) in
    let proper : Proper (length lifted) (slots shrunk) = subst (λ n. Proper n (slots shrunk)) (sym same) (subst (Proper (length links)) (sym lift.ordered) (without_slot-proper slot (slots shape) (length links) before.proper)) in
    let done : Relinked lifted new shrunk slot result = relinks lifted shrunk (omega (arith, same, within)) refill lift.placed.holds proper all gone lift.placed.top in
    let last = length new in
    let order : slots (moved_in last slot shrunk) ≡ map (moved last slot) (slots shrunk) = moved_in-slots last slot shrunk in
    let few : length (slots shrunk) ≤ last = omega (arith, ap length lift.ordered, length-without_slot slot (slots shape), before.proper.few, m, done.len, same) in
    let keyed : length more ≡ last = omega (arith, refill_keys.len, before.keyed, done.len, same) in
    let alike : (q : ℕ) → 0 < times q (slots shrunk) → entry_at more new (moved last slot q) ≡ entry_at keys links q = λ q n.
    let get = (stands_at keys more slot q (omega (arith, refill_keys.len, before.keyed, within)) refill_keys (omega (arith, before.keyed, same, slots_below lifted shrunk top q lift.placed.holds n)) (λ e. omega (arith, gone, subst (λ p. 0 < times p (slots shrunk)) e n))).0 in
    let key : key_at more (moved last slot q) ≡ key_at keys q = ap (λ l. key_at more (moved l slot q)) (sym keyed) ∙ ap key_in get in
    let until : until_at new (moved last slot q) ≡ until_at links q = done.untils q n ∙ lift.placed.untils q in
    λ i. (key i, end_alone (until i)) in
    let entries : entries_at more new (slots (moved_in last slot shrunk)) ≡ without (key_at keys slot) (ends_in keys links root) =
    ap (entries_at more new) order
    ∙ entries_moved keys more links new (moved last slot) (slots shrunk) alike
    ∙ ap (entries_at keys links) lift.ordered
    ∙ entries-without_slot keys links slot (slots shape) before.sorted m (before.proper.distinct slot) in
    record {
      shows = showing more new result (moved_in last slot shrunk) (without (key_at keys slot) (ends_in keys links root)) (omega (arith, small, same, done.len)) (sorted_without (ends_in keys links root) (key_at keys slot) before.sorted) done.holds
          (subst (Proper last) (sym order) (moved_proper last slot (slots shrunk) gone proper.distinct few))
          (λ q h. subst (λ qs. 0 < times q qs) (sym order) (moved_all last slot (slots shrunk) gone (λ place l ne. all place (omega (arith, l, done.len)) ne) q h))
          done.top keyed (moved_in-balanced last slot shrunk (lift.balanced before.balanced)) entries;
      len = sym same ∙ done.len;
    }

pub taken : (keys others more : Keys) (links lent lifted filled there new : List Link) (root top result slot len most : ℕ) (gone : Link) (key : Vec ℕ Global) → others ≡ keys → lent ≡ links → length lent ≡ len → length lent ≤ none → slot < length links → IsWhole keys links root → Lifts others lent root slot lifted top → filled ≡ swap_remove (take len (lifted ++ drop (length lifted) links)) slot gone → more ≡ swap_remove keys slot key → there ≡ filled → length there ≡ most → Relinks there top slot new result → Shows more (take most (new ++ drop (length new) filled)) result (without (key_at keys slot) (ends_in keys links root))
taken keys others more links lent lifted filled there new root top result slot len most gone key same borrowed lens small within before lifts refill refill_keys again lens_again relinks =
    let lifts_all : Lifts keys links root slot lifted top = subst (λ ls. Lifts keys ls root slot lifted top) borrowed (subst (λ ks. Lifts ks lent root slot lifted top) same lifts) in
    let as_long : length lifted ≡ length links = (lifts_all (shape_in (length links) links root) before.holds before.proper (before.all slot within) before.sorted).placed.len in
    let back : take len (lifted ++ drop (length lifted) links) ≡ lifted = written len lifted links as_long (sym lens ∙ ap length borrowed) in
    let fill : Refilled lifted filled slot = subst (λ ls. Refilled lifted ls slot) (sym (refill ∙ ap (λ ls. swap_remove ls slot gone) back)) (swapped lifted slot gone (omega (arith, as_long, within))) in
    let fill_keys : Refilled keys more slot = subst (λ ks. Refilled keys ks slot) (sym refill_keys) (swapped keys slot key (omega (arith, before.keyed, within))) in
    let done = taken_one keys more links lifted filled new root top result slot (omega (arith, small, ap length borrowed)) within before lifts_all fill fill_keys (subst (λ ls. Relinks ls top slot new result) again relinks) in
    subst (λ ls. Shows more ls result (without (key_at keys slot) (ends_in keys links root))) (sym (written most new filled (omega (arith, done.len, fill.len, as_long)) (sym lens_again ∙ ap length again))) done.shows

-- the node that a key was found at
pub found_within : (keys others : Keys) (links there : List Link) (root slot : ℕ) (key : Key) → there ≡ links → IsWhole keys links root → Finds others there (slots_in there root) key (Some slot) → slot < length links
found_within keys others links there root slot key alike before found = slots_below links (shape_in (length links) links root) root slot before.holds (subst (λ ls. 0 < times slot (slots_in ls root)) alike (found.here slot refl).0)

pub found_key : (keys others : Keys) (there : List Link) (list : List ℕ) (slot : ℕ) (key : Key) → others ≡ keys → Finds others there list key (Some slot) → key_at keys slot ≡ key
found_key keys others there list slot key same found = ap (λ ks. key_at ks slot) (sym same) ∙ (found.here slot refl).1

-- the root of a tree with one node fewer has no parent
pub lifted_top : (old mid new : List Link) (before : Shape) (list : List ℕ) (root : ℕ) → Removed old mid before list root → Proper (length mid) list → ((shape : Shape) → Holds mid shape root → Proper (length mid) (slots shape) → IsTop mid new shape root) → IsPlaced old new before list root
lifted_top old mid new before list root tree proper tops =
    let top = tops tree.shrunk tree.built.holds (subst (Proper (length mid)) (sym tree.ordered) proper) in
    record {
      shape = tree.shrunk;
      ordered = tree.ordered;
      balanced = λ was. (tree.sunk was).balanced;
      placed = record { holds = top.holds; top = top.top; untils = λ q. top.untils q ∙ tree.built.untils q; len = top.len ∙ tree.built.len };
    }
