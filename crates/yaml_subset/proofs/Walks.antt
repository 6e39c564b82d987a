-- From a part to the parts in it, and to the next one.
use Rattle.std.proofs.Common.{◌≡◌, ◌≢◌, ◌⊎◌, inl, inr, ℕ, zero, suc, ◌+◌, ◌<◌, ◌≤◌, Bool, true, false, ◌==◌, cond, List, [], ◌∷◌, ◌++◌, length, drop, get_or, refl, sym, ap, ◌∙◌, arith, append_assoc, append-nil, length-append, Option, None}
use Rattle.std.specs.Prelude.{nat_lt, map, count_by}
use Rattle.std.proofs.lemmas.List.Recursion.{is_count_by}
use Rattle.std.specs.List.{take_while}
use Rattle.std.proofs.lemmas.List.{drop-drop}
use Rattle.std.proofs.lemmas.List.Sums.{take_while-cons}
use Rattle.std.proofs.lemmas.Bool.{false_from_ne_true}
use Rattle.std.proofs.lemmas.Bool.Decides.{Decides-eqb, Decides-ltb}
use Rattle.yaml_subset.specs.declared.node.Node.{Node}
use Rattle.yaml_subset.specs.declared.preorder.Preorder.{Preorder}
use Rattle.yaml_subset.specs.declared.preorder.Part.{Part}
use Rattle.yaml_subset.specs.Tree.{Entry}
use Rattle.yaml_subset.specs.Held.{node_shown}
use Rattle.yaml_subset.specs.Trees.{Told, Trees, none, tree, tree_entries}
use Rattle.yaml_subset.specs.Preorder.{parts_kept, IsDepthAt, Shallower, StandAt, StandsAt, IsFirstOf, FirstOf, ForFirst, AreDocuments}
use Rattle.yaml_subset.specs.Docs.{count_of, rows_from}

abbrev pub entry_of : ℕ → Told → Entry
entry_of depth t = record { depth = depth; line = t.line; kind = t.kind; name = t.name; text = t.text }

head_at : (nodes : List Node) (n : ℕ) (e : Entry) (rest : List Entry) → drop n (map node_shown nodes) ≡ e ∷ rest → (node : Node) → node_shown (get_or nodes n node) ≡ e
head_at [] zero e rest h node = absurd (omega (arith, ap length h))
head_at [] (suc n) e rest h node = absurd (omega (arith, ap length h))
head_at (x ∷ xs) zero e rest h node = cc
head_at (x ∷ xs) (suc n) e rest h node = head_at xs n e rest h node

inside_at : (nodes : List Node) (n : ℕ) (e : Entry) (rest : List Entry) → drop n (map node_shown nodes) ≡ e ∷ rest → n < length nodes
inside_at [] zero e rest h = absurd (omega (arith, ap length h))
inside_at [] (suc n) e rest h = absurd (omega (arith, ap length h))
inside_at (x ∷ xs) zero e rest h = omega arith
inside_at (x ∷ xs) (suc n) e rest h = omega (arith, inside_at xs n e rest h)

past_at : (nodes : List Node) (n : ℕ) → drop n (map node_shown nodes) ≡ [] → length nodes ≤ n
past_at [] n h = omega arith
past_at (x ∷ xs) zero h = absurd (omega (arith, ap length h))
past_at (x ∷ xs) (suc n) h = omega (arith, past_at xs n h)

pub drop_on : (xs ys zs : List Entry) (n m : ℕ) → drop n xs ≡ ys ++ zs → m ≡ n + length ys → drop m xs ≡ zs
drop_on xs ys zs n m h e = ap (λ k. drop k xs) e ∙ sym (drop-drop (length ys) n xs) ∙ ap (drop (length ys)) h ∙ drop_front ys zs
  where
    drop_front : (ys zs : List Entry) → drop (length ys) (ys ++ zs) ≡ zs
    drop_front [] zs = refl
    drop_front (y ∷ ys) zs = drop_front ys zs

pub first_entry : (depth : ℕ) (t : Told) (c l : Trees) → tree_entries depth (tree t c l) ≡ entry_of depth t ∷ (tree_entries (suc depth) c ++ tree_entries depth l)
unfolding tree_entries
first_entry depth t c l = refl

pub no_entries : (depth : ℕ) → tree_entries depth none ≡ []
unfolding tree_entries
no_entries depth = refl

pub tree_some : (t : Told) (c l : Trees) → tree t c l ≢ none
tree_some t c l e = let bad : ⊥ = cc in bad

module _ (docs : Preorder) (n : ℕ) (t : Told) (c l : Trees) (h : StandAt docs n (tree t c l)) where
  whole : drop n (parts_kept docs) ≡ entry_of h.depth t ∷ ((tree_entries (suc h.depth) c ++ tree_entries h.depth l) ++ h.others)
  whole = h.are ∙ ap (λ x. x ++ h.others) (first_entry h.depth t c l)

  pub own_entry : (node : Node) → node_shown (get_or docs.nodes.items n node) ≡ entry_of h.depth t
  own_entry node = head_at docs.nodes.items n (entry_of h.depth t) ((tree_entries (suc h.depth) c ++ tree_entries h.depth l) ++ h.others) whole node

  -- the parts in it, and all that come after
  behind : drop (n + 1) (parts_kept docs) ≡ tree_entries (suc h.depth) c ++ (tree_entries h.depth l ++ h.others)
  behind = drop_on (parts_kept docs) (entry_of h.depth t ∷ []) ((tree_entries (suc h.depth) c ++ tree_entries h.depth l) ++ h.others) n (n + 1) whole (omega arith) ∙ append_assoc (tree_entries (suc h.depth) c) (tree_entries h.depth l) h.others

  -- the parts after it
  beyond : (m : ℕ) → m ≡ n + 1 + length (tree_entries (suc h.depth) c) → drop m (parts_kept docs) ≡ tree_entries h.depth l ++ h.others
  beyond m e = drop_on (parts_kept docs) (tree_entries (suc h.depth) c) (tree_entries h.depth l ++ h.others) (n + 1) m behind e

shown_length : (nodes : List Node) → length (map node_shown nodes) ≡ length nodes
shown_length [] = refl
shown_length (x ∷ xs) = ap suc (shown_length xs)

first_of : (nodes : List Node) {n : ℕ} → n < length nodes → Node
first_of [] h = absurd (omega (arith, h))
first_of (x ∷ xs) h = x

-- what stands behind a row is no deeper than it
row_depth : (docs : Preorder) (m depth d : ℕ) (l : Trees) (others : List Entry) → drop m (parts_kept docs) ≡ tree_entries depth l ++ others → Shallower depth others → IsDepthAt docs m d → d ≤ depth
row_depth docs m depth d none [] e shallow is = absurd (omega (arith, is.inside, past_at docs.nodes.items m (e ∙ ap (λ x. x ++ []) (no_entries depth))))
row_depth docs m depth d none (o ∷ others) e shallow is = at_other (e ∙ ap (λ x. x ++ o ∷ others) (no_entries depth))
  where
    at_other : drop m (parts_kept docs) ≡ o ∷ others → d ≤ depth
    at_other k = let any : Node = first_of docs.nodes.items (inside_at docs.nodes.items m o others k) in
        let at : d ≡ o.depth = is.is any ∙ ap (λ x. x.depth) (head_at docs.nodes.items m o others k any) in
        omega (arith, at, shallow)
row_depth docs m depth d (tree t c l) others e shallow is = at_tree (e ∙ ap (λ x. x ++ others) (first_entry depth t c l))
  where
    at_tree : drop m (parts_kept docs) ≡ entry_of depth t ∷ ((tree_entries (suc depth) c ++ tree_entries depth l) ++ others) → d ≤ depth
    at_tree k = let any : Node = first_of docs.nodes.items (inside_at docs.nodes.items m (entry_of depth t) ((tree_entries (suc depth) c ++ tree_entries depth l) ++ others) k) in
        let at : d ≡ depth = is.is any ∙ ap (λ x. x.depth) (head_at docs.nodes.items m (entry_of depth t) ((tree_entries (suc depth) c ++ tree_entries depth l) ++ others) k any) in
        omega (arith, at)

-- a row that has a part has one of its own depth
row_has : (docs : Preorder) (m depth d : ℕ) (l : Trees) (others : List Entry) → l ≢ none → drop m (parts_kept docs) ≡ tree_entries depth l ++ others → IsDepthAt docs m d → d ≡ depth
row_has docs m depth d none others some e is = absurd (some refl)
row_has docs m depth d (tree t c l) others some e is = at_tree (e ∙ ap (λ x. x ++ others) (first_entry depth t c l))
  where
    at_tree : drop m (parts_kept docs) ≡ entry_of depth t ∷ ((tree_entries (suc depth) c ++ tree_entries depth l) ++ others) → d ≡ depth
    at_tree k = let any : Node = first_of docs.nodes.items (inside_at docs.nodes.items m (entry_of depth t) ((tree_entries (suc depth) c ++ tree_entries depth l) ++ others) k) in
        is.is any ∙ ap (λ x. x.depth) (head_at docs.nodes.items m (entry_of depth t) ((tree_entries (suc depth) c ++ tree_entries depth l) ++ others) k any)

row_inside : (docs : Preorder) (m depth : ℕ) (l : Trees) (others : List Entry) → l ≢ none → drop m (parts_kept docs) ≡ tree_entries depth l ++ others → m < length docs.nodes.items
row_inside docs m depth none others some e = absurd (some refl)
row_inside docs m depth (tree t c l) others some e = inside_at docs.nodes.items m (entry_of depth t) ((tree_entries (suc depth) c ++ tree_entries depth l) ++ others) (e ∙ ap (λ x. x ++ others) (first_entry depth t c l))

pub row_below : (depth deeper : ℕ) (l : Trees) (others : List Entry) → depth < deeper → Shallower depth others → Shallower deeper (tree_entries depth l ++ others)
unfolding tree_entries
row_below depth deeper none [] lt shallow = tt
row_below depth deeper none (o ∷ others) lt shallow = omega (arith, lt, shallow)
row_below depth deeper (tree t c l) others lt shallow = lt

is_none_or : (l : Trees) → (l ≡ none) ⊎ (l ≢ none)
is_none_or none = inl refl
is_none_or (tree t c l) = inr (tree_some t c l)

-- what a node says of its part
pub record Tells (node : Node) (t : Told) : Type 0 where
  pub kind : node.kind ≡ t.kind
  pub line : node.line ≡ t.line
  pub name : node.name.items ≡ t.name
  pub text : node.text.items ≡ t.text

pub own_told : (docs : Preorder) (n : ℕ) (node : Node) (row : Trees) → node ≡ get_or docs.nodes.items n node → StandAt docs n row → ForFirst row (λ told inner later. Tells node told)
own_told docs n node none is h = tt
own_told docs n node (tree t c l) is h =
    let e : node_shown node ≡ entry_of h.depth t = ap node_shown is ∙ own_entry docs n t c l h node in
    record { kind = ap (λ x. x.kind) e; line = ap (λ x. x.line) e; name = ap (λ x. x.name) e; text = ap (λ x. x.text) e }

own_depth : (docs : Preorder) (n : ℕ) (node : Node) (t : Told) (c l : Trees) (h : StandAt docs n (tree t c l)) → node ≡ get_or docs.nodes.items n node → node.depth ≡ h.depth
own_depth docs n node t c l h is = ap (λ x. x.depth) (ap node_shown is ∙ own_entry docs n t c l h node)

pub first_some : (docs : Preorder) (n d : ℕ) (node : Node) (p : Part) (row : Trees) → p.number ≡ n + 1 → node ≡ get_or docs.nodes.items n node → IsDepthAt docs (n + 1) d → node.depth < d → StandAt docs n row → ForFirst row (λ told inner later. IsFirstOf docs inner p)
first_some docs n d node p none num is at lt h = tt
first_some docs n d node p (tree t none l) num is at lt h =
    absurd (omega (arith, lt, own_depth docs n node t none l h is, row_depth docs (n + 1) h.depth d l h.others (behind docs n t none l h ∙ ap (λ x. x ++ (tree_entries h.depth l ++ h.others)) (no_entries (suc h.depth))) h.end at))
first_some docs n d node p (tree t (tree u b r) l) num is at lt h =
    (record { depth = suc h.depth; others = tree_entries h.depth l ++ h.others; are = ap (λ k. drop k (parts_kept docs)) num ∙ behind docs n t (tree u b r) l h; end = row_below h.depth (suc h.depth) l h.others (omega arith) h.end }, tree_some u b r)

pub first_none : (docs : Preorder) (n d : ℕ) (node : Node) (row : Trees) → node ≡ get_or docs.nodes.items n node → IsDepthAt docs (n + 1) d → d ≤ node.depth → StandAt docs n row → ForFirst row (λ told inner later. inner ≡ none)
first_none docs n d node none is at le h = tt
first_none docs n d node (tree t c l) is at le h = elim (is_none_or c) [
  | inl without ↦ without
  | inr some ↦ absurd (omega (arith, le, own_depth docs n node t c l h is, row_has docs (n + 1) (suc h.depth) d c (tree_entries h.depth l ++ h.others) some (behind docs n t c l h) at))
]

pub first_past : (docs : Preorder) (n : ℕ) (row : Trees) → length docs.nodes.items ≤ n + 1 → StandAt docs n row → ForFirst row (λ told inner later. inner ≡ none)
first_past docs n none past h = tt
first_past docs n (tree t c l) past h = elim (is_none_or c) [
  | inl without ↦ without
  | inr some ↦ absurd (omega (arith, past, row_inside docs (n + 1) (suc h.depth) c (tree_entries h.depth l ++ h.others) some (behind docs n t c l h)))
]

-- how many parts in a row are deeper than it
abbrev pub deeper_than : ℕ → Entry → Bool
deeper_than depth e = nat_lt depth e.depth

leading_more : (depth : ℕ) (e : Entry) (rest : List Entry) → depth < e.depth → length (take_while (deeper_than depth) (e ∷ rest)) ≡ suc (length (take_while (deeper_than depth) rest))
leading_more depth e rest l = ap length (take_while-cons (deeper_than depth) e rest ∙ ap (λ b. cond b (e ∷ take_while (deeper_than depth) rest) []) ((Decides-ltb depth e.depth).1 l))

leading_stop : (depth : ℕ) (e : Entry) (rest : List Entry) → e.depth ≤ depth → length (take_while (deeper_than depth) (e ∷ rest)) ≡ 0
leading_stop depth e rest l = ap length (take_while-cons (deeper_than depth) e rest ∙ ap (λ b. cond b (e ∷ take_while (deeper_than depth) rest) []) (false_from_ne_true (nat_lt depth e.depth) (λ t. let d : depth < e.depth = (Decides-ltb depth e.depth).0 t in absurd (omega (arith, l, d)))))

all_deeper : (depth k : ℕ) (row : Trees) (rest : List Entry) → depth < k → length (take_while (deeper_than depth) (tree_entries k row ++ rest)) ≡ length (tree_entries k row) + length (take_while (deeper_than depth) rest)
unfolding tree_entries
all_deeper depth k none rest l = omega arith
all_deeper depth k (tree t c r) rest l =
    let more : List Entry = (tree_entries (suc k) c ++ tree_entries k r) ++ rest in
    let regroup : length (take_while (deeper_than depth) more) ≡ length (take_while (deeper_than depth) (tree_entries (suc k) c ++ (tree_entries k r ++ rest))) = ap (λ x. length (take_while (deeper_than depth) x)) (append_assoc (tree_entries (suc k) c) (tree_entries k r) rest) in
    let one = leading_more depth (entry_of k t) more l in
    let inner = all_deeper depth (suc k) c (tree_entries k r ++ rest) (omega (arith, l)) in
    let later = all_deeper depth k r rest l in
    let size : length (tree_entries (suc k) c ++ tree_entries k r) ≡ length (tree_entries (suc k) c) + length (tree_entries k r) = length-append (tree_entries (suc k) c) (tree_entries k r) in
    omega (arith, one, regroup, inner, later, size)

none_deeper : (depth : ℕ) (row : Trees) (others : List Entry) → Shallower depth others → length (take_while (deeper_than depth) (tree_entries depth row ++ others)) ≡ 0
unfolding tree_entries
none_deeper depth none [] s = refl
none_deeper depth none (o ∷ others) s = leading_stop depth o others (omega (arith, s))
none_deeper depth (tree t c l) others s = leading_stop depth (entry_of depth t) ((tree_entries (suc depth) c ++ tree_entries depth l) ++ others) (omega arith)

leading_shown : (depth : ℕ) (nodes : List Node) → length (take_while (λ (node : Node). nat_lt depth node.depth) nodes) ≡ length (take_while (deeper_than depth) (map node_shown nodes))
leading_shown depth [] = refl
leading_shown depth (x ∷ xs) =
    ap length (take_while-cons (λ (node : Node). nat_lt depth node.depth) x xs)
    ∙ by_test (nat_lt depth x.depth) (leading_shown depth xs)
    ∙ sym (ap length (take_while-cons (deeper_than depth) (node_shown x) (map node_shown xs)))
  where
    by_test : (b : Bool) → length (take_while (λ (node : Node). nat_lt depth node.depth) xs) ≡ length (take_while (deeper_than depth) (map node_shown xs)) → length (cond b (x ∷ take_while (λ (node : Node). nat_lt depth node.depth) xs) []) ≡ length (cond b (node_shown x ∷ take_while (deeper_than depth) (map node_shown xs)) [])
    by_test true e = ap suc e
    by_test false e = refl

drop_shown : (n : ℕ) (nodes : List Node) → map node_shown (drop n nodes) ≡ drop n (map node_shown nodes)
drop_shown zero nodes = refl
drop_shown (suc n) [] = refl
drop_shown (suc n) (node ∷ nodes) = drop_shown n nodes

-- the place behind a part
abbrev pub IsBehind : Preorder → ℕ → ℕ → Type 0
IsBehind docs n m = (node : Node) → m ≡ n + 1 + length (take_while (λ (other : Node). nat_lt (get_or docs.nodes.items n node).depth other.depth) (drop (n + 1) docs.nodes.items))

next_place : (docs : Preorder) (n m : ℕ) (node : Node) (t : Told) (c l : Trees) (h : StandAt docs n (tree t c l)) → node ≡ get_or docs.nodes.items n node → IsBehind docs n m → drop m (parts_kept docs) ≡ tree_entries h.depth l ++ h.others
next_place docs n m node t c l h is b =
    let depth : (get_or docs.nodes.items n node).depth ≡ h.depth = ap (λ x. x.depth) (own_entry docs n t c l h node) in
    let count : length (take_while (λ (other : Node). nat_lt (get_or docs.nodes.items n node).depth other.depth) (drop (n + 1) docs.nodes.items)) ≡ length (tree_entries (suc h.depth) c) + 0 =
    ap (λ d. length (take_while (λ (other : Node). nat_lt d other.depth) (drop (n + 1) docs.nodes.items))) depth
    ∙ leading_shown h.depth (drop (n + 1) docs.nodes.items)
    ∙ ap (λ x. length (take_while (deeper_than h.depth) x)) (drop_shown (n + 1) docs.nodes.items ∙ behind docs n t c l h)
    ∙ all_deeper h.depth (suc h.depth) c (tree_entries h.depth l ++ h.others) (omega arith)
    ∙ ap (λ k. length (tree_entries (suc h.depth) c) + k) (none_deeper h.depth l h.others h.end) in
    beyond docs n t c l h m (omega (arith, b node, count))

pub next_some : (docs : Preorder) (n m d : ℕ) (node : Node) (p : Part) (row : Trees) → p.number ≡ m → node ≡ get_or docs.nodes.items n node → IsBehind docs n m → IsDepthAt docs m d → d ≡ node.depth → StandAt docs n row → ForFirst row (λ told inner later. IsFirstOf docs later p)
next_some docs n m d node p none num is b at eq h = tt
next_some docs n m d node p (tree t c none) num is b at eq h = absurd (after_row h.others (next_place docs n m node t c none h is b) h.end)
  where
    after_row : (others : List Entry) → drop m (parts_kept docs) ≡ tree_entries h.depth none ++ others → Shallower h.depth others → ⊥
    after_row [] there shallow = omega (arith, at.inside, past_at docs.nodes.items m (there ∙ ap (λ x. x ++ []) (no_entries h.depth)))
    after_row (o ∷ others) there shallow =
        let here : d ≡ o.depth = at.is node ∙ ap (λ x. x.depth) (head_at docs.nodes.items m o others (there ∙ ap (λ x. x ++ o ∷ others) (no_entries h.depth)) node) in
        omega (arith, here, shallow, eq, own_depth docs n node t c none h is)
next_some docs n m d node p (tree t c (tree u b r)) num is behind_it at eq h =
    (record { depth = h.depth; others = h.others; are = ap (λ k. drop k (parts_kept docs)) num ∙ next_place docs n m node t c (tree u b r) h is behind_it; end = h.end }, tree_some u b r)

pub next_none : (docs : Preorder) (n m d : ℕ) (node : Node) (row : Trees) → node ≡ get_or docs.nodes.items n node → IsBehind docs n m → IsDepthAt docs m d → (d ≡ node.depth → ⊥) → StandAt docs n row → ForFirst row (λ told inner later. later ≡ none)
next_none docs n m d node none is b at ne h = tt
next_none docs n m d node (tree t c l) is b at ne h = elim (is_none_or l) [
  | inl without ↦ without
  | inr some ↦ absurd (ne (row_has docs m h.depth d l h.others some (next_place docs n m node t c l h is b) at ∙ sym (own_depth docs n node t c l h is)))
]

pub next_past : (docs : Preorder) (n m : ℕ) (node : Node) (row : Trees) → node ≡ get_or docs.nodes.items n node → IsBehind docs n m → length docs.nodes.items ≤ m → StandAt docs n row → ForFirst row (λ told inner later. later ≡ none)
next_past docs n m node none is b past h = tt
next_past docs n m node (tree t c l) is b past h = elim (is_none_or l) [
  | inl without ↦ without
  | inr some ↦ absurd (omega (arith, past, row_inside docs m h.depth l h.others some (next_place docs n m node t c l h is b)))
]

pub for_first : (row : Trees) (P Q : Told → Trees → Trees → Type 0) → ForFirst row P → ((t : Told) (inner later : Trees) → P t inner later → Q t inner later) → ForFirst row Q
for_first none P Q h f = tt
for_first (tree t inner later) P Q h f = f t inner later h

pub no_documents : (docs : Preorder) (documents : Trees) → AreDocuments docs documents → length docs.nodes.items ≡ 0 → documents ≡ none
unfolding tree_entries
no_documents docs none are z = refl
no_documents docs (tree t c l) are z = absurd (omega (arith, z, shown_length docs.nodes.items, ap length are))

pub all_documents : (docs : Preorder) (documents : Trees) → AreDocuments docs documents → 0 < length docs.nodes.items → StandAt docs 0 documents × (documents ≢ none)
all_documents docs documents are z = (record { depth = 0; others = []; are = are ∙ sym (append-nil (tree_entries 0 documents)); end = tt }, some documents are)
  where
    some : (documents : Trees) → AreDocuments docs documents → documents ≢ none
    some none are e = omega (arith, z, shown_length docs.nodes.items, ap length (are ∙ no_entries 0))
    some (tree t c l) are e = tree_some t c l e

-- how many entries stand at depth 0
tops : List Entry → ℕ
tops [] = 0
tops (e ∷ es) = cond (e.depth == 0) (1 + tops es) (tops es)

tops_append : (xs ys : List Entry) → tops (xs ++ ys) ≡ tops xs + tops ys
unfolding tops
tops_append [] ys = omega arith
tops_append (x ∷ xs) ys = by_test (x.depth == 0) (tops_append xs ys)
  where
    by_test : (b : Bool) → tops (xs ++ ys) ≡ tops xs + tops ys → cond b (1 + tops (xs ++ ys)) (tops (xs ++ ys)) ≡ cond b (1 + tops xs) (tops xs) + tops ys
    by_test true e = omega (arith, e)
    by_test false e = e

tops_deeper : (depth : ℕ) (row : Trees) → tops (tree_entries (suc depth) row) ≡ 0
unfolding tops tree_entries
tops_deeper depth none = refl
tops_deeper depth (tree t c l) =
    let apart : (suc depth == 0) ≡ false = false_from_ne_true (suc depth == 0) (λ k. let e : suc depth ≡ 0 = (Decides-eqb (suc depth) 0).0 k in absurd (omega (arith, e))) in
    rw apart (omega (arith, tops_append (tree_entries (suc (suc depth)) c) (tree_entries (suc depth) l), tops_deeper (suc depth) c, tops_deeper depth l))

tops_all : (row : Trees) → tops (tree_entries 0 row) ≡ count_of row
unfolding tops tree_entries
tops_all none = refl
tops_all (tree t c l) = omega (arith, tops_append (tree_entries 1 c) (tree_entries 0 l), tops_deeper 0 c, tops_all l)

shown_tops : List Node → ℕ
unfolding tops
shown_tops nodes = tops (map node_shown nodes)

pub counted : (docs : Preorder) (documents : Trees) → AreDocuments docs documents → count_by (λ (node : Node). node.depth == 0) docs.nodes.items ≡ count_of documents
unfolding shown_tops tops
counted docs documents are = sym (is_count_by shown_tops (λ (node : Node). node.depth == 0) refl (λ x xs. refl) docs.nodes.items) ∙ ap tops are ∙ tops_all documents

-- one document more
pub rows_next : (docs : Preorder) (n : ℕ) (row : Trees) (p : Part) (found : Option Part) → IsFirstOf docs (rows_from n row) p → ((rest : Trees) → StandsAt docs p rest → ForFirst rest (λ told inner later. FirstOf docs later found)) → FirstOf docs (rows_from (suc n) row) found
rows_next docs zero none p found f next = absurd (f.1 refl)
rows_next docs zero (tree t c l) p found f next = next (tree t c l) f.0
rows_next docs (suc n) none p found f next = absurd (f.1 refl)
rows_next docs (suc n) (tree t c l) p found f next = rows_next docs n l p found f next

pub rows_past : (n k : ℕ) (row : Trees) → n ≤ k → rows_from n row ≡ none → rows_from k row ≡ none
rows_past zero zero row l e = e
rows_past zero (suc k) row l e = ap (rows_from (suc k)) e
rows_past (suc n) zero row l e = absurd (omega (arith, l))
rows_past (suc n) (suc k) none l e = refl
rows_past (suc n) (suc k) (tree t c r) l e = rows_past n k r (omega (arith, l)) e

pub none_first : (docs : Preorder) (row : Trees) → row ≡ none → FirstOf docs row None
none_first docs row e = e
