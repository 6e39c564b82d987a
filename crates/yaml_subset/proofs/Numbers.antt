-- Parts by their numbers: what is kept of them, and the trees.
use Rattle.std.proofs.Common.{◌≡◌, ◌≢◌, ◌⊎◌, inl, inr, ℕ, zero, suc, ◌+◌, ◌-◌, ◌<◌, ◌≤◌, true, false, ◌==◌, List, [], ◌∷◌, ◌++◌, length, drop, refl, sym, ap, subst, ◌∙◌, arith, append_assoc, append-nil, length-append, Option, Some, None}
use Rattle.std.specs.Prelude.{nat_lt, map, if◌then◌else◌, MatchOption}
use Rattle.std.proofs.lemmas.Bool.{false_from_ne_true}
use Rattle.std.proofs.lemmas.Bool.Decides.{Decides-eqb, Decides-ltb}
use Rattle.yaml_subset.specs.declared.node.Node.{Node}
use Rattle.yaml_subset.specs.declared.preorder.Preorder.{Preorder}
use Rattle.yaml_subset.specs.declared.preorder.Part.{Part}
use Rattle.yaml_subset.specs.Tree.{Entry}
use Rattle.yaml_subset.specs.Held.{node_shown}
use Rattle.yaml_subset.specs.Trees.{Told, Trees, none, tree, tree_entries}
use Rattle.yaml_subset.specs.Preorder.{parts_kept, Shallower, StandAt, IsFirstOf, FirstOf, ForFirst, OfPart, AreDocuments}
use Rattle.yaml_subset.specs.Docs.{size, row_at, row_of, told_of, inner_of, later_of, Begins, IsFirst}
use Rattle.yaml_subset.specs.Built.{entry_told, built, documents_of, IsWhole}
use Rattle.yaml_subset.specs.Lawful.{AreUnnamed, IsLawful, AreOfFile}
use Rattle.yaml_subset.proofs.Lawful.{first_lawful, row_lawful_at}
use Rattle.yaml_subset.proofs.Walks.{entry_of, first_entry, no_entries, tree_some, row_below, drop_on}

pub entries_size : (depth : ℕ) (row : Trees) → length (tree_entries depth row) ≡ size row
unfolding tree_entries size
entries_size depth none = refl
entries_size depth (tree t c l) = omega (arith, length-append (tree_entries (suc depth) c) (tree_entries depth l), entries_size (suc depth) c, entries_size depth l)

-- building
built_here : (depth : ℕ) (e : Entry) (others : List Entry) → e.depth ≡ depth → built depth (e ∷ others) ≡ tree (entry_told e) (built (suc depth) others) (built depth others)
unfolding built
built_here depth e others h = ap (λ b. if b then tree (entry_told e) (built (suc depth) others) (built depth others) else if nat_lt e.depth depth then none else built depth others) ((Decides-eqb e.depth depth).1 h)

built_none : (depth : ℕ) (others : List Entry) → Shallower depth others → built depth others ≡ none
unfolding built
built_none depth [] s = refl
built_none depth (e ∷ others) s =
    let apart : (e.depth == depth) ≡ false = false_from_ne_true (e.depth == depth) (λ k. let e : e.depth ≡ depth = (Decides-eqb e.depth depth).0 k in absurd (omega (arith, e, s))) in
    let below : nat_lt e.depth depth ≡ true = (Decides-ltb e.depth depth).1 s in
    ap (λ b. if b then tree (entry_told e) (built (suc depth) others) (built depth others) else if nat_lt e.depth depth then none else built depth others) apart
    ∙ ap (λ b. if b then none else built depth others) below

built_past : (depth : ℕ) (e : Entry) (others : List Entry) → depth < e.depth → built depth (e ∷ others) ≡ built depth others
unfolding built
built_past depth e others s =
    let apart : (e.depth == depth) ≡ false = false_from_ne_true (e.depth == depth) (λ k. let e : e.depth ≡ depth = (Decides-eqb e.depth depth).0 k in absurd (omega (arith, e, s))) in
    let below : nat_lt e.depth depth ≡ false = false_from_ne_true (nat_lt e.depth depth) (λ k. let e : e.depth < depth = (Decides-ltb e.depth depth).0 k in absurd (omega (arith, e, s))) in
    ap (λ b. if b then tree (entry_told e) (built (suc depth) others) (built depth others) else if nat_lt e.depth depth then none else built depth others) apart
    ∙ ap (λ b. if b then none else built depth others) below

built_over : (depth k : ℕ) (row : Trees) (others : List Entry) → depth < k → built depth (tree_entries k row ++ others) ≡ built depth others
built_over depth k none others h = ap (λ x. built depth (x ++ others)) (no_entries k)
built_over depth k (tree t c l) others h =
    ap (λ x. built depth (x ++ others)) (first_entry k t c l)
    ∙ built_past depth (entry_of k t) ((tree_entries (suc k) c ++ tree_entries k l) ++ others) h
    ∙ ap (built depth) (append_assoc (tree_entries (suc k) c) (tree_entries k l) others)
    ∙ built_over depth (suc k) c (tree_entries k l ++ others) (omega (arith, h))
    ∙ built_over depth k l others h

pub built_row : (depth : ℕ) (row : Trees) (others : List Entry) → Shallower depth others → built depth (tree_entries depth row ++ others) ≡ row
built_row depth none others s = ap (λ x. built depth (x ++ others)) (no_entries depth) ∙ built_none depth others s
built_row depth (tree t c l) others s =
    ap (λ x. built depth (x ++ others)) (first_entry depth t c l)
    ∙ built_here depth (entry_of depth t) ((tree_entries (suc depth) c ++ tree_entries depth l) ++ others) refl
    ∙ ap (λ x. tree t (built (suc depth) x) (built depth x)) (append_assoc (tree_entries (suc depth) c) (tree_entries depth l) others)
    ∙ ap (λ x. tree t x (built depth (tree_entries (suc depth) c ++ (tree_entries depth l ++ others)))) (built_row (suc depth) c (tree_entries depth l ++ others) (row_below depth (suc depth) l others (omega arith) s))
    ∙ ap (λ x. tree t c x) (built_over depth (suc depth) c (tree_entries depth l ++ others) (omega arith) ∙ built_row depth l others s)

pub built_all : (documents : Trees) → built 0 (tree_entries 0 documents) ≡ documents
built_all documents = ap (built 0) (sym (append-nil (tree_entries 0 documents))) ∙ built_row 0 documents [] tt

-- two rows that stand at one place are one
same_depth : (docs : Preorder) (n : ℕ) (a b : Trees) (x : StandAt docs n a) (y : StandAt docs n b) → a ≢ none → b ≢ none → x.depth ≡ y.depth
same_depth docs n none b x y some other = absurd (some refl)
same_depth docs n (tree t c l) none x y some other = absurd (other refl)
same_depth docs n (tree t c l) (tree u d r) x y some other = heads (entry_of x.depth t) (entry_of y.depth u) _ _ (sym (ap (λ k. k ++ x.others) (first_entry x.depth t c l)) ∙ sym x.are ∙ y.are ∙ ap (λ k. k ++ y.others) (first_entry y.depth u d r))
  where
    heads : (e f : Entry) (es fs : List Entry) → (e ∷ es) ≡ (f ∷ fs) → e.depth ≡ f.depth
    heads e f es fs h = let k : e ≡ f = cc in ap (λ z. z.depth) k

one_row : (docs : Preorder) (n : ℕ) (a b : Trees) → StandAt docs n a → a ≢ none → StandAt docs n b → b ≢ none → a ≡ b
one_row docs n a b x some y other =
    sym (built_row x.depth a x.others x.end) ∙ ap (built x.depth) (sym x.are) ∙ ap (λ d. built d (drop n (parts_kept docs))) (same_depth docs n a b x y some other)
    ∙ ap (built y.depth) y.are ∙ built_row y.depth b y.others y.end

-- the row at a number
row_within : (t : Told) (c l : Trees) (n : ℕ) → n < size c → row_at (suc n) (tree t c l) ≡ row_at n c
unfolding row_at
row_within t c l n h = ap (λ b. if b then row_at n c else row_at (n - size c) l) ((Decides-ltb n (size c)).1 h)

row_behind : (t : Told) (c l : Trees) (n : ℕ) → size c ≤ n → row_at (suc n) (tree t c l) ≡ row_at (n - size c) l
unfolding row_at
row_behind t c l n h = ap (λ b. if b then row_at n c else row_at (n - size c) l) (false_from_ne_true (nat_lt n (size c)) (λ k. let e : n < size c = (Decides-ltb n (size c)).0 k in absurd (omega (arith, h, e))))

row_first : (row : Trees) → row_at 0 row ≡ row
unfolding row_at
row_first none = refl
row_first (tree t c l) = refl

size_tree : (t : Told) (c l : Trees) → size (tree t c l) ≡ suc (size c + size l)
unfolding size
size_tree t c l = refl

size_none : size none ≡ 0
unfolding size
size_none = refl

less_or : (n m : ℕ) → (n < m) ⊎ (m ≤ n)
less_or n m = elim (nat_lt n m) as (λ b. nat_lt n m ≡ b → (n < m) ⊎ (m ≤ n)) [
  | true ↦ λ e. inl ((Decides-ltb n m).0 e)
  | false ↦ λ e. inr (not_less n m e)
] refl
  where
    not_less : (n m : ℕ) → nat_lt n m ≡ false → m ≤ n
    not_less n m e = grind (arith, Decides-ltb n m, e)

pub standing : (docs : Preorder) (first depth : ℕ) (row : Trees) (others : List Entry) → drop first (parts_kept docs) ≡ tree_entries depth row ++ others → Shallower depth others → (n m : ℕ) → m ≡ first + n → n < size row → StandAt docs m (row_at n row) × (row_at n row ≢ none)
standing docs first depth none others are shallow n m e h = absurd (omega (arith, h, size_none))
standing docs first depth (tree t c l) others are shallow zero m e h = (
  subst (λ (r : Trees). StandAt docs m r) (sym (row_first (tree t c l))) (record { depth = depth; others = others; are = ap (λ k. drop k (parts_kept docs)) (let s : m ≡ first = omega (arith, e) in s) ∙ are; end = shallow }),
  subst (λ (r : Trees). r ≢ none) (sym (row_first (tree t c l))) (tree_some t c l),
)
standing docs first depth (tree t c l) others are shallow (suc n) m e h = elim (less_or n (size c)) [
  | inl within ↦ subst (λ (r : Trees). StandAt docs m r × (r ≢ none)) (sym (row_within t c l n within))
      (standing docs (suc first) (suc depth) c (tree_entries depth l ++ others) inner_are (row_below depth (suc depth) l others (omega arith) shallow) n m (omega (arith, e)) within)
  | inr past ↦ subst (λ (r : Trees). StandAt docs m r × (r ≢ none)) (sym (row_behind t c l n past))
      (standing docs (suc first + size c) depth l others later_are shallow (n - size c) m (omega (arith, e, past)) (omega (arith, past, h, size_tree t c l)))
]
  where
    whole : drop first (parts_kept docs) ≡ (entry_of depth t ∷ []) ++ (tree_entries (suc depth) c ++ (tree_entries depth l ++ others))
    whole = are ∙ ap (λ x. x ++ others) (first_entry depth t c l) ∙ ap (λ x. entry_of depth t ∷ x) (append_assoc (tree_entries (suc depth) c) (tree_entries depth l) others)

    inner_are : drop (suc first) (parts_kept docs) ≡ tree_entries (suc depth) c ++ (tree_entries depth l ++ others)
    inner_are = drop_on (parts_kept docs) (entry_of depth t ∷ []) (tree_entries (suc depth) c ++ (tree_entries depth l ++ others)) first (suc first) whole (omega arith)

    later_are : drop (suc first + size c) (parts_kept docs) ≡ tree_entries depth l ++ others
    later_are = drop_on (parts_kept docs) (tree_entries (suc depth) c) (tree_entries depth l ++ others) (suc first) (suc first + size c) inner_are (omega (arith, entries_size (suc depth) c))

module _ (docs : Preorder) (documents : Trees) (are : AreDocuments docs documents) where
  all : (n : ℕ) → n < size documents → StandAt docs n (row_at n documents) × (row_at n documents ≢ none)
  all n h = standing docs 0 0 documents [] (are ∙ sym (append-nil (tree_entries 0 documents))) tt n n (omega arith) h

  pub kept_size : length docs.nodes.items ≡ size documents
  kept_size = sym (map_length docs.nodes.items) ∙ ap length are ∙ entries_size 0 documents
    where
      map_length : (nodes : List Node) → length (map node_shown nodes) ≡ length nodes
      map_length [] = refl
      map_length (x ∷ xs) = ap suc (map_length xs)

  -- a fact of a part, told of the row at its number
  pub told_by : (p : Part) (fact : Told → Trees → Trees → Type 0) → p.number < size documents → OfPart docs p fact → fact (told_of (row_of documents p)) (inner_of (row_of documents p)) (later_of (row_of documents p))
  told_by p fact h of_part = let s = all p.number h in open_row (row_of documents p) s.1 (of_part (row_of documents p) s.0)
    where
      open_row : (row : Trees) → row ≢ none → ForFirst row fact → fact (told_of row) (inner_of row) (later_of row)
      open_row none some f = absurd (some refl)
      open_row (tree t c l) some f = f

  pub begins : (row : Trees) (p : Part) → p.number < length docs.nodes.items → IsFirstOf docs row p → Begins documents row p
  begins row p h f =
      let inside : p.number < size documents = omega (arith, h, kept_size) in
      let s = all p.number inside in
      record { inside = inside; is = one_row docs p.number (row_of documents p) row s.0 s.1 f.0 f.1; some = f.1 }

  pub first_is : (row : Trees) (found : Option Part) → MatchOption found (Unit {0}) (λ p. p.number < length docs.nodes.items) → FirstOf docs row found → IsFirst documents row found
  first_is row None h f = f
  first_is row (Some p) h f = begins row p h f

-- the same of documents as callers see them
module _ (docs : Preorder) (value : Trees) (is : documents_of docs ≡ value) (whole : IsWhole docs) where
  are_these : AreDocuments docs value
  are_these = whole.are ∙ ap (tree_entries 0) is

  pub inside_kept : (p : Part) → p.number < size value → p.number < length docs.nodes.items
  inside_kept p h = omega (arith, h, kept_size docs value are_these)

  pub told_here : (p : Part) (fact : Told → Trees → Trees → Type 0) → p.number < size value → OfPart docs p fact → fact (told_of (row_of value p)) (inner_of (row_of value p)) (later_of (row_of value p))
  told_here p fact h of_part = told_by docs value are_these p fact h of_part

  pub first_here : (row : Trees) (found : Option Part) → MatchOption found (Unit {0}) (λ p. p.number < length docs.nodes.items) → FirstOf docs row found → IsFirst value row found
  first_here row found h f = first_is docs value are_these row found h f

  of_file : AreOfFile value
  of_file = subst AreOfFile is whole.of_file

  pub unnamed_here : AreUnnamed value
  unnamed_here = of_file.unnamed

  pub lawful_here : (p : Part) → IsLawful (told_of (row_of value p)) (inner_of (row_of value p))
  lawful_here p = first_lawful (row_of value p) (row_lawful_at p.number value of_file.lawful)
