-- What holds of the parts that rows are shown as.
use Rattle.std.proofs.Common.{◌≡◌, ℕ, zero, suc, ◌+◌, ◌-◌, ◌≤◌, Bool, true, false, List, [], ◌∷◌, ◌++◌, refl, sym, subst, arith}
use Rattle.std.specs.Prelude.{nat_lt, if◌then◌else◌, bytes_eq, IsUtf8}
use Rattle.std.proofs.lemmas.Bool.{false_from_ne_true}
use Rattle.std.proofs.lemmas.Slice.Eq.{bytes_eq-Decides}
use Rattle.std.proofs.lemmas.Str.{IsUtf8-nil}
use Rattle.yaml_lines.specs.declared.kind.PartKind.{PartKind}
use Rattle.yaml_lines.specs.declared.kind.PartKind.TheVariants as kinds
use Rattle.yaml_lines.specs.Leaf.{Scalar}
use Rattle.yaml_lines.proofs.Branches.{if_of}
use Rattle.yaml_subset.specs.declared.open.Holder.{Holder}
use Rattle.yaml_subset.specs.declared.open.Holder.TheVariants as holders
use Rattle.yaml_subset.specs.Tree.{What, absent, leaf, rows, Forest, empty, grows, holder_kind, kind_of, text_of}
use Rattle.yaml_subset.specs.Layout.{Says, start, item, named, value, says_of, Mark, lead, inside, marks, Lacks, IsNameIn, Fits}
use Rattle.yaml_subset.specs.Trees.{Told, Trees, none, tree, item_trees, inner_trees, plain}
use Rattle.yaml_subset.specs.Docs.{size, row_at, told_of, inner_of, members_in, members_of}
use Rattle.yaml_subset.specs.Lawful.{count_named, AreUnnamed, MayHold, MayTell, IsLawful, AreLawful, AreOfFile}
use Rattle.yaml_subset.proofs.Rows.{marks_grows, RowFits, fits_row}
use Rattle.yaml_subset.proofs.Leaves.{AreItems, MayList, IsLeaf}

abbrev OfSays : Says → Type 0
OfSays start = Unit {0}
OfSays item = Unit {0}
OfSays (named name) = IsUtf8 name
OfSays (value v) = IsLeaf v

-- marks that lines may leave
abbrev pub AreGood : List Mark → Type 0
AreGood [] = Unit {0}
AreGood (m ∷ ms) = OfSays m.says × AreGood ms

pub good_append : (a b : List Mark) → AreGood a → AreGood b → AreGood (a ++ b)
good_append [] b x y = y
good_append (m ∷ a) b x y = (x.0, good_append a b x.1 y)

good_front : (a b : List Mark) → AreGood (a ++ b) → AreGood a
good_front [] b x = tt
good_front (m ∷ a) b x = (x.0, good_front a b x.1)

good_back : (a b : List Mark) → AreGood (a ++ b) → AreGood b
good_back [] b x = x
good_back (m ∷ a) b x = good_back a b x.1

-- parts of any kind may hold nothing
holds_none : (k : PartKind) → MayHold k none
holds_none kinds.Mapping = λ name. omega arith
holds_none kinds.Sequence = tt
holds_none kinds.Scalar = refl
holds_none kinds.Empty = refl

-- members have names of their own
lacks_count : (name : List ℕ) (f : Forest) → Lacks name f → count_named name (plain f) ≡ 0
unfolding Lacks plain
lacks_count name empty l = refl
lacks_count name (grows line other what inner later) l =
    let apart : bytes_eq other name ≡ false = false_from_ne_true (bytes_eq other name) (λ t. l.0 (sym ((bytes_eq-Decides other name).0 t))) in
    let none_later : count_named name (plain later) ≡ 0 = lacks_count name later l.1 in
    rw (apart, none_later)

at_most_one : (b : Bool) (n : ℕ) → (b ≡ true → n ≡ 0) → n ≤ 1 → (if b then 1 else 0) + n ≤ 1
at_most_one true n z l = let e : n ≡ 0 = z refl in omega (arith, e)
at_most_one false n z l = omega (arith, l)

own_names : (f : Forest) (level c : ℕ) → Fits level holders.Mapping c f → (name : List ℕ) → count_named name (plain f) ≤ 1
unfolding plain
own_names empty level c fits name = omega arith
own_names (grows line other what inner later) level c fits name =
    let p = fits_row level holders.Mapping c line other what inner later fits in
    at_most_one (bytes_eq other name) (count_named name (plain later))
    (λ t. subst (λ (x : List ℕ). count_named x (plain later) ≡ 0) ((bytes_eq-Decides other name).0 t) (lacks_count other later p.1))
    (own_names later level c p.2 name)

-- documents and items have no names
no_documents_names : (f : Forest) (level c : ℕ) → Fits level holders.File c f → AreUnnamed (plain f)
unfolding plain
no_documents_names empty level c fits = tt
no_documents_names (grows line other what inner later) level c fits = let p = fits_row level holders.File c line other what inner later fits in (p.1, no_documents_names later level c p.2)

no_items_names : (f : Forest) (level c : ℕ) → Fits level holders.Sequence c f → AreUnnamed (plain f)
unfolding plain
no_items_names empty level c fits = tt
no_items_names (grows line other what inner later) level c fits = let p = fits_row level holders.Sequence c line other what inner later fits in (p.1, no_items_names later level c p.2)

rows_held : (h : Holder) (f : Forest) (level c : ℕ) → Fits level h c f → MayHold (holder_kind h) (plain f)
rows_held holders.File f level c fits = no_documents_names f level c fits
rows_held holders.Mapping f level c fits = own_names f level c fits
rows_held holders.Sequence f level c fits = no_items_names f level c fits

rows_tell : (h : Holder) → MayTell (holder_kind h) []
rows_tell holders.File = refl
rows_tell holders.Mapping = refl
rows_tell holders.Sequence = refl

-- the items of a value in brackets
items_lawful : (line : ℕ) (items : List Scalar) → AreItems items → AreLawful (item_trees line items none)
unfolding AreLawful
items_lawful line [] are = tt
items_lawful line (i ∷ items) are = (record { name = IsUtf8-nil; text = are.0.1; holds = holds_none i.kind; tells = are.0.0 }, tt, items_lawful line items are.1)

items_unnamed : (line : ℕ) (items : List Scalar) → AreUnnamed (item_trees line items none)
items_unnamed line [] = tt
items_unnamed line (i ∷ items) = (refl, items_unnamed line items)

items_held : (k : PartKind) (line : ℕ) (items : List Scalar) → MayList k items → MayHold k (item_trees line items none)
items_held kinds.Sequence line items l = items_unnamed line items
items_held kinds.Mapping line items l = subst (λ (x : List Scalar). MayHold kinds.Mapping (item_trees line x none)) (sym l) (holds_none kinds.Mapping)
items_held kinds.Scalar line items l = subst (λ (x : List Scalar). MayHold kinds.Scalar (item_trees line x none)) (sym l) refl
items_held kinds.Empty line items l = subst (λ (x : List Scalar). MayHold kinds.Empty (item_trees line x none)) (sym l) refl

-- a row, with what it has
abbrev told : ℕ → List ℕ → What → Told
told line name what = record { line = line; name = name; kind = kind_of what; text = text_of what }

abbrev IsRow : ℕ → List ℕ → What → Forest → Type 0
IsRow line name what inner = IsLawful (told line name what) (inner_trees what (plain inner)) × AreLawful (inner_trees what (plain inner))

row_lawful : (level : ℕ) (h : Holder) (c line : ℕ) (name : List ℕ) (what : What) (inner : Forest) → RowFits level h c what inner → IsUtf8 name → AreGood (inside what inner) → ((g : Holder) (k : ℕ) → what ≡ rows g k → AreLawful (plain inner)) → IsRow line name what inner
unfolding plain AreLawful
row_lawful level h c line name absent inner row u good again = subst (IsRow line name absent) (sym row.held) (record { name = u; text = IsUtf8-nil; holds = refl; tells = refl }, tt)
row_lawful level h c line name (leaf at place v) inner row u good again =
    subst (IsRow line name (leaf at place v)) (sym row.held.0)
    (record { name = u; text = good.0.utf8; holds = items_held v.kind at v.items good.0.lists; tells = good.0.tells }, items_lawful at v.items good.0.items)
row_lawful level h c line name (rows g k) inner row u good again =
    (record { name = u; text = IsUtf8-nil; holds = rows_held g inner (suc level) k (row.within g k refl); tells = rows_tell g }, again g k refl)

name_utf8 : (h : Holder) (name : List ℕ) (later : Forest) → OfSays (says_of h name) → IsNameIn h name later → IsUtf8 name
name_utf8 holders.File name later good own = subst IsUtf8 (sym own) IsUtf8-nil
name_utf8 holders.Mapping name later good own = good
name_utf8 holders.Sequence name later good own = subst IsUtf8 (sym own) IsUtf8-nil

inner_good : (what : What) (g : Holder) (k : ℕ) (inner : Forest) → what ≡ rows g k → AreGood (inside what inner) → AreGood (marks g k inner)
inner_good what g k inner e good = subst (λ (w : What). AreGood (inside w inner)) e good

rows_lawful : (f : Forest) (level : ℕ) (h : Holder) (c : ℕ) → Fits level h c f → AreGood (marks h c f) → AreLawful (plain f)
unfolding plain AreLawful
rows_lawful empty level h c fits good = tt
rows_lawful (grows line name what inner later) level h c fits good =
    let p = fits_row level h c line name what inner later fits in
    let all : AreGood (lead h c line name ∷ (inside what inner ++ marks h c later)) = subst AreGood (marks_grows h c line name what inner later) good in
    let own : AreGood (inside what inner) = good_front (inside what inner) (marks h c later) all.1 in
    let r = row_lawful level h c line name what inner p.0 (name_utf8 h name later all.0 p.1) own (λ g k e. rows_lawful inner (suc level) g k (p.0.within g k e) (inner_good what g k inner e own)) in
    (r.0, r.1, rows_lawful later level h c p.2 (good_back (inside what inner) (marks h c later) all.1))

-- the documents of a file
pub documents_lawful : (documents : Forest) (ms : List Mark) → ms ≡ marks holders.File 0 documents → Fits 0 holders.File 0 documents → AreGood ms → AreOfFile (plain documents)
documents_lawful documents ms e fits good = record { unnamed = no_documents_names documents 0 0 fits; lawful = rows_lawful documents 0 holders.File 0 fits (subst AreGood e good) }

-- the first part of a row
pub first_lawful : (row : Trees) → AreLawful row → IsLawful (told_of row) (inner_of row)
unfolding AreLawful
first_lawful none are = record { name = IsUtf8-nil; text = IsUtf8-nil; holds = refl; tells = refl }
first_lawful (tree t inner later) are = are.0

-- the row at a number
pub row_lawful_at : (n : ℕ) (row : Trees) → AreLawful row → AreLawful (row_at n row)
unfolding AreLawful row_at
row_lawful_at n none are = tt
row_lawful_at zero (tree t inner later) are = are
row_lawful_at (suc n) (tree t inner later) are = if_of AreLawful (nat_lt n (size inner)) (row_at n inner) (row_at (n - size inner) later) (λ e. row_lawful_at n inner are.1) (λ e. row_lawful_at (n - size inner) later are.2)

-- the members of a part
pub members_once : (name : List ℕ) (row : Trees) → IsLawful (told_of row) (inner_of row) → count_named name (members_of row) ≤ 1
members_once name none is = omega arith
members_once name (tree t inner later) is = by_kind t.kind is.holds
  where
    by_kind : (k : PartKind) → MayHold k inner → count_named name (members_in k inner) ≤ 1
    by_kind kinds.Mapping held = held name
    by_kind kinds.Scalar held = omega arith
    by_kind kinds.Sequence held = omega arith
    by_kind kinds.Empty held = omega arith
