-- Finite maps by their lists of entries.
use Rattle.std.proofs.Common.{◌≡◌, ℕ, Bool, true, false, cond, not, List, [], ◌∷◌, Option, Some, None, refl, sym, ap, ◌∙◌, subst}
use Rattle.std.specs.Prelude.{T, ◌==◌, is_some}
use Rattle.std.specs.List.{filter}
use Rattle.std.specs.Ordering.{is_eq, eq_by_cmp}
use Rattle.std.specs.Cmp.{alike_right, eq_by_cmp_equiv}
use Rattle.std.specs.FinMap.{from_sorted, find, put, is_sorted, get, insert, remove, empty, entries, same_map, same_entries_map, entries-from_sorted, get-from_sorted, entries-insert, get-remove}
use Rattle.std.specs.FinMap.Entries.{is_sorted-put, is_sorted-where_key, find-where_key, find-put}
use Rattle.std.proofs.lemmas.Bool.{false≢true}
use Rattle.keeper_core.specs.Rows.{Row, Rows, Entry, byte_order}
use Rattle.keeper_core.specs.Ends.{end_alone}
use Rattle.keeper_core.specs.Tree.{with_end, without}
use Rattle.keeper_core.proofs.Sorted.{Key, total, antisymmetric}

-- the rows of a list of entries that is in order
abbrev pub sorted_rows : List Entry → Rows
sorted_rows entries = from_sorted {R = byte_order} entries

pub holds : (b : Bool) → b ≡ true → T b
holds b e = subst T (sym e) tt

pub shown : (b : Bool) → T b → b ≡ true
shown true h = refl
shown false h = absurd h

pub entries-sorted_rows : (es : List Entry) → is_sorted byte_order es ≡ true → entries (sorted_rows es) ≡ es
entries-sorted_rows es sorted = entries-from_sorted byte_order es (holds _ sorted)

pub get-sorted_rows : (es : List Entry) (k : Key) → is_sorted byte_order es ≡ true → get (sorted_rows es) k ≡ find byte_order k es
get-sorted_rows es k sorted = get-from_sorted byte_order es k (holds _ sorted)

pub sorted_rows-empty : sorted_rows [] ≡ empty
sorted_rows-empty = same_map total antisymmetric _ _ (λ q. get-from_sorted byte_order [] q tt ∙ sym (Rattle.std.specs.FinMap.get-empty byte_order q))

pub sorted_put : (es : List Entry) (k : Key) (row : Row) → is_sorted byte_order es ≡ true → is_sorted byte_order (put byte_order k row es) ≡ true
sorted_put es k row sorted = shown _ (is_sorted-put byte_order total k row es (holds _ sorted))

pub sorted_without : (es : List Entry) (k : Key) → is_sorted byte_order es ≡ true → is_sorted byte_order (without k es) ≡ true
sorted_without es k sorted = shown _ (is_sorted-where_key byte_order (λ key. not (eq_by_cmp byte_order k key)) es (holds _ sorted))

-- a choice between two, and what a function gives of it
pub over_cond : {X Y : Type 0} (f : X → Y) (b : Bool) (x y : X) → cond b (f x) (f y) ≡ f (cond b x y)
over_cond f true x y = refl
over_cond f false x y = refl

switched : (b : Bool) (x y : Option Row) → cond (not b) x y ≡ cond b y x
switched true x y = refl
switched false x y = refl

pub find-without : (es : List Entry) (k q : Key) → find byte_order q (without k es) ≡ cond (eq_by_cmp byte_order q k) None (find byte_order q es)
find-without es k q =
    find-where_key byte_order (λ key. not (eq_by_cmp byte_order k key)) q (λ x t. ap (λ r. not (is_eq r)) (sym (alike_right total q x k t))) es
    ∙ switched (eq_by_cmp byte_order k q) _ _
    ∙ ap (λ b. cond b None (find byte_order q es)) ((eq_by_cmp_equiv total).symm k q)

pub sorted_rows-without : (es : List Entry) (k : Key) → is_sorted byte_order es ≡ true → sorted_rows (without k es) ≡ remove (sorted_rows es) k
sorted_rows-without es k sorted =
    same_map total antisymmetric _ _ (λ q.
    get-sorted_rows _ q (sorted_without es k sorted)
    ∙ find-without es k q
    ∙ sym (get-remove total (sorted_rows es) k q ∙ ap (λ found. cond (eq_by_cmp byte_order q k) None found) (get-sorted_rows es q sorted)))

-- without a key that has none
pub without-absent : (key : Key) (ends : List Entry) → is_some (find byte_order key ends) ≡ false → without key ends ≡ ends
without-absent key [] none = refl
without-absent key (x ∷ xs) none =
    elim (eq_by_cmp byte_order key x.0) as (λ b. is_some (cond b (Some x.1) (find byte_order key xs)) ≡ false → cond (not b) (x ∷ without key xs) (without key xs) ≡ x ∷ xs) [
      | true ↦ λ t. absurd (false≢true (sym t))
      | false ↦ λ t. ap (λ rest. x ∷ rest) (without-absent key xs t)
    ] none

-- with another end of a key
pub sorted-with_end : (es : List Entry) (key : Key) (until : ℕ) → is_sorted byte_order es ≡ true → is_sorted byte_order (with_end key until es) ≡ true
sorted-with_end es key until sorted = elim (until == 0) as (λ b. is_sorted byte_order (cond b (without key es) (put byte_order key (end_alone until) es)) ≡ true) [ true ↦ sorted_without es key sorted | false ↦ sorted_put es key (end_alone until) sorted ]

pub find-with_end : (es : List Entry) (key : Key) (until : ℕ) (q : Key) → find byte_order q (with_end key until es) ≡ cond (eq_by_cmp byte_order q key) (cond (until == 0) None (Some (end_alone until))) (find byte_order q es)
find-with_end es key until q = elim (until == 0) as (λ b. find byte_order q (cond b (without key es) (put byte_order key (end_alone until) es)) ≡ cond (eq_by_cmp byte_order q key) (cond b None (Some (end_alone until))) (find byte_order q es)) [ true ↦ find-without es key q | false ↦ find-put byte_order total q key (end_alone until) es ]
