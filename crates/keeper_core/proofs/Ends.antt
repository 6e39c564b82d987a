-- The ends of rows: what a change leaves of them, and which of them have lapsed.
use Rattle.std.proofs.Common.{◌≡◌, ℕ, true, false, cond, List, [], ◌∷◌, map, Some, None, refl, sym, ap, ◌∙◌}
use Rattle.std.specs.Prelude.{◌&&◌}
use Rattle.std.specs.Ordering.{is_lt, eq_by_cmp}
use Rattle.std.specs.FinMap.{find, is_sorted, insert, remove, empty, get-empty, entries, entries_sorted, get-entries, get-insert, get-remove}
use Rattle.std.specs.FinMap.Entries.{below_all}
use Rattle.keeper_core.specs.Rows.{Row, Rows, Entry, byte_order, row_at, lapsed_in, lapsed}
use Rattle.keeper_core.specs.Ends.{end_alone, end_of}
use Rattle.keeper_core.specs.Table.{Keeps}
use Rattle.keeper_core.specs.Tree.{with_end, without}
use Rattle.keeper_core.proofs.Sorted.{Key, total}
use Rattle.keeper_core.proofs.Ending.{ending, ending_row, sorted-ending, find-ending, same, lapsed_one, lapsed-ending}
use Rattle.keeper_core.proofs.Table.{shown, over_cond, find-without, sorted_without, sorted-with_end, find-with_end}

-- after a put
pub ends-with : (rows : Rows) (ends : List Entry) (key : Key) (row : Row) → Keeps rows ends → Keeps (insert rows key row) (with_end key row.until ends)
ends-with rows ends key row keeps = record {
  sorted = sorted-with_end ends key row.until keeps.sorted;
  has_ends = λ q.
      find-with_end ends key row.until q
      ∙ ap (cond (eq_by_cmp byte_order q key) (end_of (Some row))) (keeps.has_ends q)
      ∙ over_cond end_of (eq_by_cmp byte_order q key) (Some row) (row_at rows q)
      ∙ ap end_of (sym (get-insert total rows key row q));
}

-- after a removal
pub ends-remove : (rows : Rows) (ends : List Entry) (key : Key) → Keeps rows ends → Keeps (remove rows key) (without key ends)
ends-remove rows ends key keeps = record {
  sorted = sorted_without ends key keeps.sorted;
  has_ends = λ q.
      find-without ends key q
      ∙ ap (cond (eq_by_cmp byte_order q key) None) (keeps.has_ends q)
      ∙ over_cond end_of (eq_by_cmp byte_order q key) None (row_at rows q)
      ∙ ap end_of (sym (get-remove total rows key q));
}

-- of no row
pub ends-empty : Keeps empty []
ends-empty = record { sorted = refl; has_ends = λ q. ap end_of (sym (get-empty byte_order q)) }

-- rows of which the ends alone are kept, also where there is none

abbrev bare : List Entry → List Entry
bare xs = map (λ entry. (entry.0, end_alone entry.1.until)) xs

below-bare : (k : Key) (xs : List Entry) → below_all byte_order k (bare xs) ≡ below_all byte_order k xs
below-bare k [] = refl
below-bare k (x ∷ xs) = ap (λ b. is_lt (byte_order k x.0) && b) (below-bare k xs)

sorted-bare : (xs : List Entry) → is_sorted byte_order (bare xs) ≡ is_sorted byte_order xs
sorted-bare [] = refl
sorted-bare (x ∷ xs) = λ i. below-bare x.0 xs i && sorted-bare xs i

find-bare : (k : Key) (xs : List Entry) → ending_row (find byte_order k (bare xs)) ≡ end_of (find byte_order k xs)
find-bare k [] = refl
find-bare k (x ∷ xs) = elim (eq_by_cmp byte_order k x.0) as (λ b. ending_row (cond b (Some (end_alone x.1.until)) (find byte_order k (bare xs))) ≡ end_of (cond b (Some x.1) (find byte_order k xs))) [ true ↦ refl | false ↦ find-bare k xs ]

lapsed-bare : (moment : ℕ) (xs : List Entry) → lapsed_in moment (bare xs) ≡ lapsed_in moment xs
lapsed-bare moment [] = refl
lapsed-bare moment (x ∷ xs) = lapsed_one moment x.0 (end_alone x.1.until) x.1 (bare xs) xs refl (lapsed-bare moment xs)

-- the ends are those of the rows in order
ends_are : (rows : Rows) (ends : List Entry) → Keeps rows ends → ends ≡ ending (bare (entries rows))
ends_are rows ends keeps =
    let sorted : is_sorted byte_order (bare (entries rows)) ≡ true = sorted-bare (entries rows) ∙ shown _ (entries_sorted rows) in
    same ends (ending (bare (entries rows))) keeps.sorted (sorted-ending (bare (entries rows)) sorted) (λ q.
    keeps.has_ends q ∙ ap end_of (get-entries rows q) ∙ sym (find-ending q (bare (entries rows)) sorted ∙ find-bare q (entries rows)))

-- the lapsed keys are those of the ends
pub lapsed_ends : (rows : Rows) (ends : List Entry) (moment : ℕ) → Keeps rows ends → lapsed_in moment ends ≡ lapsed rows moment
lapsed_ends rows ends moment keeps = ap (lapsed_in moment) (ends_are rows ends keeps) ∙ lapsed-ending moment (bare (entries rows)) ∙ lapsed-bare moment (entries rows)
