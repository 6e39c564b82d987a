-- What rows take, after one change of them.
use Rattle.std.proofs.Common.{◌≡◌, ℕ, ◌+◌, true, cond, not, List, [], ◌∷◌, length, Some, refl, sym, ap, ◌∙◌, arith}
use Rattle.std.specs.List.{sum_by}
use Rattle.std.specs.Ordering.{is_eq}
use Rattle.std.specs.declared.cmp.Ordering.TheVariants.{Less, Equal, Greater}
use Rattle.std.specs.FinMap.{find, put, is_sorted, insert, remove, entries, entries_sorted, same_entries_map, get-entries, entries-insert}
use Rattle.std.specs.FinMap.Entries.{by_order, below_all}
use Rattle.std.proofs.lemmas.Bool.{and_parts}
use Rattle.std.proofs.lemmas.List.Sums.{sum_by-cons}
use Rattle.keeper_core.specs.Rows.{Row, Rows, Entry, byte_order, entry_bytes, bytes_in}
use Rattle.keeper_core.specs.Growth.{found_bytes, bytes_at}
use Rattle.keeper_core.specs.Tree.{without}
use Rattle.keeper_core.proofs.Sorted.{Key, total, antisymmetric, below_each, under_each, tied_each}
use Rattle.keeper_core.proofs.Found.{find_under}
use Rattle.keeper_core.proofs.Table.{sorted_rows, shown, entries-sorted_rows, sorted_rows-without, sorted_without}

-- what entries take, counted from the front
abbrev bytes_of : List Entry → ℕ
bytes_of [] = 0
bytes_of (x ∷ xs) = entry_bytes x + bytes_of xs

sum_by-entry_bytes : (xs : List Entry) → sum_by entry_bytes xs ≡ bytes_of xs
sum_by-entry_bytes [] = refl
sum_by-entry_bytes (x ∷ xs) = sum_by-cons entry_bytes x xs ∙ ap (λ n. entry_bytes x + n) (sum_by-entry_bytes xs)

bytes_of-put : (k : Key) (row : Row) (xs : List Entry) → is_sorted byte_order xs ≡ true → bytes_of (put byte_order k row xs) + found_bytes k (find byte_order k xs) ≡ bytes_of xs + entry_bytes (k, row)
bytes_of-put k row [] sorted = omega arith
bytes_of-put k row (x ∷ xs) sorted =
    let parts = and_parts _ _ sorted in
    elim (byte_order k x.0) as (λ o. byte_order k x.0 ≡ o → bytes_of (by_order o ((k, row) ∷ x ∷ xs) ((x.0, row) ∷ xs) (x ∷ put byte_order k row xs)) + found_bytes k (cond (is_eq o) (Some x.1) (find byte_order k xs)) ≡ entry_bytes x + bytes_of xs + entry_bytes (k, row)) [
      | Less ↦ λ e. rw (find_under k xs (under_each k x.0 xs e (below_each x.0 xs parts.0))) (omega arith)
      | Equal ↦ λ e. omega arith
      | Greater ↦ λ e. omega (arith, bytes_of-put k row xs parts.1)
    ] refl

bytes_of-without : (k : Key) (xs : List Entry) → is_sorted byte_order xs ≡ true → bytes_of (without k xs) + found_bytes k (find byte_order k xs) ≡ bytes_of xs
bytes_of-without k [] sorted = refl
bytes_of-without k (x ∷ xs) sorted =
    let parts : (below_all byte_order x.0 xs ≡ true) × (is_sorted byte_order xs ≡ true) = and_parts _ _ sorted in
    elim (byte_order k x.0) as (λ o. byte_order k x.0 ≡ o → bytes_of (cond (not (is_eq o)) (x ∷ without k xs) (without k xs)) + found_bytes k (cond (is_eq o) (Some x.1) (find byte_order k xs)) ≡ entry_bytes x + bytes_of xs) [
      | Less ↦ λ e. omega (arith, bytes_of-without k xs parts.1)
      | Equal ↦ λ e.
          let none = find_under k xs (tied_each Less k x.0 xs e (below_each x.0 xs parts.0)) in
          omega (arith, rw none at (bytes_of-without k xs parts.1), ap length (antisymmetric k x.0 e))
      | Greater ↦ λ e. omega (arith, bytes_of-without k xs parts.1)
    ] refl

in_order : (rows : Rows) → is_sorted byte_order (entries rows) ≡ true
in_order rows = shown _ (entries_sorted rows)

pub entries-remove : (rows : Rows) (k : Key) → entries (remove rows k) ≡ without k (entries rows)
entries-remove rows k =
    let same : sorted_rows (entries rows) ≡ rows = same_entries_map _ _ (entries-sorted_rows _ (in_order rows)) in
    ap (λ m. entries (remove m k)) (sym same) ∙ ap entries (sym (sorted_rows-without (entries rows) k (in_order rows))) ∙ entries-sorted_rows _ (sorted_without _ k (in_order rows))

pub bytes_in-insert : (rows : Rows) (k : Key) (row : Row) → bytes_in (insert rows k row) + bytes_at rows k ≡ bytes_in rows + entry_bytes (k, row)
bytes_in-insert rows k row =
    let new : bytes_in (insert rows k row) ≡ bytes_of (put byte_order k row (entries rows)) = ap (sum_by entry_bytes) (entries-insert total rows k row) ∙ sum_by-entry_bytes _ in
    let found : bytes_at rows k ≡ found_bytes k (find byte_order k (entries rows)) = ap (found_bytes k) (get-entries rows k) in
    rw (new, found, sum_by-entry_bytes (entries rows)) (bytes_of-put k row (entries rows) (in_order rows))

pub bytes_in-remove : (rows : Rows) (k : Key) → bytes_in (remove rows k) + bytes_at rows k ≡ bytes_in rows
bytes_in-remove rows k =
    let new : bytes_in (remove rows k) ≡ bytes_of (without k (entries rows)) = ap (sum_by entry_bytes) (entries-remove rows k) ∙ sum_by-entry_bytes _ in
    let found : bytes_at rows k ≡ found_bytes k (find byte_order k (entries rows)) = ap (found_bytes k) (get-entries rows k) in
    rw (new, found, sum_by-entry_bytes (entries rows)) (bytes_of-without k (entries rows) (in_order rows))
