-- Versions stay below the next one.
use Rattle.std.proofs.Common.{◌≡◌, ℕ, ◌<◌, ◌≤◌, ◌^◌, true, false, cond, not, List, [], ◌∷◌, refl, sym, ap, ◌∙◌, subst, arith}
use Rattle.std.specs.List.{All, AllByRecursion, filter}
use Rattle.std.specs.Ordering.{eq_by_cmp}
use Rattle.std.specs.declared.cmp.Ordering.TheVariants.{Less, Equal, Greater}
use Rattle.std.specs.FinMap.{put, insert, remove, entries, entries-insert, empty}
use Rattle.std.specs.FinMap.Entries.{by_order}
use Rattle.std.proofs.lemmas.List.Elements.{recursion_from_All, All-from_recursion}
use Rattle.keeper_core.specs.Rows.{Row, Rows, Entry, byte_order, IsCounted, bytes_in}
use Rattle.keeper_core.specs.Tree.{without}
use Rattle.keeper_core.specs.Changes.{after_change, after_changes, IsBelow, VersionsAreBelow}
use Rattle.keeper_core.specs.declared.changes.Change.{Change}
use Rattle.keeper_core.specs.declared.changes.Change.TheVariants.{Put, Remove}
use Rattle.keeper_core.proofs.Sorted.{Key, total}
use Rattle.keeper_core.proofs.Sizes.{entries-remove}
use Rattle.keeper_core.proofs.Table.{entries-sorted_rows, sorted_rows-empty}

-- each version is below this number
abbrev Below : ℕ → Entry → Type 0
Below next entry = entry.1.version < next

AllBelow : ℕ → List Entry → Type 0
AllBelow next xs = AllByRecursion (Below next) xs

below-put : (next : ℕ) (k : Key) (row : Row) (xs : List Entry) → row.version < next → AllBelow next xs → AllBelow next (put byte_order k row xs)
unfolding AllBelow
below-put next k row [] p a = (p, tt)
below-put next k row (x ∷ xs) p a =
    elim (byte_order k x.0) as (λ o. AllBelow next (by_order o ((k, row) ∷ x ∷ xs) ((x.0, row) ∷ xs) (x ∷ put byte_order k row xs))) [
      | Less ↦ (p, a)
      | Equal ↦ (p, a.1)
      | Greater ↦ (a.0, below-put next k row xs p a.1)
    ]

below-without : (next : ℕ) (k : Key) (xs : List Entry) → AllBelow next xs → AllBelow next (without k xs)
unfolding AllBelow
below-without next k [] a = tt
below-without next k (x ∷ xs) a =
    elim (eq_by_cmp byte_order k x.0) as (λ b. AllBelow next (cond (not b) (x ∷ without k xs) (without k xs))) [
      | true ↦ below-without next k xs a.1
      | false ↦ (a.0, below-without next k xs a.1)
    ]

below-rising : (next later : ℕ) (xs : List Entry) → next ≤ later → AllBelow next xs → AllBelow later xs
unfolding AllBelow
below-rising next later [] h a = tt
below-rising next later (x ∷ xs) h a = (omega (arith, a.0), below-rising next later xs h a.1)

below-after_change : (next : ℕ) (rows : Rows) (change : Change) → IsBelow next change → AllBelow next (entries rows) → AllBelow next (entries (after_change rows change))
below-after_change next rows (Put key value version until) p a = rw (entries-insert total rows key (record { value = value; version = version; until = until })) (below-put next key _ (entries rows) p a)
below-after_change next rows (Remove key) p a = rw (entries-remove rows key) (below-without next key (entries rows) a)

below-after_changes : (next : ℕ) (rows : Rows) (changes : List Change) → AllByRecursion (IsBelow next) changes → AllBelow next (entries rows) → AllBelow next (entries (after_changes rows changes))
below-after_changes next rows [] p a = a
below-after_changes next rows (change ∷ changes) p a = below-after_changes next (after_change rows change) changes p.1 (below-after_change next rows change p.0 a)

pub counted-after_changes : (next later : ℕ) (rows : Rows) (changes : List Change) → IsCounted rows next → next ≤ later → later ≤ 2 ^ 62 → VersionsAreBelow later changes → IsCounted (after_changes rows changes) later
unfolding AllBelow
counted-after_changes next later rows changes counted grows most below =
    let before = below-rising next later (entries rows) grows (recursion_from_All (Below next) (entries rows) counted.above) in
    record {
      least = omega (arith, counted.least);
      most = most;
      above = All-from_recursion (Below later) (entries (after_changes rows changes)) (below-after_changes later rows changes (recursion_from_All (IsBelow later) changes below) before);
    }

entries-empty : entries {X = Row} {R = byte_order} empty ≡ []
entries-empty = ap entries (sym sorted_rows-empty) ∙ entries-sorted_rows [] refl

pub counted-empty : (rows : Rows) → rows ≡ empty → IsCounted rows 1
counted-empty rows is = record {
  least = omega arith;
  most = omega arith;
  above = subst (λ es. All (Below 1) es) (sym (ap entries is ∙ entries-empty)) (All-from_recursion (Below 1) [] tt);
}

pub bytes_in-empty : (rows : Rows) → rows ≡ empty → bytes_in rows ≡ 0
bytes_in-empty rows is = ap bytes_in is ∙ ap (Rattle.std.specs.List.sum_by Rattle.keeper_core.specs.Rows.entry_bytes) entries-empty
