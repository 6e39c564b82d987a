-- What stands under names, in byte order of the names.
use Rattle.std.specs.Prelude.{ℕ, List, bytes_eq, Option}
use Rattle.std.specs.List.{IsDistinct}
use Rattle.std.specs.List.Sorted.{IsStrictlySortedBy}
use Rattle.std.specs.Map.{lookup, keys_of}
use Rattle.std.specs.BTreeMap.{insert_entry}
use Rattle.std.specs.Cmp.Lexicographic.{slice_cmp}
use Rattle.std.specs.Ordering.{nat_cmp}

-- what stands under this name
abbrev pub under : {V : Type 0} → List ℕ → List (List ℕ × V) → Option V
under name table = lookup (λ (other : List ℕ). bytes_eq name other) table

-- the table in which this stands under a name, in place of what stood there
abbrev pub put_under : {V : Type 0} → List (List ℕ × V) → List ℕ → V → List (List ℕ × V)
put_under table name value = insert_entry (slice_cmp nat_cmp) table name value

-- names stand in byte order, each below those behind it, so that none stands twice
pub record AreNames {V : Type 0} (table : List (List ℕ × V)) : Type 0 where
  pub rise : IsStrictlySortedBy (slice_cmp nat_cmp) (keys_of table)
  pub differ : IsDistinct bytes_eq (keys_of table)
