-- What a table of rows shows, and how it keeps the rows.
use Rattle.std.specs.Prelude.{ℕ, List, [], ◌∷◌, Vec, IsTrue, refl}
use Rattle.std.specs.Coded.{Coded, code_by, coded×, coded_ℕ, coded_list}
use Rattle.std.specs.FinMap.{code, empty, insert, is_sorted}
use Rattle.std.specs.Hash.DefaultHasher.{initial, write}
use Rattle.std.specs.declared.alloc.Global.{Global}
use Rattle.std.specs.declared.hash.DefaultHasher.{DefaultHasher}
use Rattle.keeper_core.specs.Rows.{Row, Rows, Entry, row_code, byte_order}
use Rattle.keeper_core.specs.Ends.{HasEnds}
use Rattle.keeper_core.specs.declared.prepared.StoredRow.{StoredRow}

-- rows by their keys, for how many further keys there is room, and the hasher that each key is fed to
pub record Table : Type 0 where
  pub rows : Rows
  pub room : ℕ
  pub hasher : DefaultHasher

-- a hasher is stored as its six numbers
abbrev pub hasher_code : Coded DefaultHasher
hasher_code =
    code_by (ℕ × (ℕ × (ℕ × (ℕ × (ℕ × ℕ))))) (coded× coded_ℕ (coded× coded_ℕ (coded× coded_ℕ (coded× coded_ℕ (coded× coded_ℕ coded_ℕ))))) (λ h. (h.v0, (h.v1, (h.v2, (h.v3, (h.tail, h.length))))))
    (λ p. record { v0 = p.0; v1 = p.1.0; v2 = p.1.1.0; v3 = p.1.1.1.0; tail = p.1.1.1.1.0; length = p.1.1.1.1.1 }) (λ _. refl)

-- a table is stored as its fields
abbrev pub table_code : Coded Table
table_code =
    code_by (Rows × (ℕ × DefaultHasher)) (coded× (code (coded_list coded_ℕ) row_code) (coded× coded_ℕ hasher_code)) (λ table. (table.rows, (table.room, table.hasher)))
    (λ p. record { rows = p.0; room = p.1.0; hasher = p.1.1 }) (λ _. refl)

-- std's hasher, once it was fed secret bytes
abbrev pub fed : List ℕ → DefaultHasher
fed secret = write initial secret

-- the row that is stored
abbrev pub row_of : StoredRow → Row
row_of stored = record { value = stored.value; version = stored.version; until = stored.until }

-- the rows of these entries; of two entries of one key the first counts
abbrev pub rows_of : List (Vec ℕ Global × StoredRow) → Rows
rows_of [] = empty
rows_of (entry ∷ entries) = insert (rows_of entries) entry.0.items (row_of entry.1)

-- the ends are in order, and those of the rows
pub record Keeps (rows : Rows) (ends : List Entry) : Type 0 where
  pub sorted : IsTrue (is_sorted byte_order ends)
  pub has_ends : HasEnds rows ends
