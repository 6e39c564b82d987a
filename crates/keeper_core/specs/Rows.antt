-- Rows by their keys, in byte order, and which of them are live at a moment.
use Rattle.std.specs.Prelude.{ℕ, ◌+◌, ◌<◌, ◌≤◌, ◌^◌, Bool, true, not, ◌==◌, ◌||◌, nat_lt, slice_get, List, length, map, Option, Some, None, refl}
use Rattle.std.specs.List.{filter, sum_by, All}
use Rattle.std.specs.Coded.{Coded, code_by, coded×, coded_ℕ, coded_list}
use Rattle.std.specs.FinMap.{FinMap, get, entries}
use Rattle.std.specs.Cmp.Lexicographic.{slice_cmp}
use Rattle.std.specs.Ordering.{nat_cmp, is_lt}
use Rattle.std.specs.declared.cmp.Ordering.{Ordering}
use Rattle.keeper_core.specs.declared.row.RowView.{RowView}

-- a value with the number of its write, and the moment from which on it isn't live; 0 is never
pub record Row : Type 0 where
  pub value : List ℕ
  pub version : ℕ
  pub until : ℕ

-- a row is stored as the triple of its fields
abbrev pub row_code : Coded Row
row_code = code_by (List ℕ × (ℕ × ℕ)) (coded× (coded_list coded_ℕ) (coded× coded_ℕ coded_ℕ)) (λ row. (row.value, (row.version, row.until))) (λ p. record { value = p.0; version = p.1.0; until = p.1.1 }) (λ _. refl)

-- the order of keys: byte by byte, and a front before what it begins
abbrev pub byte_order : List ℕ → List ℕ → Ordering
byte_order = slice_cmp nat_cmp

-- rows by their keys
abbrev pub Rows : Type 0
Rows = FinMap byte_order Row

-- a key with its row
abbrev pub Entry : Type 0
Entry = List ℕ × Row

-- what a key has
abbrev pub row_at : Rows → List ℕ → Option Row
row_at rows key = get rows key

-- a row is live at a moment
abbrev pub is_live : ℕ → Row → Bool
is_live moment row = (row.until == 0) || nat_lt moment row.until

-- of these entries, the keys whose rows are not live at a moment, in order
abbrev pub lapsed_in : ℕ → List Entry → List (List ℕ)
lapsed_in moment entries = map (λ entry. entry.0) (filter (λ entry. not (is_live moment entry.1)) entries)

-- the keys of the rows that are not live at a moment, in byte order
abbrev pub lapsed : Rows → ℕ → List (List ℕ)
lapsed rows moment = lapsed_in moment (entries rows)

-- a key stands behind another, where there is one
abbrev pub is_behind : Option (List ℕ) → List ℕ → Bool
is_behind None key = true
is_behind (Some other) key = is_lt (byte_order other key)

-- the first of those keys behind another
abbrev pub next_lapsed : Rows → Option (List ℕ) → ℕ → Option (List ℕ)
next_lapsed rows after moment = slice_get (filter (is_behind after) (lapsed rows moment)) 0

-- what a row takes in memory: its key, its value and 8 bytes
abbrev pub entry_bytes : Entry → ℕ
entry_bytes entry = length entry.0 + length entry.1.value + 8

-- what rows take in memory
abbrev pub bytes_in : Rows → ℕ
bytes_in rows = sum_by entry_bytes (entries rows)

-- what is lent of a row
abbrev pub seen : Option RowView → Option Row
seen None = None
seen (Some view) = Some (record { value = view.value.now; version = view.version; until = view.until })

-- `next` is from 1 to 2^62, and above every version
pub record IsCounted (rows : Rows) (next : ℕ) : Type 0 where
  pub least : 1 ≤ next
  pub most : next ≤ 2 ^ 62
  pub above : All (λ entry. entry.1.version < next) (entries rows)
