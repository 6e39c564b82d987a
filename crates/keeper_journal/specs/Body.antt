-- How a commit is spelled, byte for byte. Numbers stand with their lowest byte first.
use Rattle.std.specs.Prelude.{◌≡◌, ℕ, ◌+◌, ◌<◌, ◌^◌, List, ◌∷◌, ◌++◌, length}
use Rattle.std.specs.List.{flat_map, AllByRecursion}
use Rattle.std.specs.Int.{w32, w64, to_le_bytes}
use Rattle.keeper_core.specs.declared.changes.Change.{Change}
use Rattle.keeper_core.specs.declared.changes.Change.TheVariants.{Put, Remove}
use Rattle.keeper_core.specs.declared.changes.Changes.{Changes}

-- four bytes of length, and that many bytes
abbrev pub sized : List ℕ → List ℕ
sized bytes = to_le_bytes w32 (length bytes) ++ bytes

-- a put is 1, its key, its version and its `until` in 8 bytes each, and its value; a removal is 2 and its key
abbrev pub spelled : Change → List ℕ
spelled (Put key value version until) = 1 ∷ (sized key ++ (to_le_bytes w64 version ++ (to_le_bytes w64 until ++ sized value)))
spelled (Remove key) = 2 ∷ sized key

-- `next` in 8 bytes, the number of changes in 4, and each change
abbrev pub body_of : Changes → List ℕ
body_of changes = to_le_bytes w64 changes.next ++ (to_le_bytes w32 (length changes.list) ++ flat_map spelled changes.list)

-- how long the body of these changes is
abbrev pub body_len : List Change → ℕ
body_len list = 12 + length (flat_map spelled list)

-- the numbers of a change fit their bytes
abbrev pub HasSpelling : Change → Type 0
HasSpelling (Put key value version until) = (length key < 2 ^ 32) × (version < 2 ^ 64) × (until < 2 ^ 64) × (length value < 2 ^ 32)
HasSpelling (Remove key) = length key < 2 ^ 32

-- the bytes are the body of these changes, whose numbers fit
pub record IsBodyOf (bytes : List ℕ) (changes : Changes) : Type 0 where
  pub spelling : bytes ≡ body_of changes
  pub next : changes.next < 2 ^ 64
  pub count : length changes.list < 2 ^ 32
  pub each : AllByRecursion HasSpelling changes.list
