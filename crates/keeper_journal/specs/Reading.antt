-- Reading a body from left to right. A reader gives a value and the bytes behind it, or nothing.
use Rattle.std.specs.Prelude.{◌≡◌, ℕ, zero, suc, List, [], ◌∷◌, length, take, drop, Option, Some, None, Result, Ok, Err, nat_lt, ◌==◌, if◌then◌else◌}
use Rattle.std.specs.Int.{Width, w32, w64, byte_len, from_le_bytes}
use Rattle.keeper_core.specs.declared.changes.Change.{Change}
use Rattle.keeper_core.specs.declared.changes.Change.TheVariants.{Put, Remove}
use Rattle.keeper_core.specs.declared.changes.Changes.{Changes}
use Rattle.keeper_journal.specs.declared.decoding.BodyErr.{BodyErr}
use Rattle.keeper_journal.specs.declared.decoding.BodyErr.TheVariants.{NotABody, NoMemory}

infixl 10 ◌>>=◌
abbrev pub ◌>>=◌ : {A B : Type 0} → Option A → (A → Option B) → Option B
(Some x) >>= f = f x
None >>= f = None

-- an error says that reading gives nothing, or that memory ran out
abbrev pub Misses : {Y : Type 0} → BodyErr → Option Y → Type 0
Misses NotABody read = read ≡ None
Misses NoMemory read = Unit {0}

-- what a function returned, seen by `view`, is what reading gives, unless memory ran out
abbrev pub Gives : {X Y : Type 0} → (X → Y) → Result X BodyErr → Option Y → Type 0
Gives view (Ok x) read = read ≡ Some (view x)
Gives view (Err e) read = Misses e read

abbrev pub number_at : Width → List ℕ → Option (ℕ × List ℕ)
number_at w bytes = if nat_lt (length bytes) (byte_len w) then None else Some (from_le_bytes w (take (byte_len w) bytes), drop (byte_len w) bytes)

unfoldable pub sized_at : List ℕ → Option (List ℕ × List ℕ)
sized_at bytes = do
  n ← number_at w32 bytes
  if nat_lt (length n.1) n.0 then None else Some (take n.0 n.1, drop n.0 n.1)

unfoldable pub put_at : List ℕ → Option (Change × List ℕ)
put_at bytes = do
  key ← sized_at bytes
  version ← number_at w64 key.1
  until ← number_at w64 version.1
  value ← sized_at until.1
  Some (Put key.0 value.0 version.0 until.0, value.1)

unfoldable pub remove_at : List ℕ → Option (Change × List ℕ)
remove_at bytes = do
  key ← sized_at bytes
  Some (Remove key.0, key.1)

unfoldable pub change_at : List ℕ → Option (Change × List ℕ)
change_at [] = None
change_at (zero ∷ rest) = None
change_at (suc zero ∷ rest) = put_at rest
change_at (suc (suc zero) ∷ rest) = remove_at rest
change_at (suc (suc (suc b)) ∷ rest) = None

unfoldable pub changes_at : ℕ → List ℕ → Option (List Change × List ℕ)
changes_at zero bytes = Some ([], bytes)
changes_at (suc n) bytes = do
  first ← change_at bytes
  others ← changes_at n first.1
  Some (first.0 ∷ others.0, others.1)

-- all of the bytes
unfoldable pub body_at : List ℕ → Option Changes
body_at bytes = do
  next ← number_at w64 bytes
  count ← number_at w32 next.1
  changes ← changes_at count.0 count.1
  if length changes.1 == 0 then Some (record { list = changes.0; next = next.0 }) else None
