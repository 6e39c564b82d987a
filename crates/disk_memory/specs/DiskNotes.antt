-- What the notes of a disk in memory, the latest first, say of each moment.
use Rattle.std.specs.Prelude.{◌≡◌, ◌⊎◌, ◌≤◌, ℕ, List, [], ◌∷◌, ◌++◌, length, Option, Some, None}
use Rattle.std.proofs.Common.{inl, inr, ap, sym}
use Rattle.std.proofs.Math.Nat.{not-suc-le_self}
use Rattle.side_world.specs.Disk.{overwritten, Torn}
use Rattle.disk_memory.specs.declared.note.Note.{Note}
use Rattle.disk_memory.specs.declared.note.Note.TheVariants.{Written, Lost, Synced}

-- what a read gives after these
abbrev pub held : List ℕ → List Note → List ℕ
held opening [] = opening
held opening (Written at piece ∷ earlier) = overwritten at piece (held opening earlier)
held opening (Lost at piece ∷ earlier) = held opening earlier
held opening (Synced ∷ earlier) = held opening earlier

-- what the writes since the last sync leave, each of them torn
abbrev pub AllTorn : List ℕ → List Note → List ℕ → Type 0
AllTorn opening [] c = c ≡ opening
AllTorn opening (Written at piece ∷ earlier) c = (d : List ℕ) × AllTorn opening earlier d × Torn at (length piece) d c
AllTorn opening (Lost at piece ∷ earlier) c = (d : List ℕ) × AllTorn opening earlier d × Torn at (length piece) d c
AllTorn opening (Synced ∷ earlier) c = c ≡ held opening earlier

-- what a crash after these, or inside the latest, may leave
abbrev pub MayLeave : List ℕ → List Note → List ℕ → Type 0
MayLeave opening notes c = (c ≡ held opening notes) ⊎ AllTorn opening notes c

-- what a crash after the first t of these, or later, may have left
abbrev pub MayHaveLeft : List ℕ → List Note → ℕ → List ℕ → Type 0
MayHaveLeft opening [] t c = MayLeave opening [] c
MayHaveLeft opening (note ∷ earlier) t c = MayLeave opening (note ∷ earlier) c ⊎ ((t ≤ length earlier) × MayHaveLeft opening earlier t c)

-- each write begins within what a read gave before it
abbrev pub Fit : List ℕ → List Note → Type 0
Fit opening notes = (later earlier : List Note) (at : ℕ) (piece : List ℕ) → notes ≡ later ++ Written at piece ∷ earlier → at ≤ length (held opening earlier)

-- a note after which a read gives what it gave
abbrev pub ChangesNoByte : Note → Type 0
ChangesNoByte (Written at piece) = ⊥
ChangesNoByte (Lost at piece) = Unit {0}
ChangesNoByte Synced = Unit {0}

length_of : Option (List ℕ) → ℕ
length_of None = 0
length_of (Some bytes) = length bytes

pub same_length : {a b : List ℕ} → Some a ≡ Some b → length a ≡ length b
unfolding length_of
same_length told = ap length_of told

bytes_of : Option (List ℕ) → List ℕ
bytes_of None = []
bytes_of (Some bytes) = bytes

pub same_bytes : {a b : List ℕ} → Some a ≡ Some b → b ≡ a
unfolding bytes_of
same_bytes told = sym (ap bytes_of told)

pub counts_now : (opening : List ℕ) (notes : List Note) (t : ℕ) (c : List ℕ) → MayLeave opening notes c → MayHaveLeft opening notes t c
counts_now opening [] t c left = left
counts_now opening (note ∷ earlier) t c left = inl left

pub only_now : (opening : List ℕ) (notes : List Note) (c : List ℕ) → MayHaveLeft opening notes (length notes) c → MayLeave opening notes c
only_now opening [] c left = left
only_now opening (note ∷ earlier) c (inl left) = left
only_now opening (note ∷ earlier) c (inr before) = absurd (not-suc-le_self (length earlier) before.0)
