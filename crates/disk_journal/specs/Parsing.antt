-- What stands at the place of a gate.
use Rattle.std.specs.Prelude.{◌≡◌, ◌≢◌, ◌⊎◌, ◌<◌, ◌≤◌, ◌-◌, ◌^◌, ℕ, List, ◌∷◌, ◌++◌, length}
use Rattle.disk_journal.specs.Image.{record_of}
use Rattle.disk_journal.specs.Refusal.{IsPart}
use Rattle.disk_journal.specs.declared.parsing.Found.{Found}
use Rattle.disk_journal.specs.declared.parsing.Found.TheVariants.{Closed, Cut, Record}

-- a gate that is not open
pub record IsClosed (bytes : List ℕ) : Type 0 where
  pub gate : ℕ
  pub behind : List ℕ
  pub shut : gate ≢ 1
  pub bytes_are : bytes ≡ gate ∷ behind

-- a whole record of a body, and this behind it
pub record BeginsWith (bytes body rest : List ℕ) : Type 0 where
  pub has_length : length body < 2 ^ 64
  pub bytes_are : bytes ≡ record_of body ++ rest

-- a whole record of a body that is so long
abbrev pub BeginsWithOf : List ℕ → ℕ → Type 0
BeginsWithOf bytes len = (body rest : List ℕ) × BeginsWith bytes body rest × (length body ≡ len)

abbrev pub IsFound : List ℕ → Found → Type 0
IsFound bytes Closed = IsClosed bytes
IsFound bytes Cut = IsPart bytes
IsFound bytes (Record body rest) = BeginsWith bytes body.now rest.now

-- a part of a record that begins with these bytes is shorter than this, where they are enough to tell the length; the greatest number is for what no number is
abbrev pub Suffices : List ℕ → ℕ → Type 0
Suffices bytes n = (more : List ℕ) → 9 ≤ length bytes → IsPart (bytes ++ more) → (length (bytes ++ more) < n) ⊎ (n ≡ 2 ^ 64 - 1)
