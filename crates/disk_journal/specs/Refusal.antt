-- Which bytes are no file of a journal, and at which place that shows.
use Rattle.std.specs.Prelude.{◌≡◌, ◌≢◌, ◌⊎◌, ◌<◌, ◌≤◌, ◌^◌, ℕ, List, ◌++◌, length, take, slice_index, []}
use Rattle.disk_journal.specs.Image.{header, record_of, front, end_of, HaveLengths}

-- there is no room for the header: the place is the length
pub record IsTooShort (bytes : List ℕ) (at : ℕ) : Type 0 where
  pub short : length bytes < 16
  pub ends : at ≡ length bytes

-- the header differs first at this place
pub record HasOtherHeader (bytes : List ℕ) (at : ℕ) : Type 0 where
  pub long : 16 ≤ length bytes
  pub within : at < 16
  pub same : take at bytes ≡ take at header
  pub differs : slice_index bytes at ≢ slice_index header at

-- the front of a record that lacks some of its bytes, perhaps all
pub record IsPart (bytes : List ℕ) : Type 0 where
  pub body : List ℕ
  pub missing : List ℕ
  pub some : missing ≢ []
  pub has_length : length body < 2 ^ 64
  pub whole : bytes ++ missing ≡ record_of body

-- behind the records of some bodies the file ends at a part of one more, or where a gate should stand
pub record IsCutShort (bytes : List ℕ) (at : ℕ) : Type 0 where
  pub bodies : List (List ℕ)
  pub rest : List ℕ
  pub lengths : HaveLengths bodies
  pub bytes_are : bytes ≡ front bodies ++ rest
  pub part : IsPart rest
  pub ends : at ≡ end_of bodies

abbrev pub IsNoJournal : List ℕ → ℕ → Type 0
IsNoJournal bytes at = IsTooShort bytes at ⊎ HasOtherHeader bytes at ⊎ IsCutShort bytes at
