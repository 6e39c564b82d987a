-- What the file of a journal says.
use Rattle.std.specs.Prelude.{◌≡◌, ◌≢◌, ◌<◌, ◌^◌, ℕ, List, [], ◌∷◌, ◌++◌, length, All, Option, Some, None}
use Rattle.std.specs.Int.{w64, to_le_bytes}
use Rattle.disk_journal.specs.OneMore.{WithDoubt}

-- the 16 bytes that each file begins with: SIDEJNL2, and 8 zeros
unfoldable pub header : List ℕ
header = 83 ∷ 73 ∷ 68 ∷ 69 ∷ 74 ∷ 78 ∷ 76 ∷ 50 ∷ 0 ∷ 0 ∷ 0 ∷ 0 ∷ 0 ∷ 0 ∷ 0 ∷ 0 ∷ []

-- what stands behind the gate of a record: the length of the body in eight bytes, the lowest first, and the body
abbrev pub content_of : List ℕ → List ℕ
content_of body = to_le_bytes w64 (length body) ++ body

-- the record of a body, whose gate is open
abbrev pub record_of : List ℕ → List ℕ
record_of body = 1 ∷ content_of body

abbrev pub records : List (List ℕ) → List ℕ
records [] = []
records (body ∷ bodies) = record_of body ++ records bodies

-- what stands before the closed gate
abbrev pub front : List (List ℕ) → List ℕ
front bodies = header ++ records bodies

-- the place of the closed gate
abbrev pub end_of : List (List ℕ) → ℕ
end_of bodies = length (front bodies)

-- eight bytes can tell each length
abbrev pub HaveLengths : List (List ℕ) → Type 0
HaveLengths bodies = All (λ body. length body < 2 ^ 64) bodies

-- a file of these bodies: their records, a gate that is not open, and then anything
pub record IsImage (bytes : List ℕ) (bodies : List (List ℕ)) : Type 0 where
  pub gate : ℕ
  pub behind : List ℕ
  pub shut : gate ≢ 1
  pub lengths : HaveLengths bodies
  pub bytes_are : bytes ≡ front bodies ++ gate ∷ behind

-- a file of these bodies, behind which a record of one more stands: with this gate, then a gate that is not open, and then anything
pub record IsRecorded (bytes : List ℕ) (bodies : List (List ℕ)) (gate : ℕ) (body : List ℕ) : Type 0 where
  pub next : ℕ
  pub behind : List ℕ
  pub shut : next ≢ 1
  pub lengths : HaveLengths bodies
  pub has_length : length body < 2 ^ 64
  pub bytes_are : bytes ≡ front bodies ++ (gate ∷ content_of body) ++ next ∷ behind

-- a file of these bodies, or of these and one more
abbrev pub IsWithOrWithout : List (List ℕ) → List ℕ → List ℕ → Type 0
IsWithOrWithout bodies body bytes = WithDoubt (IsImage bytes) bodies (Some body)

-- a file of these bodies; where one more is in doubt, a whole record of it stands behind them, and its gate may hold any byte
abbrev pub IsFile : List (List ℕ) → Option (List ℕ) → List ℕ → Type 0
IsFile bodies None bytes = IsImage bytes bodies
IsFile bodies (Some body) bytes = (gate : ℕ) × IsRecorded bytes bodies gate body
