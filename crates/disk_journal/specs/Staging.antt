-- What the calls of an append have done so far.
use Rattle.std.specs.Prelude.{◌≡◌, ◌≢◌, ℕ, List, ◌∷◌, ◌++◌, Some}
use Rattle.side_world.specs.declared.disk.Disk.{Ghosts}
use Rattle.disk_journal.specs.Image.{front, HaveLengths, IsImage, IsFile}
use Rattle.disk_journal.specs.Moments.{Reads, Leaves, Shows, AtEachMoment}

-- a file of these bodies, and this behind its closed gate
pub record IsBegun (bytes : List ℕ) (bodies : List (List ℕ)) (begun : List ℕ) : Type 0 where
  pub gate : ℕ
  pub behind : List ℕ
  pub shut : gate ≢ 1
  pub lengths : HaveLengths bodies
  pub bytes_are : bytes ≡ (front bodies ++ gate ∷ begun) ++ behind

-- calls since `old` have written this behind the closed gate, and a crash at each moment of them leaves the bodies
pub record HasBegun {D : Type 0} (disking : Ghosts D) (old new : D) (bodies : List (List ℕ)) (begun : List ℕ) : Type 0 where
  pub read : Reads disking new (λ bytes. IsBegun bytes bodies begun)
  pub left : Leaves disking new (λ bytes. IsImage bytes bodies)
  pub moments : AtEachMoment disking old new (λ bytes. IsImage bytes bodies)

-- calls since `old` have left the gate of a whole record in doubt, at each moment of them
pub record IsInDoubt {D : Type 0} (disking : Ghosts D) (old new : D) (bodies : List (List ℕ)) (body : List ℕ) : Type 0 where
  pub shows : Shows disking new (IsFile bodies (Some body))
  pub moments : AtEachMoment disking old new (IsFile bodies (Some body))
