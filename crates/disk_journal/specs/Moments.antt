-- What calls do to a disk, where it tells its contents, and what a crash leaves at each moment of them.
use Rattle.std.specs.Prelude.{◌≡◌, ◌⊎◌, ◌≤◌, ℕ, List, Some}
use Rattle.side_world.specs.Disk.{NoNew}
use Rattle.side_world.specs.declared.disk.Disk.{Ghosts}

-- what a read gives is so, where it is told
abbrev pub Reads : {D : Type 0} → Ghosts D → D → (List ℕ → Type 0) → Type 0
Reads disking disk P = (bytes : List ℕ) → disking.contents disk ≡ Some bytes → P bytes

-- all that a crash now may leave is so, where it is told what a read gives
abbrev pub Leaves : {D : Type 0} → Ghosts D → D → (List ℕ → Type 0) → Type 0
Leaves disking disk P = (bytes c : List ℕ) → disking.contents disk ≡ Some bytes → disking.leaves disk c → P c

-- both
pub record Shows {D : Type 0} (disking : Ghosts D) (disk : D) (P : List ℕ → Type 0) : Type 0 where
  pub read : Reads disking disk P
  pub left : Leaves disking disk P

-- Calls have led from one state of a disk to another. Where it tells what a read gives it goes on to tell it, and all that a crash at
-- some moment of these calls, or after them, may have left is so.
pub record AtEachMoment {D : Type 0} (disking : Ghosts D) (old new : D) (P : List ℕ → Type 0) : Type 0 where
  pub later : disking.moment old ≤ disking.moment new
  pub told : (bytes : List ℕ) → disking.contents old ≡ Some bytes → (now : List ℕ) × (disking.contents new ≡ Some now)
  pub since : (bytes c : List ℕ) → disking.contents old ≡ Some bytes → disking.left_since new (disking.moment old) c → P c
  -- for calls that began earlier
  pub before : (bytes : List ℕ) → disking.contents old ≡ Some bytes → (t : ℕ) (c : List ℕ) → t ≤ disking.moment old → disking.left_since new t c → disking.left_since old t c ⊎ P c

-- Calls have led from one state of a disk to another and changed nothing: at no moment of them might a crash have left what it might
-- not have left before.
pub record ChangesNothing {D : Type 0} (disking : Ghosts D) (old new : D) : Type 0 where
  pub contents : disking.contents new ≡ disking.contents old
  pub size : disking.size new ≡ disking.size old
  pub leaves : NoNew (disking.leaves old) (disking.leaves new)
  pub later : disking.moment old ≤ disking.moment new
  pub before : (t : ℕ) (c : List ℕ) → t ≤ disking.moment old → disking.left_since new t c → disking.left_since old t c
