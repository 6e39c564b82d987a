-- A journal that is being opened: which bodies were given so far.
use Rattle.std.specs.Prelude.{◌≡◌, ◌+◌, ◌-◌, ◌≤◌, ℕ, List, [], ◌∷◌, ◌++◌, Bool, true, false}
use Rattle.side_world.specs.Disk.{LeavesOnly}
use Rattle.side_world.specs.declared.disk.Disk.{Ghosts}
use Rattle.disk_journal.specs.Image.{front, end_of, HaveLengths, IsImage}
use Rattle.disk_journal.specs.Moments.{Reads, ChangesNothing}
use Rattle.disk_journal.specs.Window as window
use Rattle.disk_journal.specs.declared.opening.Opening.{Opening}

module _ {D : Type 0} {disking : Ghosts D} where
  abbrev pub opening_disk : Opening D disking → D
  opening_disk opening = window.disk_of opening.window

  abbrev pub opening_limit : Opening D disking → ℕ
  opening_limit opening = opening.limit

  -- the place of the gate of the body that is next
  abbrev pub gate_of : Opening D disking → ℕ
  gate_of opening = window.place_of opening.window

  -- the body that was given last
  abbrev pub body_of : Opening D disking → List ℕ
  body_of opening = window.passed_of opening.window

  -- how many bytes of the file stand from that gate on
  abbrev pub left_of : Opening D disking → ℕ
  left_of opening = disking.size (opening_disk opening) - gate_of opening

module _ {D : Type 0} (disking : Ghosts D) (first : D) where
  -- Calls since this disk have given these bodies, and changed nothing: the next gate stands behind them. Where it tells what a read gives,
  -- that is their records, and then anything, and a crash leaves just that.
  pub record HasGiven (opening : Opening D disking) (bodies : List (List ℕ)) : Type 0 where
    pub lengths : HaveLengths bodies
    pub gate : gate_of opening ≡ end_of bodies
    pub begins : Reads disking first (λ bytes. (left : List ℕ) × (bytes ≡ front bodies ++ left))
    pub changed : ChangesNothing disking first (opening_disk opening)
    pub synced : LeavesOnly (disking.contents first) (disking.leaves (opening_disk opening))

  -- They have given these bodies, and the next gate is closed: where the disk tells what a read gives, that is a file of these bodies, and
  -- of no others.
  pub record HasGivenAll (opening : Opening D disking) (bodies : List (List ℕ)) : Type 0 where
    pub given : HasGiven opening bodies
    pub within : gate_of opening + 1 ≤ disking.size (opening_disk opening)
    pub image : Reads disking first (λ bytes. IsImage bytes bodies)
    pub only : Reads disking first (λ bytes. (others : List (List ℕ)) → IsImage bytes others → others ≡ bodies)

  -- after these bodies one more was given, or none, where there is none
  abbrev pub GivesNext : Opening D disking → List (List ℕ) → Bool → Type 0
  GivesNext opening bodies true = HasGiven opening (bodies ++ body_of opening ∷ [])
  GivesNext opening bodies false = HasGivenAll opening bodies
