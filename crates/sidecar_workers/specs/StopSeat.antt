-- What contracts see of a seat of a stop word, and what the calls do to it.
use Rattle.std.specs.Prelude.{◌≡◌, ◌<◌, ◌+◌, ◌-◌, ◌||◌, ℕ, Bool, true, false, is_some, Option, None}
use Rattle.atomic_table.specs.Seated.{TableId}
use Rattle.sidecar_workers.specs.declared.reason.Reason.{Reason}

-- its word; whether it is the root; whether it has found the word set, and how many looks found it not set; why it has ended; and of the root how many seats are
-- split off and not met, and whether one that was met had found the word set, and had ended
pub record Standing : Type 0 where
  pub table : TableId
  pub is_root : Bool
  pub found : Bool
  pub looks : ℕ
  pub ended : Option Reason
  pub out : ℕ
  pub kept_found : Bool
  pub kept_ended : Bool

abbrev pub root_of : TableId → Standing
root_of table = record { table = table; is_root = true; found = false; looks = 0; ended = None; out = 0; kept_found = false; kept_ended = false }

abbrev pub parent_of : Standing → Standing
parent_of root = record root { out = root.out + 1 }

abbrev pub child_of : TableId → Standing
child_of table = record { table = table; is_root = false; found = false; looks = 0; ended = None; out = 0; kept_found = false; kept_ended = false }

-- the seat, or one that it met, has found the word set
abbrev pub HasFound : Standing → Type 0
HasFound seat = (seat.found || seat.kept_found) ≡ true

-- the seat, or one that it met, has ended
abbrev pub HasEnded : Standing → Type 0
HasEnded seat = (is_some seat.ended || seat.kept_ended) ≡ true

abbrev pub IsAlone : Standing → Type 0
IsAlone seat = (seat.is_root ≡ true) × (seat.out ≡ 0)

-- the seat after a look that found the word set, or not
abbrev pub looked_as : Bool → Standing → Standing
looked_as true seat = record seat { found = true }
looked_as false seat = record seat { looks = seat.looks + 1 }

-- the root with another seat joined
abbrev pub joined : Standing → Standing → Standing
joined root other = record root { out = root.out - 1; kept_found = root.kept_found || (other.found || other.kept_found); kept_ended = root.kept_ended || (is_some other.ended || other.kept_ended) }

-- The root has met another seat, which was split off, and looked at the word: it finds it set where one of them had
pub record HasMet (root other after : Standing) : Type 0 where
  pub found : Bool
  pub whole : after ≡ looked_as found (joined root other)
  pub there : 0 < root.out
  pub keeps : HasFound root → found ≡ true
  pub kept : HasFound other → found ≡ true
  pub cause : IsAlone after → HasFound after → HasEnded after
