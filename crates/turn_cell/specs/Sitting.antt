-- What contracts see of a cell and of its seats, and what the calls do to a seat.
use Rattle.std.specs.Prelude.{◌≡◌, ◌≢◌, ◌⊎◌, ℕ, ◌+◌, ◌-◌, ◌^◌, ◌<◌, ◌≤◌, Bool, true, false, List, [], ◌∷◌, ◌++◌, length, All, Option, Some, None, IsSome, IfSome}
use mathlib.Core.List.{IsPrefix}
use Rattle.atomic_table.specs.Seated.{TableId}
use Rattle.turn_cell.specs.declared.entry.Entry.{Entry}
use Rattle.turn_cell.specs.declared.object.Object.{Ghosts}
use Rattle.turn_cell.specs.History.{entries_of, IsLegal}

-- a cell: which one it is, and the object that it began with
pub record Begun (O : Type 0) : Type 0 where
  pub table : TableId
  pub first : O

-- A seat: its cell, its number, the history that it has seen, its own entries in it, the count that it read in an exhausted cell;
-- and of the root how many seats were made, itself included, how many are split off and not met, and the number and the entries of each that was met
pub record Sitting (O C R : Type 0) : Type 0 where
  pub table : TableId
  pub first : Option O
  pub number : ℕ
  pub is_root : Bool
  pub seen : List (Entry C R)
  pub mine : List (Entry C R)
  pub count : Option ℕ
  pub made : ℕ
  pub out : ℕ
  pub met : List (ℕ × List (Entry C R))

-- the first of two counts that is shown
abbrev pub either_count : Option ℕ → Option ℕ → Option ℕ
either_count (Some n) _ = Some n
either_count None other = other

module _ {O C R : Type 0} where
  -- a seat of this cell
  abbrev pub IsSeatOf : Begun O → Sitting O C R → Type 0
  IsSeatOf cell seat = (seat.table ≡ cell.table) × (seat.first ≡ Some cell.first)

  -- the root, with every other seat met
  abbrev pub IsAlone : Sitting O C R → Type 0
  IsAlone seat = (seat.is_root ≡ true) × (seat.out ≡ 0)

  -- the root of a cell that has just begun
  abbrev pub root_of : Begun O → Sitting O C R
  root_of cell = record { table = cell.table; first = Some cell.first; number = 0; is_root = true; seen = []; mine = []; count = None; made = 1; out = 0; met = [] }

  -- the root after one more seat was split off
  abbrev pub parent_of : Sitting O C R → Sitting O C R
  parent_of root = record root { made = root.made + 1; out = root.out + 1 }

  -- the seat that was split off the root
  abbrev pub child_of : Sitting O C R → Sitting O C R
  child_of root = record { table = root.table; first = root.first; number = root.made; is_root = false; seen = root.seen; mine = []; count = None; made = 0; out = 0; met = [] }

-- What holds of every seat. What it has seen is legal and has at most 2^62 entries, of which its own are `mine`. A seat that the root met has
-- a number below `made`, and its entries are the list beside that number. Of the root, each entry is by a seat that was made, and each seat
-- that was made is the root, is out or was met; other seats have none of these. A count is from 2^62 on, and a root that is alone shows one
-- only where it has seen 2^62 entries
pub record IsSound {O C R : Type 0} (object : Ghosts O C R) (first : O) (seat : Sitting O C R) : Type 0 where
  pub legal : IsLegal object first seat.seen
  pub own : entries_of seat.number seat.seen ≡ seat.mine
  pub met : All (λ pair. (pair.0 < seat.made) × (entries_of pair.0 seat.seen ≡ pair.1)) seat.met
  pub made : seat.is_root ≡ true → All (λ entry. entry.seat < seat.made) seat.seen
  pub parts : seat.is_root ≡ true → seat.made ≡ seat.out + length seat.met + 1
  pub plain : seat.is_root ≡ false → (seat.made ≡ 0) × (seat.out ≡ 0) × (seat.met ≡ [])
  pub count : IfSome seat.count (λ n. 2 ^ 62 ≤ n)
  pub short : length seat.seen ≤ 2 ^ 62
  pub full : IsAlone seat → IsSome seat.count → length seat.seen ≡ 2 ^ 62

module _ {O C R : Type 0} where
  -- the step that a seat makes
  abbrev pub entry_by : Sitting O C R → C → R → ℕ → Entry C R
  entry_by seat cmd reply mark = record { seat = seat.number; cmd = cmd; reply = reply; mark = mark }

-- A call that made a step: the seat sees entries of others, and then its own, with this command and this reply
pub record Extends {O C R : Type 0} (object : Ghosts O C R) (first : O) (seat : Sitting O C R) (cmd : C) (reply : R) (after : Sitting O C R) : Type 0 where
  pub mark : ℕ
  pub others : List (Entry C R)
  pub foreign : All (λ entry. entry.seat ≢ seat.number) others
  pub alone : IsAlone seat → others ≡ []
  pub whole : after ≡ record seat { seen = (seat.seen ++ others) ++ entry_by seat cmd reply mark ∷ []; mine = seat.mine ++ entry_by seat cmd reply mark ∷ [] }
  pub sound : IsSound object first after

-- A call that found the cell exhausted: the seat may see entries of others, and shows the count. To a seat that is alone this comes only
-- where it has seen 2^62 entries
pub record Exhausts {O C R : Type 0} (object : Ghosts O C R) (first : O) (seat : Sitting O C R) (count : ℕ) (after : Sitting O C R) : Type 0 where
  pub others : List (Entry C R)
  pub foreign : All (λ entry. entry.seat ≢ seat.number) others
  pub alone : IsAlone seat → others ≡ []
  pub late : 2 ^ 62 ≤ count
  pub full : IsAlone seat → length seat.seen ≡ 2 ^ 62
  pub whole : after ≡ record seat { seen = seat.seen ++ others; count = Some count }
  pub sound : IsSound object first after

-- The root meets another seat
pub record Meets {O C R : Type 0} (object : Ghosts O C R) (first : O) (root other after : Sitting O C R) : Type 0 where
  pub longer : ((after.seen ≡ root.seen) × IsPrefix other.seen after.seen) ⊎ ((after.seen ≡ other.seen) × IsPrefix root.seen after.seen)
  pub whole : after ≡ record root { seen = after.seen; count = either_count root.count other.count; out = root.out - 1; met = root.met ++ (other.number, other.mine) ∷ [] }
  pub there : 0 < root.out
  pub spent : IsAlone after → IsSome after.count → length after.seen ≡ 2 ^ 62
  pub sound : IsSound object first after
