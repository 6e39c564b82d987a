-- What each step on a cell's table tells the seat that makes it.
use Rattle.std.specs.Prelude.{◌≡◌, ◌≢◌, ◌⊎◌, ℕ, ◌+◌, ◌-◌, ◌^◌, ◌<◌, ◌≤◌, nat_lt, min, true, false, if◌then◌else◌, List, [], ◌∷◌, ◌++◌, length, All, Option, Some, None, IsSome}
use mathlib.Core.List.{IsPrefix}
use Rattle.atomic_table.specs.Table.{Me, rest}
use Rattle.atomic_table.specs.Seated.{TableId}
use Rattle.atomic_table.specs.declared.shared.Seat.{Seat}
use Rattle.turn_cell.specs.declared.entry.Entry.{Entry}
use Rattle.turn_cell.specs.declared.object.Object.{Ghosts}
use Rattle.turn_cell.specs.declared.view.Stage.TheVariants.{Idle, Glanced, Waiting, InTurn, Decided, Spent}
use Rattle.turn_cell.specs.declared.view.View.{View}
use Rattle.turn_cell.specs.Sitting.{Sitting, IsSound, either_count}

abbrev pub longer : {C R : Type 0} → List (Entry C R) → List (Entry C R) → List (Entry C R)
longer a b = if nat_lt (length a) (length b) then b else a

module _ {O C R : Type 0} where
  -- the view of the first seat
  abbrev pub opening_view : O → View O C R
  opening_view first = record { first = Some first; number = 0; is_root = true; seen = []; mine = []; kept = []; count = None; made = 1; out = 0; met = []; stage = Idle }

  abbrev pub spent_view : View O C R
  spent_view = record { first = None; number = 0; is_root = false; seen = []; mine = []; kept = []; count = None; made = 0; out = 0; met = []; stage = Spent }

  abbrev pub parent_view : View O C R → View O C R
  parent_view v = record v { made = v.made + 1; out = v.out + 1 }

  abbrev pub child_view : View O C R → View O C R
  child_view v = record { first = v.first; number = v.made; is_root = false; seen = v.seen; mine = []; kept = []; count = None; made = 0; out = 0; met = []; stage = Idle }

  -- the root after a join, which keeps both lists
  abbrev pub joined_view : View O C R → View O C R → View O C R
  joined_view v w = record v { kept = w.seen; count = either_count v.count w.count; out = v.out - 1; met = v.met ++ (w.number, w.mine) ∷ [] }

  abbrev pub met_view : View O C R → View O C R
  met_view v = record v { seen = longer v.seen v.kept; kept = [] }

  -- a view as contracts see its seat
  abbrev pub shown : TableId → View O C R → Sitting O C R
  shown table v = record { table = table; first = v.first; number = v.number; is_root = v.is_root; seen = v.seen; mine = v.mine; count = v.count; made = v.made; out = v.out; met = v.met }

  abbrev pub IsAloneView : View O C R → Type 0
  IsAloneView v = (v.is_root ≡ true) × (v.out ≡ 0)

-- what holds of every seat, said of a view
abbrev pub IsSoundView : {O C R : Type 0} → Ghosts O C R → O → View O C R → Type 0
IsSoundView object first v = (table : TableId) → IsSound object first (shown table v)

-- Of a load of word 6 by an idle seat: tickets are left, or the cell is exhausted
module _ {O C R : Type 0} (object : Ghosts O C R) where
  abbrev pub glanced : Me (Option O) (View O C R) → ℕ → Me (Option O) (View O C R) → Type 0
  glanced m found m' = (found < 2 ^ 62 → m' ≡ (record m.0 { stage = Glanced }, m.1))
      × (2 ^ 62 ≤ found → (m' ≡ (record m.0 { count = Some found }, m.1)) × ((first : O) → m.0.first ≡ Some first → IsSoundView object first m'.0 × (IsAloneView m.0 → length m.0.seen ≡ 2 ^ 62)))

-- the seat draws the ticket that it finds
abbrev pub drew : {O C R : Type 0} → Me (Option O) (View O C R) → ℕ → Me (Option O) (View O C R) → Type 0
drew m found m' = m' ≡ (record m.0 { stage = Waiting found }, m.1)

-- the entry that the caller picks is decided
abbrev pub decided : {O C R : Type 0} → Option (Entry C R) → Me (Option O) (View O C R) → ℕ → Me (Option O) (View O C R) → Type 0
decided picked m found m' = (n : ℕ) (entry : Entry _ _) → m.0.stage ≡ InTurn n → picked ≡ Some entry → m' ≡ (record m.0 { stage = Decided n entry }, m.1)

-- the ticket n is served: the seat sees the whole history, and the object that stands for it is its own
pub record Hit {O C R : Type 0} (object : Ghosts O C R) (first : O) (m : Me (Option O) (View O C R)) (n : ℕ) (m' : Me (Option O) (View O C R)) : Type 0 where
  pub others : List (Entry C R)
  pub now : O
  pub foreign : All (λ entry. entry.seat ≢ m.0.number) others
  pub alone : IsAloneView m.0 → others ≡ []
  pub whole : m' ≡ (record m.0 { seen = m.0.seen ++ others; stage = InTurn n }, (0, Some now) ∷ m.1)
  pub long : length (m.0.seen ++ others) ≡ min n (2 ^ 62)
  pub stands : object.stands first (m.0.seen ++ others) now
  pub sound : IsSoundView object first m'.0

-- the root after a meeting has the longer of the two lists
pub record Met {O C R : Type 0} (object : Ghosts O C R) (first : O) (m m' : Me (Option O) (View O C R)) : Type 0 where
  pub whole : m' ≡ (met_view m.0, m.1)
  pub longer : ((m'.0.seen ≡ m.0.seen) × IsPrefix m.0.kept m'.0.seen) ⊎ ((m'.0.seen ≡ m.0.kept) × IsPrefix m.0.seen m'.0.seen)
  pub spent : IsAloneView m'.0 → IsSome m'.0.count → length m'.0.seen ≡ 2 ^ 62
  pub sound : IsSoundView object first m'.0

module _ {O C R : Type 0} (object : Ghosts O C R) where
  -- of a load of word 7: another ticket is served, or the seat's own
  abbrev pub looked : Me (Option O) (View O C R) → ℕ → Me (Option O) (View O C R) → Type 0
  looked m found m' = (n : ℕ) → m.0.stage ≡ Waiting n → (found ≢ n → m' ≡ m) × (found ≡ n → (first : O) → m.0.first ≡ Some first → Hit object first m n m')

  -- the entry goes into the history
  abbrev pub left : Me (Option O) (View O C R) → ℕ → Me (Option O) (View O C R) → Type 0
  left m found m' = (n : ℕ) (entry : Entry C R) → m.0.stage ≡ Decided n entry
      → (m' ≡ (record m.0 { seen = m.0.seen ++ entry ∷ []; mine = m.0.mine ++ entry ∷ []; stage = Idle }, rest m.1)) × ((first : O) → m.0.first ≡ Some first → IsSoundView object first m'.0)

  -- a turn past the last entry makes none
  abbrev pub passed : Me (Option O) (View O C R) → ℕ → Me (Option O) (View O C R) → Type 0
  passed m found m' = (n : ℕ) → m.0.stage ≡ InTurn n → (m' ≡ (record m.0 { count = Some n; stage = Idle }, rest m.1)) × ((first : O) → m.0.first ≡ Some first → IsSoundView object first m'.0)

  abbrev pub met : Me (Option O) (View O C R) → ℕ → Me (Option O) (View O C R) → Type 0
  met m found m' = (first : O) → m.0.first ≡ Some first → Met object first m m'

-- sixteen words and a slot
abbrev pub IsSized : TableId → Type 0
IsSized table = (table.words ≡ 16) × (table.slots ≡ 1)

module _ {O C R : Type 0} where
  abbrev pub sitting : Seat (Option O) (View O C R) → Sitting O C R
  sitting token = shown token.table_id token.me.0

  -- a seat of this table, whose cell began with `first`
  abbrev pub IsTokenOf : TableId → O → Seat (Option O) (View O C R) → Type 0
  IsTokenOf table first token = (table.words ≡ 16) × (table.slots ≡ 1) × (token.table_id ≡ table) × (token.me.0.first ≡ Some first)

-- a seat between two calls
pub record IsFree {O C R : Type 0} (token : Seat (Option O) (View O C R)) : Type 0 where
  pub idle : token.me.0.stage ≡ Idle
  pub bare : token.me.1 ≡ []
  pub done : token.me.0.kept ≡ []

-- a seat that waits with the ticket n
pub record IsWaiting {O C R : Type 0} (n : ℕ) (token : Seat (Option O) (View O C R)) : Type 0 where
  pub waits : token.me.0.stage ≡ Waiting n
  pub bare : token.me.1 ≡ []
  pub done : token.me.0.kept ≡ []

-- a seat whose ticket n is served, with the object in its hand
pub record IsServed {O C R : Type 0} (object : Ghosts O C R) (first : O) (n : ℕ) (token : Seat (Option O) (View O C R)) : Type 0 where
  pub serves : token.me.0.stage ≡ InTurn n
  pub now : O
  pub holds : token.me.1 ≡ (0, Some now) ∷ []
  pub done : token.me.0.kept ≡ []
  pub stands : object.stands first token.me.0.seen now
  pub long : length token.me.0.seen ≡ min n (2 ^ 62)
  pub sound : IsSoundView object first token.me.0

-- a step that a served seat made, and that is in the history
pub record StepMade {O C R : Type 0} (object : Ghosts O C R) (first : O) (v : View O C R) (cmd : C) (reply : R) (m' : Me (Option O) (View O C R)) : Type 0 where
  pub entry : Entry C R
  pub seat_is : entry.seat ≡ v.number
  pub cmd_is : entry.cmd ≡ cmd
  pub reply_is : entry.reply ≡ reply
  pub whole : m' ≡ (record v { seen = v.seen ++ entry ∷ []; mine = v.mine ++ entry ∷ []; stage = Idle }, [])
  pub sound : IsSoundView object first m'.0

-- a seat between two calls, as its type keeps it
pub record Rests {O C R : Type 0} (object : Ghosts O C R) (token : Seat (Option O) (View O C R)) (made : ℕ) (count : Option ℕ) : Type 0 where
  pub free : IsFree token
  pub made_is : made ≡ token.me.0.made
  pub count_is : count ≡ token.me.0.count
  pub sound : (first : O) → token.me.0.first ≡ Some first → IsSoundView object first token.me.0
