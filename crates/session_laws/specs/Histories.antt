-- What requests did, as it stands in the histories that their pass has seen.
use Rattle.std.specs.Prelude.{◌≡◌, ℕ, List, ◌∷◌, ◌++◌, flat_map}
use mathlib.Core.Option.{some}
use lib.ListN.{get_elem?}
use Rattle.turn_cell.specs.declared.entry.Entry.{Entry}
use Rattle.turn_cell.specs.declared.object.Object.{Ghosts}
use Rattle.turn_cell.specs.Sitting.{Begun, Sitting}
use Rattle.sidecar_objects.specs.Doing.{steps_at}
use Rattle.sidecar_objects.specs.Kind.{CellsAt, Kind, Kinds, StepOf, cells_in, cmd_of, object_of, reply_of, seats_in}
use Rattle.sidecar_objects.specs.Passes.{IsSoundPass}
use Rattle.session_laws.specs.Served.{Served}

-- a seat's history has this step, behind these entries, after which it is a step of the object
pub record IsStepIn {O C R : Type 0} (object : Ghosts O C R) (first : O) (seen : List (Entry C R)) (step : Entry C R) : Type 0 where
  pub before : List (Entry C R)
  pub later : List (Entry C R)
  pub whole : seen ≡ before ++ step ∷ later
  pub follows : object.steps first before step

-- the object of this kind at this place, with its seat before and after
pub record IsAt {O : Type 0} (cells : CellsAt O) (served : Served O) (kind : Kind) (place : ℕ) (cell : Begun (object_of O kind)) (seat seat' : Sitting (object_of O kind) (cmd_of kind) (reply_of kind)) : Type 0 where
  pub cell_there : get_elem? (cells_in cells kind) place ≡ some cell
  pub seat_there : get_elem? (seats_in served.before.seats kind) place ≡ some seat
  pub still_there : get_elem? (seats_in served.after.seats kind) place ≡ some seat'

-- this step was made at the object of this kind at this place
pub record WasMade {O : Type 0} (served : Served O) (kind : Kind) (place : ℕ) (step : StepOf kind) : Type 0 where
  pub earlier : List (StepOf kind)
  pub later : List (StepOf kind)
  pub whole : flat_map (steps_at kind place) served.events ≡ earlier ++ step ∷ later

-- Each step that was made for a request stands in the one history that the pass has seen of its object, and is a step after what stands before it
abbrev pub StepsStandInHistories : {O : Type 0} → Kinds O → CellsAt O → Served O → Type 0
StepsStandInHistories {O} kinds cells served =
    IsSoundPass kinds cells served.after.seats
    → (kind : Kind) (place : ℕ) (cell : Begun (object_of O kind)) (seat seat' : Sitting (object_of O kind) (cmd_of kind) (reply_of kind)) (step : StepOf kind)
    → IsAt cells served kind place cell seat seat' → WasMade served kind place step → IsStepIn (kinds kind) cell.first seat'.seen step
