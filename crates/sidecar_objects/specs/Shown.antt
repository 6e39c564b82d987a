-- Exhausted cells, as the seats of a pass show them.
use Rattle.std.specs.Prelude.{◌≡◌, ℕ, List, Option, Some, refl}
use Rattle.std.specs.Option.{option_or}
use mathlib.Core.Option.{some}
use lib.ListN.{get_elem?}
use Rattle.turn_cell.specs.Sitting.{Sitting}
use Rattle.turn_pass.specs.Pass.{count_shown}
use Rattle.sidecar_objects.specs.Kind.{Kind, SeatsAt, book, seats_in}
use Rattle.sidecar_objects.specs.Kind as kinds

-- the seat at this place shows this count of an exhausted cell
abbrev pub ShowsAt : {O C R : Type 0} → ℕ → ℕ → List (Sitting O C R) → Type 0
ShowsAt {O} {C} {R} k count seats = (seat : Sitting O C R) × (get_elem? seats k ≡ some seat) × (seat.count ≡ Some count)

-- a seat of the pass shows it
pub record Shows {O : Type 0} (seats : SeatsAt O) (count : ℕ) : Type 0 where
  pub kind : Kind
  pub place : ℕ
  pub shown : ShowsAt place count (seats_in seats kind)

-- that of the book does
pub book_shows : {O : Type 0} (seats : SeatsAt O) (count : ℕ) → seats.notes.count ≡ Some count → Shows seats count
book_shows seats count is = record { kind = book; place = 0; shown = (seats.notes, refl, is) }

-- that of the turns does
pub turns_show : {O : Type 0} (seats : SeatsAt O) (count : ℕ) → seats.turns.count ≡ Some count → Shows seats count
turns_show seats count is = record { kind = kinds.turns; place = 0; shown = (seats.turns, refl, is) }

-- that of the ticks does
pub ticks_show : {O : Type 0} (seats : SeatsAt O) (count : ℕ) → seats.ticks.count ≡ Some count → Shows seats count
ticks_show seats count is = record { kind = kinds.ticks; place = 0; shown = (seats.ticks, refl, is) }

-- the first count that a seat of the pass shows, of the stores, the ledgers, the breakers, then of the book, of the turns and of the ticks
abbrev pub spent_of : {O : Type 0} → SeatsAt O → Option ℕ
spent_of seats = option_or (count_shown seats.stores) (option_or (count_shown seats.ledgers) (option_or (count_shown seats.breakers) (option_or seats.notes.count (option_or seats.turns.count seats.ticks.count))))
