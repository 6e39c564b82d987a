-- The passes of all objects that workers begin with.
use Rattle.std.specs.Prelude.{◌+◌, ℕ, true, false, [], map, Some, None}
use Rattle.std.specs.Coded.{Coded-set}
use Rattle.actor_turns.specs.contracts.turns.Turns as actors
use Rattle.actor_turns.specs.declared.turns.Turns.{Turns}
use Rattle.cron_ticks.specs.contracts.ticks.Ticks as crons
use Rattle.cron_ticks.specs.declared.ticks.Ticks.{Ticks}
use Rattle.turn_cell.specs.Sitting.{Begun, IsSeatOf, Sitting}
use Rattle.turn_cell.specs.Passes.{EachSeated}
use Rattle.sidecar_objects.specs.Kind.{CellsAt, SeatsAt}

module _ {O C R : Type 0} where
  -- the root seat of a cell of which so many others were split off, and which has neither seen nor done anything
  abbrev pub root_seat : ℕ → Begun O → Sitting O C R
  root_seat out cell = record { table = cell.table; first = Some cell.first; number = 0; is_root = true; seen = []; mine = []; count = None; made = out + 1; out = out; met = [] }

  -- the seat of a cell that the worker of this number begins with: its number is one more, and it has neither seen nor done anything
  abbrev pub worker_seat : ℕ → Begun O → Sitting O C R
  worker_seat number cell = record { table = cell.table; first = Some cell.first; number = number + 1; is_root = false; seen = []; mine = []; count = None; made = 0; out = 0; met = [] }

module _ {O : Type 0} where
  abbrev pub root_pass : ℕ → CellsAt O → SeatsAt O
  root_pass out cells = record { stores = map (root_seat out) cells.stores; ledgers = map (root_seat out) cells.ledgers; breakers = map (root_seat out) cells.breakers; notes = root_seat out cells.notes; turns = root_seat out cells.turns; ticks = root_seat out cells.ticks }

  abbrev pub worker_pass : ℕ → CellsAt O → SeatsAt O
  worker_pass number cells = record { stores = map (worker_seat number) cells.stores; ledgers = map (worker_seat number) cells.ledgers; breakers = map (worker_seat number) cells.breakers; notes = worker_seat number cells.notes; turns = worker_seat number cells.turns; ticks = worker_seat number cells.ticks }

-- a pass of these cells, kind by kind: so it is a fact of a value of a type, which has at most one proof
pub record IsOwnPass {O : Type 0} (cells : CellsAt O) (seats : SeatsAt O) : Type 0 where
  pub stores : EachSeated cells.stores seats.stores
  pub ledgers : EachSeated cells.ledgers seats.ledgers
  pub breakers : EachSeated cells.breakers seats.breakers
  pub notes : IsSeatOf cells.notes seats.notes
  pub turns : IsSeatOf cells.turns seats.turns
  pub ticks : IsSeatOf cells.ticks seats.ticks

-- the turns of actors are data, so that an equation of them has at most one proof
pub turns_set : IsSet Turns
turns_set = Coded-set actors.the_row.coded

-- and so are the ticks of input bindings
pub ticks_set : IsSet Ticks
ticks_set = Coded-set crons.the_row.coded
