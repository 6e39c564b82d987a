-- The kinds of shared objects: what those of each kind are, and the cells and seats of each. An object is known by its kind and its place among those of its kind.
use Rattle.std.specs.Prelude.{List, [], ◌∷◌}
use Rattle.turn_cell.specs.declared.entry.Entry.{Entry}
use Rattle.turn_cell.specs.declared.object.Object.{Ghosts}
use Rattle.turn_cell.specs.Sitting.{Begun, Sitting}
use Rattle.state_core.specs.declared.command.Cmd.{Cmd}
use Rattle.state_core.specs.declared.reply.Reply.{Reply}
use Rattle.ledger_core.specs.declared.ledger.Ledger.{Ledger}
use Rattle.ledger_core.specs.declared.command.LedgerCmd.{LedgerCmd}
use Rattle.ledger_core.specs.declared.reply.LedgerReply.{LedgerReply}
use Rattle.breaker_core.specs.declared.breaker.Breaker.{Breaker}
use Rattle.breaker_core.specs.declared.command.BreakerCmd.{BreakerCmd}
use Rattle.breaker_core.specs.declared.command.BreakerReply.{BreakerReply}
use Rattle.actor_turns.specs.declared.turns.Turns.{Turns}
use Rattle.actor_turns.specs.declared.command.TurnsCmd.{TurnsCmd}
use Rattle.actor_turns.specs.declared.command.TurnsReply.{TurnsReply}
use Rattle.cron_ticks.specs.declared.ticks.Ticks.{Ticks}
use Rattle.cron_ticks.specs.declared.command.TicksCmd.{TicksCmd}
use Rattle.cron_ticks.specs.declared.command.TicksReply.{TicksReply}
use Rattle.meta_api.specs.declared.notes.Notes.{Notes}
use Rattle.meta_api.specs.declared.command.NotesCmd.{NotesCmd}
use Rattle.meta_api.specs.declared.command.NotesReply.{NotesReply}

-- the stores, the ledgers, the breakers; the book of metadata, the turns of actors, and the ticks of input bindings, each the only one of its kind
pub data Kind : Type 0 where
  stores : Kind
  ledgers : Kind
  breakers : Kind
  book : Kind
  turns : Kind
  ticks : Kind

-- an object of this kind, where stores are of the type O
abbrev pub object_of : Type 0 → Kind → Type 0
object_of O stores = O
object_of O ledgers = Ledger
object_of O breakers = Breaker
object_of O book = Notes
object_of O turns = Turns
object_of O ticks = Ticks

-- what it is asked, and what it answers
abbrev pub cmd_of : Kind → Type 0
cmd_of stores = Cmd
cmd_of ledgers = LedgerCmd
cmd_of breakers = BreakerCmd
cmd_of book = NotesCmd
cmd_of turns = TurnsCmd
cmd_of ticks = TicksCmd

abbrev pub reply_of : Kind → Type 0
reply_of stores = Reply
reply_of ledgers = LedgerReply
reply_of breakers = BreakerReply
reply_of book = NotesReply
reply_of turns = TurnsReply
reply_of ticks = TicksReply

-- an entry of its history
abbrev pub StepOf : Kind → Type 0
StepOf kind = Entry (cmd_of kind) (reply_of kind)

-- what the objects of each kind are, by their traits
abbrev pub Kinds : Type 0 → Type 1
Kinds O = (kind : Kind) → Ghosts (object_of O kind) (cmd_of kind) (reply_of kind)

abbrev pub kinds_of : {O : Type 0} → Ghosts O Cmd Reply → Ghosts Ledger LedgerCmd LedgerReply → Ghosts Breaker BreakerCmd BreakerReply → Ghosts Notes NotesCmd NotesReply → Ghosts Turns TurnsCmd TurnsReply → Ghosts Ticks TicksCmd TicksReply → (kind : Kind) → Ghosts (object_of O kind) (cmd_of kind) (reply_of kind)
kinds_of store ledger breaker notes actors crons stores = store
kinds_of store ledger breaker notes actors crons ledgers = ledger
kinds_of store ledger breaker notes actors crons breakers = breaker
kinds_of store ledger breaker notes actors crons book = notes
kinds_of store ledger breaker notes actors crons turns = actors
kinds_of store ledger breaker notes actors crons ticks = crons

-- the cells of all objects
pub record CellsAt (O : Type 0) : Type 0 where
  pub stores : List (Begun O)
  pub ledgers : List (Begun Ledger)
  pub breakers : List (Begun Breaker)
  pub notes : Begun Notes
  pub turns : Begun Turns
  pub ticks : Begun Ticks

-- the seats of a pass, at the places of their cells
pub record SeatsAt (O : Type 0) : Type 0 where
  pub stores : List (Sitting O Cmd Reply)
  pub ledgers : List (Sitting Ledger LedgerCmd LedgerReply)
  pub breakers : List (Sitting Breaker BreakerCmd BreakerReply)
  pub notes : Sitting Notes NotesCmd NotesReply
  pub turns : Sitting Turns TurnsCmd TurnsReply
  pub ticks : Sitting Ticks TicksCmd TicksReply

-- the cells of a kind, and the seats of a pass of that kind
abbrev pub cells_in : {O : Type 0} → CellsAt O → (kind : Kind) → List (Begun (object_of O kind))
cells_in cells stores = cells.stores
cells_in cells ledgers = cells.ledgers
cells_in cells breakers = cells.breakers
cells_in cells book = cells.notes ∷ []
cells_in cells turns = cells.turns ∷ []
cells_in cells ticks = cells.ticks ∷ []

abbrev pub seats_in : {O : Type 0} → SeatsAt O → (kind : Kind) → List (Sitting (object_of O kind) (cmd_of kind) (reply_of kind))
seats_in seats stores = seats.stores
seats_in seats ledgers = seats.ledgers
seats_in seats breakers = seats.breakers
seats_in seats book = seats.notes ∷ []
seats_in seats turns = seats.turns ∷ []
seats_in seats ticks = seats.ticks ∷ []
