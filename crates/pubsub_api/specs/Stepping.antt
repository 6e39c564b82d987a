-- One step of a ledger's cell, and what is answered by it.
use Rattle.std.specs.Prelude.{◌≡◌, ℕ, ⊤, List, [], ◌∷◌, Some, Result, Ok, Err}
use Rattle.side_base.specs.declared.message.Response.{Response}
use Rattle.turn_cell.specs.declared.error.ApiErr.{ApiErr}
use Rattle.turn_cell.specs.declared.error.ApiErr.TheVariants as error
use Rattle.turn_cell.specs.declared.error.Exhausted.{Exhausted}
use Rattle.turn_cell.specs.declared.object.Object.{Ghosts}
use Rattle.turn_cell.specs.Growth.{Grew}
use Rattle.turn_cell.specs.Sitting.{Begun, Sitting}
use Rattle.ledger_core.specs.declared.ledger.Ledger.{Ledger}
use Rattle.ledger_core.specs.declared.command.LedgerCmd.{LedgerCmd}
use Rattle.ledger_core.specs.declared.command.LedgerCmd.TheVariants.{Accept}
use Rattle.ledger_core.specs.declared.reply.LedgerReply.{LedgerReply}
use Rattle.ledger_core.specs.Fits.{Fits}
use Rattle.ledger_core.specs.Message.{Step}
use Rattle.pubsub_api.specs.Publishing.{AcceptReplies}

abbrev pub LedgerSeat : Type 0
LedgerSeat = Sitting Ledger LedgerCmd LedgerReply

abbrev pub LedgerGhosts : Type 1
LedgerGhosts = Ghosts Ledger LedgerCmd LedgerReply

-- by these steps a seat of the cell went on
abbrev pub Grows : LedgerGhosts → Begun Ledger → LedgerSeat → LedgerSeat → List Step → Type 0
Grows object cell seat seat' steps = Grew object cell.first seat steps seat'

-- one step with this command and a reply that fits it
pub record Steps (object : LedgerGhosts) (cell : Begun Ledger) (seat seat' : LedgerSeat) (cmd : LedgerCmd) (step : Step) : Type 0 where
  pub told : step.cmd ≡ cmd
  pub fits : Fits cmd step.reply
  pub grows : Grows object cell seat seat' (step ∷ [])

-- the cell was exhausted: no step, and the seat shows the count
pub record Exhausts (object : LedgerGhosts) (cell : Begun Ledger) (seat seat' : LedgerSeat) (count : ℕ) : Type 0 where
  pub shows : seat'.count ≡ Some count
  pub grows : Grows object cell seat seat' []

abbrev pub StepsBy : LedgerGhosts → Begun Ledger → LedgerSeat → LedgerSeat → LedgerCmd → Result LedgerReply Exhausted → Type 0
StepsBy object cell seat seat' cmd (Ok reply) = (step : Step) × (step.reply ≡ reply) × Steps object cell seat seat' cmd step
StepsBy object cell seat seat' cmd (Err e) = Exhausts object cell seat seat' e.count

-- the command is one that gives an event
abbrev pub IsAcceptCmd : LedgerCmd → Type 0
IsAcceptCmd (Accept event aims now) = ⊤
IsAcceptCmd other = ⊥

-- what a command that gives an event came to, and its answer
pub data Accepts (object : LedgerGhosts) (cell : Begun Ledger) (seat seat' : LedgerSeat) (cmd : LedgerCmd) (reply : Result Response ApiErr) : Type 0 where
  stepped : (step : Step) → Steps object cell seat seat' cmd step → AcceptReplies step.reply reply → Accepts object cell seat seat' cmd reply
  exhausted : (count : ℕ) → Exhausts object cell seat seat' count → reply ≡ Err (error.Exhausted count) → Accepts object cell seat seat' cmd reply
