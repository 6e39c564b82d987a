-- Steps of a ledger's cell, each at a moment that was read right before, and what they do.
use Rattle.std.specs.Prelude.{◌≡◌, ◌<◌, ℕ, ⊤, List, [], ◌∷◌, length, flat_map, Some, Result, Ok, Err}
use Rattle.turn_cell.specs.declared.error.Exhausted.{Exhausted}
use Rattle.turn_cell.specs.declared.object.Object.{Ghosts}
use Rattle.turn_cell.specs.Growth.{Grew}
use Rattle.turn_cell.specs.Sitting.{Begun, Sitting}
use Rattle.side_world.specs.declared.link.LinkCall.{LinkCall}
use Rattle.link_call.specs.LinkAt.{LinkAt, Links, Asks}
use Rattle.ledger_core.specs.declared.ledger.Ledger.{Ledger}
use Rattle.ledger_core.specs.declared.plan.Plan.{Plan}
use Rattle.ledger_core.specs.declared.command.LedgerCmd.{LedgerCmd}
use Rattle.ledger_core.specs.declared.reply.LedgerReply.{LedgerReply}
use Rattle.ledger_core.specs.declared.reply.LedgerReply.TheVariants as says
use Rattle.ledger_core.specs.Fits.{Fits}
use Rattle.ledger_core.specs.Ledger.{plans_of}
use Rattle.ledger_core.specs.Message.{Step}
use Rattle.policy_run.specs.Event.{Event}
use Rattle.policy_run.specs.Effects.{AreNone, Clocked, Effects}
use Rattle.delivery_turn.specs.Settling.{Own, entered, asked}

abbrev pub LedgerSeat : Type 0
LedgerSeat = Sitting Ledger LedgerCmd LedgerReply

abbrev pub LedgerGhosts : Type 1
LedgerGhosts = Ghosts Ledger LedgerCmd LedgerReply

-- ---- one step

-- a pair that is taken is of a subscription that has a plan
abbrev pub IsPlanned : List Plan → LedgerReply → Type 0
IsPlanned plans (says.Taken number sub claim event path attempt) = sub < length plans
IsPlanned plans other = ⊤

-- one step with this command and a reply that fits it
pub record Steps (object : LedgerGhosts) (cell : Begun Ledger) (seat seat' : LedgerSeat) (cmd : LedgerCmd) (step : Step) : Type 0 where
  pub told : step.cmd ≡ cmd
  pub fits : Fits cmd step.reply
  pub planned : IsPlanned (plans_of cell.first) step.reply
  pub grows : Grew object cell.first seat (step ∷ []) seat'

-- the cell was exhausted: no step, and the seat shows the count
pub record RunsOut (object : LedgerGhosts) (cell : Begun Ledger) (seat seat' : LedgerSeat) (count : ℕ) : Type 0 where
  pub shows : seat'.count ≡ Some count
  pub grows : Grew object cell.first seat [] seat'

abbrev pub StepsBy : LedgerGhosts → Begun Ledger → LedgerSeat → LedgerSeat → LedgerCmd → Result LedgerReply Exhausted → Type 0
StepsBy object cell seat seat' cmd (Ok reply) = (step : Step) × (step.reply ≡ reply) × Steps object cell seat seat' cmd step
StepsBy object cell seat seat' cmd (Err e) = RunsOut object cell seat seat' e.count

-- a taking has one of three replies
abbrev pub IsTakeReply : LedgerReply → Type 0
IsTakeReply (says.Taken number sub claim event path attempt) = ⊤
IsTakeReply (says.Idle next) = ⊤
IsTakeReply says.NoMemory = ⊤
IsTakeReply other = ⊥

-- ---- what is done of its own, to the ledger and by the link

abbrev pub entered_in : Own → List Step
entered_in (entered step) = step ∷ []
entered_in (asked call) = []

abbrev pub asked_in : Own → List LinkCall
asked_in (entered step) = []
asked_in (asked call) = call ∷ []

-- the seat of the ledger's cell made these steps, and the link these calls, in order
pub record Did (object : LedgerGhosts) (cell : Begun Ledger) (seat seat' : LedgerSeat) (link link' : LinkAt) (owns : List Own) : Type 0 where
  pub steps : Grew object cell.first seat (flat_map entered_in owns) seat'
  pub calls : Asks link (flat_map asked_in owns) link'

-- the same of what the link shows before and after
abbrev pub DidBy : LedgerGhosts → Begun Ledger → LedgerSeat → LedgerSeat → Links → List Own → Type 0
DidBy object cell seat seat' link owns = Did object cell seat seat' link.before link.after owns

-- the link alone was asked
pub record AsksApp (link link' : LinkAt) (owns : List Own) : Type 0 where
  pub steps : flat_map entered_in owns ≡ []
  pub calls : Asks link (flat_map asked_in owns) link'

-- the ledger alone
pub record Enters (object : LedgerGhosts) (cell : Begun Ledger) (seat seat' : LedgerSeat) (owns : List Own) : Type 0 where
  pub steps : Grew object cell.first seat (flat_map entered_in owns) seat'
  pub calls : flat_map asked_in owns ≡ []

-- there are events of which this holds, and which did that to the ledger and the clock alone
abbrev pub AsksLedger : LedgerGhosts → Begun Ledger → LedgerSeat → LedgerSeat → Clocked → Clocked → (List (Event Own) → Type 0) → Type 0
AsksLedger object cell seat seat' clock clock' comes = (events : List (Event Own)) × comes events × Effects events (Enters object cell seat seat') AreNone clock clock' AreNone
