-- What becomes of each message that a run took: by the one history that a pass has seen of its ledger.
use Rattle.std.specs.Prelude.{◌≡◌, ◌&&◌, ℕ, Bool, List, [], ◌∷◌, ◌++◌, count_by, is_some}
use Rattle.turn_cell.specs.Sitting.{Begun, Sitting}
use Rattle.ledger_core.specs.declared.plan.Aim.{Aim}
use Rattle.ledger_core.specs.declared.ledger.Ledger.{Ledger}
use Rattle.ledger_core.specs.declared.command.LedgerCmd.{LedgerCmd}
use Rattle.ledger_core.specs.declared.command.LedgerCmd.TheVariants.{Accept}
use Rattle.ledger_core.specs.declared.reply.LedgerReply.{LedgerReply}
use Rattle.ledger_core.specs.declared.reply.LedgerReply.TheVariants as says
use Rattle.ledger_core.specs.Message.{Step, Message, messages_of, pair_of}
use Rattle.ledger_core.specs.Standing.{Standing, standing}
use Rattle.ledger_core.specs.Course.{is_dead, is_done, is_dropped, is_owed, is_waiting}
use Rattle.sidecar_objects.specs.Kind.{CellsAt, Kinds, ledgers}
use Rattle.sidecar_objects.specs.Passes.{IsSoundPass}
use Rattle.sidecar_turns.specs.Accounts.{CountsAreAll, HasOneStatus}
use Rattle.sidecar_core.specs.Named.{ledger_of}
use Rattle.session_laws.specs.Served.{Served}
use Rattle.session_laws.specs.Histories.{IsAt}
use Rattle.session_laws.specs.Messages.{IsGiven}

-- ---- one delivery

-- it is owed, and a worker has it
abbrev pub is_out : Standing → Bool
is_out s = is_owed s.status && is_some s.claim

-- it waits, is out, is done, was dropped, or was dead-lettered: how many of these it is
abbrev pub ways_of : Standing → ℕ
ways_of s = count_by (λ (is : Standing → Bool). is s) (is_waiting ∷ is_out ∷ (λ (t : Standing). is_done t.status) ∷ (λ (t : Standing). is_dropped t.status) ∷ (λ (t : Standing). is_dead t.status) ∷ [])

-- of a message to a subscription that it is for there is one delivery, and it is exactly one of these
pub record IsAccountedFor (history : List Step) (message : Message) (aim : Aim) : Type 0 where
  pub delivery : HasOneStatus history message aim
  pub way : ways_of (standing history (pair_of message aim)) ≡ 1

-- so it is of a message to each subscription that it is for
abbrev pub IsAccountedForAll : List Step → Message → Type 0
IsAccountedForAll history message = (earlier later : List Aim) (aim : Aim) → message.aims ≡ earlier ++ aim ∷ later → IsAccountedFor history message aim

-- ---- all messages of a ledger

-- the message of an event that was accepted
abbrev pub message_by : List ℕ → List Aim → ℕ → ℕ → Message
message_by event aims now number = record { no = number; event = event; aims = aims; hops = 0; moment = now }

-- By the history of a ledger each event that it accepted at any time, and each message that was made of a delivery that was dead-lettered, is accounted for; and wherever
-- it was counted, the four counts are those of its deliveries by then, and add up to all of them
pub record AccountsForAll (history : List Step) : Type 0 where
  pub accepted : (before after : List Step) (entry : Step) (event : List ℕ) (aims : List Aim) (now number : ℕ) → history ≡ before ++ entry ∷ after
      → entry.cmd ≡ Accept event aims now → entry.reply ≡ says.Accepted number → IsAccountedForAll history (message_by event aims now number)
  pub messages : (before after : List Message) (message : Message) → messages_of history ≡ before ++ message ∷ after → IsAccountedForAll history message
  pub counted : CountsAreAll history

-- ---- a message that was published

module _ {O : Type 0} (kinds : Kinds O) (cells : CellsAt O) (pubsub topic : List ℕ) (served : Served O) where
  -- the event that a ledger took for a request is accounted for, behind the request, by the history that the pass has seen of that ledger
  abbrev pub IsTakenIntoAccount : Type 0
  IsTakenIntoAccount =
      IsSoundPass kinds cells served.after.seats
      → (number : ℕ) (given : IsGiven pubsub topic served (says.Accepted number)) (cell : Begun Ledger) (seat seat' : Sitting Ledger LedgerCmd LedgerReply)
      → IsAt cells served ledgers (ledger_of served.config given.place) cell seat seat'
      → (event : List ℕ) (aims : List Aim) (now : ℕ) → given.step.cmd ≡ Accept event aims now → IsAccountedForAll seat'.seen (message_by event aims now number)
