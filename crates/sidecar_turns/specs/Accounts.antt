-- What becomes of each message that a ledger accepted.
use Rattle.std.specs.Prelude.{◌≡◌, ◌+◌, ℕ, Bool, List, [], ◌∷◌, ◌++◌, length, count_by}
use Rattle.std.specs.List.{filter, sum_by}
use mathlib.Core.Option.{some}
use lib.ListN.{get_elem?}
use Rattle.turn_cell.specs.Sitting.{Begun, Sitting}
use Rattle.ledger_core.specs.declared.plan.Aim.{Aim}
use Rattle.ledger_core.specs.declared.ledger.Ledger.{Ledger}
use Rattle.ledger_core.specs.declared.command.LedgerCmd.{LedgerCmd}
use Rattle.ledger_core.specs.declared.command.LedgerCmd.TheVariants.{Accept, Counts}
use Rattle.ledger_core.specs.declared.reply.LedgerReply.{LedgerReply}
use Rattle.ledger_core.specs.declared.reply.LedgerReply.TheVariants as says
use Rattle.ledger_core.specs.Message.{Step, Message, is_pair, messages_of, pair_of}
use Rattle.ledger_core.specs.Standing.{Standing, Status, standing, standings}
use Rattle.ledger_core.specs.Course.{count_of, is_owed, is_done, is_dropped, is_dead}
use Rattle.sidecar_objects.specs.Kind.{CellsAt, Kinds, SeatsAt}
use Rattle.sidecar_objects.specs.Passes.{IsSoundPass}

-- which of the four statuses this is: how many of them
abbrev pub statuses_of : Status → ℕ
statuses_of status = count_by (λ (is : Status → Bool). is status) (is_owed ∷ is_done ∷ is_dropped ∷ is_dead ∷ [])

-- There is one delivery of a message to a subscription that it is for, and it is exactly one of owed, done, dropped and dead-lettered
pub record HasOneStatus (history : List Step) (message : Message) (aim : Aim) : Type 0 where
  pub only : filter (λ (s : Standing). is_pair message.no aim.sub s.pair) (standings history) ≡ standing history (pair_of message aim) ∷ []
  pub one : statuses_of (standing history (pair_of message aim)).status ≡ 1

-- Of each message, to each subscription that it is for. The messages of a history are those that were accepted, and those that were made of deliveries that were dead-lettered
abbrev pub MessagesHaveOne : List Step → Type 0
MessagesHaveOne history =
    (before after : List Message) (message : Message) (earlier later : List Aim) (aim : Aim) → messages_of history ≡ before ++ message ∷ after → message.aims ≡ earlier ++ aim ∷ later
    → HasOneStatus history message aim

-- Of each event that was accepted at any time before, for each subscription for which it was given
abbrev pub AcceptedHaveOne : List Step → Type 0
AcceptedHaveOne history =
    (before after : List Step) (entry : Step) (event : List ℕ) (earlier later : List Aim) (aim : Aim) (now number : ℕ) → history ≡ before ++ entry ∷ after
    → entry.cmd ≡ Accept event (earlier ++ aim ∷ later) now → entry.reply ≡ says.Accepted number
    → HasOneStatus history (record { no = number; event = event; aims = earlier ++ aim ∷ later; hops = 0; moment = now }) aim

-- how many deliveries the messages of a history make: one of each to each subscription that it is for
abbrev pub deliveries_of : List Step → ℕ
deliveries_of history = sum_by (λ (message : Message). length message.aims) (messages_of history)

-- a ledger that is counted tells how many deliveries have each status, and these are all deliveries
pub record IsCount (history : List Step) (reply : LedgerReply) : Type 0 where
  pub each : reply ≡ says.Counts (count_of is_owed (standings history)) (count_of is_done (standings history)) (count_of is_dropped (standings history)) (count_of is_dead (standings history))
  pub all : count_of is_owed (standings history) + count_of is_done (standings history) + count_of is_dropped (standings history) + count_of is_dead (standings history) ≡ deliveries_of history

abbrev pub CountsAreAll : List Step → Type 0
CountsAreAll history = (before after : List Step) (entry : Step) → history ≡ before ++ entry ∷ after → entry.cmd ≡ Counts → IsCount before entry.reply

-- this holds of the history that the seat of each ledger has seen, of every pass
abbrev pub OfEachLedger : {O : Type 0} → Kinds O → (List Step → Type 0) → Type 0
OfEachLedger {O} kinds holds =
    (cells : CellsAt O) (seats : SeatsAt O) → IsSoundPass kinds cells seats
    → (place : ℕ) (cell : Begun Ledger) (seat : Sitting Ledger LedgerCmd LedgerReply) → get_elem? cells.ledgers place ≡ some cell → get_elem? seats.ledgers place ≡ some seat → holds seat.seen
