-- Steps of a ledger in a turn of delivery: what is taken, and how it is settled.
use Rattle.std.specs.Prelude.{◌≡◌, ◌≢◌, ℕ, ◌+◌, List, [], ◌∷◌}
use Rattle.side_world.specs.declared.link.LinkCall.{LinkCall}
use Rattle.ledger_core.specs.declared.plan.Aim.{Aim}
use Rattle.ledger_core.specs.declared.command.Finish.{Finish}
use Rattle.ledger_core.specs.declared.command.Finish.TheVariants.{Later}
use Rattle.ledger_core.specs.declared.command.LedgerCmd.{LedgerCmd}
use Rattle.ledger_core.specs.declared.command.LedgerCmd.TheVariants.{Settle}
use Rattle.ledger_core.specs.declared.reply.LedgerReply.{LedgerReply}
use Rattle.ledger_core.specs.declared.reply.LedgerReply.TheVariants as says
use Rattle.ledger_core.specs.Fits.{Fits}
use Rattle.ledger_core.specs.Message.{Step}
use Rattle.policy_run.specs.declared.outcome.Refusal.{Refusal}
use Rattle.policy_run.specs.declared.outcome.Refusal.TheVariants as refusal
use Rattle.policy_run.specs.Event.{Event, own, moment}
pub use Rattle.delivery_turn.specs.declared.row.Row.{Row}
use Rattle.delivery_turn.specs.declared.ending.Turn.{Turn}
use Rattle.delivery_turn.specs.declared.ending.Turn.TheVariants.{Delivered, Held, Exhausted}

-- what a turn does of its own, beside steps of the breaker, words, moments and pauses: steps of the ledger, and calls of the link
pub data Own : Type 0 where
  entered : Step → Own
  asked : LinkCall → Own

-- a moment was read, and then the ledger answered the command of that moment so; the answer is one that fits the command
pub record Answered (cmd : ℕ → LedgerCmd) (reply : LedgerReply) (events : List (Event Own)) : Type 0 where
  pub now : ℕ
  pub step : Step
  pub told : step.cmd ≡ cmd now
  pub answer : step.reply ≡ reply
  pub fits : Fits (cmd now) reply
  pub whole : events ≡ moment now ∷ own (entered step) ∷ []

-- a moment was read, and then the ledger's cell was exhausted: no step
abbrev pub Stuck : List (Event Own) → Type 0
Stuck events = (now : ℕ) × (events ≡ moment now ∷ [])

-- the settling of a row, which may depend on its moment
abbrev pub settle : Row → (ℕ → Finish) → ℕ → List Aim → ℕ → LedgerCmd
settle row finish word dead now = Settle row.no row.sub row.claim (finish now) now word dead

-- The row is settled so, and the turn carries the reply. A settling without memory is the last step; where the ledger's cell is exhausted, the row stays held
pub data Settles (row : Row) (finish : ℕ → Finish) (word : ℕ) (dead : List Aim) (events : List (Event Own)) (turn : Turn) : Type 0 where
  settled : (reply : LedgerReply) → reply ≢ says.NoMemory → Answered (settle row finish word dead) reply events → turn ≡ Delivered row.no row.sub reply → Settles row finish word dead events turn
  lacks : Answered (settle row finish word dead) says.NoMemory events → turn ≡ Held → Settles row finish word dead events turn
  exhausted : (count : ℕ) → Stuck events → turn ≡ Exhausted count → Settles row finish word dead events turn

-- ---- settlings that draw no word and name no dead letter

-- after a refusal of the breaker: one past the moment up to which it is open, or 1,000 ms past the settling's moment
abbrev pub postponed : Refusal → ℕ → Finish
postponed (refusal.Opened until) now = Later (until + 1)
postponed (refusal.TooMany out) now = Later (now + 1000)

-- due again at the settling's own moment
abbrev pub at_once : ℕ → Finish
at_once now = Later now

-- The row is let go, due again at once, and the turn is what it came to before; where the ledger's cell is exhausted, the row stays held
pub data LetsGo (row : Row) (came : Turn) (events : List (Event Own)) (turn : Turn) : Type 0 where
  released : (reply : LedgerReply) → Answered (settle row at_once 0 []) reply events → turn ≡ came → LetsGo row came events turn
  kept : (count : ℕ) → Stuck events → turn ≡ Exhausted count → LetsGo row came events turn
