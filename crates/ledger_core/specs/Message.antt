-- Messages, and the pairs of a message and a subscription that it is for.
use Rattle.std.specs.Prelude.{ℕ, ◌+◌, ◌==◌, ◌&&◌, Bool, List, [], ◌∷◌, ◌++◌, length, map, fold, find, Option, Some, None}
use Rattle.std.specs.List.{flat_map}
use Rattle.turn_cell.specs.declared.entry.Entry.{Entry}
use Rattle.ledger_core.specs.declared.plan.Aim.{Aim}
use Rattle.ledger_core.specs.declared.command.LedgerCmd.{LedgerCmd}
use Rattle.ledger_core.specs.declared.command.LedgerCmd.TheVariants.{Accept, Settle}
use Rattle.ledger_core.specs.declared.reply.LedgerReply.{LedgerReply}
use Rattle.ledger_core.specs.declared.reply.LedgerReply.TheVariants.{Accepted, Dead}

-- an entry of a ledger's history
abbrev pub Step : Type 0
Step = Entry LedgerCmd LedgerReply

-- an event that is owed to some subscriptions from a moment on; `hops` is how many times it went to a dead-letter topic
pub record Message : Type 0 where
  pub no : ℕ
  pub event : List ℕ
  pub aims : List Aim
  pub hops : ℕ
  pub moment : ℕ

-- a delivery of a message to one subscription; without a path there is nowhere to deliver to
pub record Pair : Type 0 where
  pub no : ℕ
  pub sub : ℕ
  pub path : Option (List ℕ)
  pub event : List ℕ
  pub hops : ℕ
  pub moment : ℕ

-- one pair for each aim of a message
abbrev pub pair_of : Message → Aim → Pair
pair_of message aim = record { no = message.no; sub = aim.sub; path = aim.path; event = message.event; hops = message.hops; moment = message.moment }

abbrev pub pairs_in : Message → List Pair
pairs_in message = map (pair_of message) message.aims

-- the pair of a message and a subscription
abbrev pub is_pair : ℕ → ℕ → Pair → Bool
is_pair number sub pair = (pair.no == number) && (pair.sub == sub)

abbrev pub pair_at : ℕ → ℕ → List Pair → Option Pair
pair_at number sub pairs = find (is_pair number sub) pairs

-- a dead letter: the event of the pair that was settled, with one hop more
abbrev pub letter_of : ℕ → List Aim → ℕ → Option Pair → List Message
letter_of number aims now None = []
letter_of number aims now (Some pair) = record { no = number; event = pair.event; aims = aims; hops = pair.hops + 1; moment = now } ∷ []

-- the message that an entry makes after these, the next in number
abbrev pub made_by : List Message → LedgerCmd → LedgerReply → List Message
made_by messages (Accept event aims now) (Accepted number) = record { no = length messages + 1; event = event; aims = aims; hops = 0; moment = now } ∷ []
made_by messages (Settle number sub claim finish now word dead_aims) (Dead new) = letter_of (length messages + 1) dead_aims now (pair_at number sub (flat_map pairs_in messages))
made_by messages cmd reply = []

-- the messages of a history, numbered from 1 in order, and their pairs
abbrev pub messages_after : List Message → Step → List Message
messages_after messages entry = messages ++ made_by messages entry.cmd entry.reply

abbrev pub messages_of : List Step → List Message
messages_of history = fold messages_after [] history

abbrev pub pairs_of : List Step → List Pair
pairs_of history = flat_map pairs_in (messages_of history)
