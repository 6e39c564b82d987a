-- The lines that tell the counts of the ledgers.
use Rattle.std.specs.Prelude.{◌≡◌, ℕ, suc, List, [], ◌∷◌, ◌++◌, Option, Some, None, Result, Ok, Err, codes, decimal}
use Rattle.std.specs.Option.{option_or}
use Rattle.rand_core.specs.Stream.{Stream}
use Rattle.turn_cell.specs.declared.error.Exhausted.{Exhausted}
use Rattle.ledger_core.specs.declared.reply.LedgerReply.{LedgerReply}
use Rattle.ledger_core.specs.declared.reply.LedgerReply.TheVariants as says
use Rattle.policy_run.specs.Effects.{Clocked}
use Rattle.link_call.specs.LinkAt.{LinkAt}
use Rattle.conn_serve.specs.Ends.{SinkAt}
use Rattle.resource_spec.specs.Component.{Loaded}
use Rattle.sidecar_objects.specs.Kind.{CellsAt, Kinds, SeatsAt}
use Rattle.sidecar_objects.specs.Did.{Does}
use Rattle.sidecar_objects.specs.Shown.{ShowsAt}
use Rattle.sidecar_turns.specs.Counting.{Counted}
use Rattle.sidecar_turns.specs.Brokers.{brokers_of}
use Rattle.sidecar_cli.specs.Note.{AreNoted, IsNoted}

-- the line of a broker: how many deliveries are owed, done, dropped and dead-lettered
abbrev pub counts_line : List ℕ → LedgerReply → List ℕ
counts_line name (says.Counts owed done dropped dead) = codes "pubsub " ++ (name ++ (codes " owed " ++ (decimal owed ++ (codes " done " ++ (decimal done ++ (codes " dropped " ++ (decimal dropped ++ (codes " dead " ++ (decimal dead ++ 10 ∷ [])))))))))
counts_line name reply = []

-- a ledger whose cell is exhausted has no line
abbrev pub line_told : List ℕ → Result LedgerReply Exhausted → List ℕ
line_told name (Ok reply) = counts_line name reply
line_told name (Err e) = []

abbrev pub spent_told : Result LedgerReply Exhausted → Option ℕ
spent_told (Ok reply) = None
spent_told (Err e) = Some e.count

-- the broker of this name, whose ledger stands at this place, was counted by a pass that did nothing else
pub record IsCountedOf {O : Type 0} (kinds : Kinds O) (cells : CellsAt O) (name : List ℕ) (place : ℕ) (seats : SeatsAt O) (text : List ℕ) (spent : Option ℕ) (seats' : SeatsAt O) : Type 0 where
  pub result : Result LedgerReply Exhausted
  pub does : (clock : Clocked) (link : LinkAt) (words : Stream) → Does kinds cells (record { seats = seats; clock = clock; link = link; words = words }) (record { seats = seats'; clock = clock; link = link; words = words }) (λ events. Counted place events result)
  pub shows : (count : ℕ) → result ≡ Err (record { count = count }) → ShowsAt place count seats'.ledgers
  pub text_is : text ≡ line_told name result
  pub spent_is : spent ≡ spent_told result

-- such a broker was counted, and its text was written to the note
abbrev pub IsToldOf : {O : Type 0} → Kinds O → CellsAt O → List ℕ → ℕ → SeatsAt O → SeatsAt O → SinkAt → SinkAt → Option ℕ → Type 0
IsToldOf kinds cells name place seats seats' note note' spent = (text : List ℕ) × IsCountedOf kinds cells name place seats text spent seats' × IsNoted note note' text

-- brokers whose ledgers stand from this place on, one after the other, each with a text; the first count of an exhausted cell is what is spent
pub data AreCountedOf {O : Type 0} (kinds : Kinds O) (cells : CellsAt O) : ℕ → List Loaded → SeatsAt O → List (List ℕ) → Option ℕ → SeatsAt O → Type 0 where
  none : (place : ℕ) (seats : SeatsAt O) → AreCountedOf kinds cells place [] seats [] None seats
  more : (place : ℕ) (c : Loaded) (cs : List Loaded) (seats between seats' : SeatsAt O) (text : List ℕ) (texts : List (List ℕ)) (spent later : Option ℕ) → IsCountedOf kinds cells c.name place seats text spent between → AreCountedOf kinds cells (suc place) cs between texts later seats'
      → AreCountedOf kinds cells place (c ∷ cs) seats (text ∷ texts) (option_or spent later) seats'

-- all brokers were counted, in order, and the text of each was written to the note
pub record IsTold {O : Type 0} (kinds : Kinds O) (cells : CellsAt O) (components : List Loaded) (seats seats' : SeatsAt O) (note note' : SinkAt) (spent : Option ℕ) : Type 0 where
  pub texts : List (List ℕ)
  pub counted : AreCountedOf kinds cells 0 (brokers_of components) seats texts spent seats'
  pub noted : AreNoted note note' texts
