-- The line of each broker, by its place.
use Rattle.std.specs.Prelude.{◌≡◌, ◌<◌, ◌≤◌, ℕ, List, [], ◌∷◌, length, Option, Result, Ok, Err}
use mathlib.Core.Option.{some}
use lib.ListN.{get_elem?}
use Rattle.turn_cell.specs.declared.error.Exhausted.{Exhausted}
use Rattle.turn_cell.specs.Growth.{EachGrew}
use Rattle.ledger_core.specs.declared.command.LedgerCmd.TheVariants.{Counts}
use Rattle.ledger_core.specs.declared.reply.LedgerReply.{LedgerReply}
use Rattle.ledger_core.specs.Message.{Step}
use Rattle.conn_serve.specs.Ends.{SinkAt}
use Rattle.resource_spec.specs.Component.{Loaded}
use Rattle.sidecar_objects.specs.Kind.{CellsAt, Kinds, SeatsAt, ledgers}
use Rattle.sidecar_turns.specs.Brokers.{brokers_of}
use Rattle.sidecar_cli.specs.Counting.{IsTold, line_told}

-- what a seat did to give this answer: one step, which counts; or none, where its cell is exhausted
pub data HasCounted (steps : List Step) (result : Result LedgerReply Exhausted) : Type 0 where
  counted : (step : Step) → step.cmd ≡ Counts → steps ≡ step ∷ [] → result ≡ Ok step.reply → HasCounted steps result
  exhausted : (e : Exhausted) → steps ≡ [] → result ≡ Err e → HasCounted steps result

-- the broker at this place among the brokers, and the text at the same place: it tells what the ledger there answered
pub record HasOwnLine (brokers : List Loaded) (texts : List (List ℕ)) (made : ℕ → List Step) (k : ℕ) : Type 0 where
  pub broker : Loaded
  pub stands : get_elem? brokers k ≡ some broker
  pub result : Result LedgerReply Exhausted
  pub counted : HasCounted (made k) result
  pub line : get_elem? texts k ≡ some (line_told broker.name result)

-- there are as many texts as brokers, each broker has its own, and no ledger made any other step
pub record HaveOwnLines {O : Type 0} (kinds : Kinds O) (cells : CellsAt O) (components : List Loaded) (seats seats' : SeatsAt O) (texts : List (List ℕ)) : Type 0 where
  pub made : ℕ → List Step
  pub grew : EachGrew (kinds ledgers) cells.ledgers seats.ledgers made seats'.ledgers
  pub wide : length texts ≡ length (brokers_of components)
  pub own : (k : ℕ) → k < length (brokers_of components) → HasOwnLine (brokers_of components) texts made k
  pub others : (k : ℕ) → length (brokers_of components) ≤ k → made k ≡ []

module _ {O : Type 0} (kinds : Kinds O) where
  -- the texts that are written as all brokers are counted and told are such lines
  abbrev pub BrokersHaveOwnLines : Type 0
  BrokersHaveOwnLines =
      (cells : CellsAt O) (components : List Loaded) (seats seats' : SeatsAt O) (note note' : SinkAt) (spent : Option ℕ)
      → (told : IsTold kinds cells components seats seats' note note' spent) → HaveOwnLines kinds cells components seats seats' told.texts
