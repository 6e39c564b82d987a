-- The counts of a ledger.
use Rattle.std.specs.Prelude.{◌≡◌, ℕ, List, [], ◌∷◌, Result, Ok, Err}
use Rattle.turn_cell.specs.declared.error.Exhausted.{Exhausted}
use Rattle.ledger_core.specs.declared.command.LedgerCmd.TheVariants.{Counts}
use Rattle.ledger_core.specs.declared.reply.LedgerReply.{LedgerReply}
use Rattle.ledger_core.specs.Message.{Step}
use Rattle.sidecar_objects.specs.declared.doing.Doing.{Doing}
use Rattle.sidecar_objects.specs.declared.doing.Doing.TheVariants.{Stepped}
use Rattle.sidecar_objects.specs.declared.doing.SlotStep.TheVariants.{Ledger}

-- one step of the ledger at this place that counts, and its reply; or its cell is exhausted, and there is no step
pub data Counted (place : ℕ) (events : List Doing) (result : Result LedgerReply Exhausted) : Type 0 where
  stepped : (step : Step) → step.cmd ≡ Counts → events ≡ Stepped (Ledger place step) ∷ [] → result ≡ Ok step.reply → Counted place events result
  exhausted : (e : Exhausted) → events ≡ [] → result ≡ Err e → Counted place events result
