-- Which commands may be given.
use Rattle.std.specs.Prelude.{◌≢◌, ◌<◌, ℕ, List}
use Rattle.std.specs.List.{All, AllPairs}
use Rattle.ledger_core.specs.declared.plan.Aim.{Aim}
use Rattle.ledger_core.specs.declared.command.LedgerCmd.{LedgerCmd}
use Rattle.ledger_core.specs.declared.command.LedgerCmd.TheVariants.{Accept, Take, Settle, Counts}

-- aims are of different subscriptions, each of which has a plan
pub record AreAims (plans : ℕ) (aims : List Aim) : Type 0 where
  pub planned : All (λ aim. aim.sub < plans) aims
  pub once : AllPairs (λ a b. a.sub ≢ b.sub) aims

-- a command may be given where there are so many plans
abbrev pub IsGiven : ℕ → LedgerCmd → Type 0
IsGiven plans (Accept event aims now) = AreAims plans aims
IsGiven plans (Take now) = Unit {0}
IsGiven plans (Settle number sub claim finish now word dead_aims) = AreAims plans dead_aims
IsGiven plans Counts = Unit {0}
