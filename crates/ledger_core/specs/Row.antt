-- Rows: deliveries that are owed, as a ledger keeps them.
use Rattle.std.specs.Prelude.{ℕ, Bool, List, Option}
use Rattle.retry_core.specs.RetryRun.{Run}
use Rattle.ledger_core.specs.declared.place.Place.{Place}

-- what is known of a row beside its place
pub record Row : Type 0 where
  pub path : List ℕ
  pub event : List ℕ
  pub hops : ℕ
  pub attempt : ℕ
  pub run : Option Run
  pub dead : Bool

-- a row at its place
abbrev pub Entry : Type 0
Entry = Place × Row
