-- What is held while a document is read.
use Rattle.std.specs.Prelude.{◌≡◌, Result, Ok, Err}
use Rattle.resource_spec.specs.declared.field_err.FieldErr.{FieldErr}
use Rattle.resource_spec.specs.Field.{IsFieldErr}
use Rattle.policy_spec.specs.declared.load.Tables.{Tables as TablesHeld}
use Rattle.policy_spec.specs.Resiliency.{Tables}

abbrev pub tables_shown : TablesHeld → Tables
tables_shown tables = record { timeouts = tables.timeouts; retries = tables.retries; breakers = tables.breakers }

-- what is read are these tables, but for a refusal
abbrev pub IsTables : Result TablesHeld FieldErr → Result Tables FieldErr → Type 0
IsTables (Ok tables) wanted = wanted ≡ Ok (tables_shown tables)
IsTables (Err e) wanted = IsFieldErr e wanted
