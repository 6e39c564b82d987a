-- Which commands may be given.
use Rattle.std.specs.Prelude.{ℕ, ◌≤◌, ◌<◌, ◌^◌, Option, Some, None}
use Rattle.std.specs.List.{All}
use Rattle.state_core.specs.declared.command.Op.{Op}
use Rattle.state_core.specs.declared.command.Op.TheVariants.{Upsert, Remove}
use Rattle.state_core.specs.declared.command.Cmd.{Cmd}
use Rattle.state_core.specs.Judged.{ops_of}

-- seconds to live are from 1 to 2^32 - 1
abbrev pub IsTtl : Option ℕ → Type 0
IsTtl None = Unit {0}
IsTtl (Some seconds) = (1 ≤ seconds) × (seconds < 2 ^ 32)

abbrev pub HasTtl : Op → Type 0
HasTtl (Upsert item) = IsTtl item.ttl
HasTtl (Remove key etag mode) = Unit {0}

-- a command may be given
abbrev pub IsTaken : Cmd → Type 0
IsTaken cmd = All HasTtl (ops_of cmd)
