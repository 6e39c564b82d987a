-- Which replies a command may have.
use Rattle.std.specs.Prelude.{◌≡◌, ◌≢◌, ⊤}
use Rattle.ledger_core.specs.declared.command.Finish.{Finish}
use Rattle.ledger_core.specs.declared.command.Finish.TheVariants as ended
use Rattle.ledger_core.specs.declared.command.LedgerCmd.{LedgerCmd}
use Rattle.ledger_core.specs.declared.command.LedgerCmd.TheVariants.{Accept, Take, Settle, Counts}
use Rattle.ledger_core.specs.declared.reply.Reason.TheVariants as reason
use Rattle.ledger_core.specs.declared.reply.LedgerReply.{LedgerReply}
use Rattle.ledger_core.specs.declared.reply.LedgerReply.TheVariants as says

-- to a settling, by how the delivery ended
abbrev pub FitsEnd : Finish → LedgerReply → Type 0
FitsEnd finish says.NotTaken = ⊤
FitsEnd ended.Success says.Done = ⊤
FitsEnd ended.Drop (says.Dropped why) = why ≡ reason.Asked
FitsEnd (ended.Later at) (says.Again due) = due ≡ at
FitsEnd ended.Retry (says.Again due) = ⊤
FitsEnd ended.Retry (says.Dropped why) = why ≢ reason.Asked
FitsEnd ended.Retry (says.Dead number) = ⊤
FitsEnd ended.Retry (says.Full rows bytes) = ⊤
FitsEnd ended.Retry says.NoMemory = ⊤
FitsEnd finish reply = ⊥

abbrev pub Fits : LedgerCmd → LedgerReply → Type 0
Fits (Accept event aims now) (says.Accepted number) = ⊤
Fits (Accept event aims now) (says.Full rows bytes) = ⊤
Fits (Accept event aims now) says.NoMemory = ⊤
Fits (Accept event aims now) reply = ⊥
Fits (Take now) (says.Taken number sub claim event path attempt) = ⊤
Fits (Take now) (says.Idle next) = ⊤
Fits (Take now) says.NoMemory = ⊤
Fits (Take now) reply = ⊥
Fits (Settle number sub claim finish now word dead_aims) reply = FitsEnd finish reply
Fits Counts (says.Counts owed done dropped dead) = ⊤
Fits Counts reply = ⊥
