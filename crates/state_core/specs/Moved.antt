-- A command at another moment.
use Rattle.std.specs.Prelude.{ℕ}
use Rattle.state_core.specs.declared.command.Cmd.{Cmd}
use Rattle.state_core.specs.declared.command.Cmd.TheVariants.{Get, Save, Delete, Bulk, Transact}

-- the command given at this moment; all else is as it was
abbrev pub at_moment : ℕ → Cmd → Cmd
at_moment moment (Get key now) = Get key moment
at_moment moment (Save items now) = Save items moment
at_moment moment (Delete key etag mode now) = Delete key etag mode moment
at_moment moment (Bulk keys skip now) = Bulk keys skip moment
at_moment moment (Transact ops now) = Transact ops moment
