-- The same command at different moments.
use Rattle.std.specs.Prelude.{◌≡◌, ℕ, refl}
use Rattle.state_core.specs.declared.command.Cmd.{Cmd}
use Rattle.state_core.specs.declared.command.Cmd.TheVariants.{Get, Save, Delete, Bulk, Transact}
use Rattle.state_core.specs.Moved.{at_moment}

-- the same command, maybe at another moment
abbrev pub IsSame : Cmd → Cmd → Type 0
IsSame cmd after = (moment : ℕ) → at_moment moment after ≡ at_moment moment cmd

pub moved_again : (cmd : Cmd) (now : ℕ) → IsSame cmd (at_moment now cmd)
moved_again (Get key old) now moment = refl
moved_again (Save items old) now moment = refl
moved_again (Delete key etag mode old) now moment = refl
moved_again (Bulk keys skip old) now moment = refl
moved_again (Transact ops old) now moment = refl
