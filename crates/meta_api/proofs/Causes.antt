-- Want of memory is no other cause.
use Rattle.std.proofs.Common.{◌≡◌, ℕ}
use Rattle.std.specs.Prelude.{Err, IsErrOf}
use Rattle.side_base.specs.declared.text.TextErr.{TextErr}
use Rattle.side_base.specs.declared.text.TextErr.TheVariants as text
use Rattle.meta_api.specs.declared.command.NoteErr.{NoteErr}
use Rattle.meta_api.specs.declared.command.NoteErr.TheVariants as note

pub is_not_broken : (T : Type 0) (error : TextErr) (at : ℕ) → error ≡ text.NoMemory → IsErrOf {T = T} {E = TextErr} (Err error) (text.NotUtf8 at) → ⊥
is_not_broken T error at is told = cc

pub is_text : (T : Type 0) → IsErrOf {T = T} {E = NoteErr} (Err note.NoMemory) note.NotText → ⊥
is_text T told = cc
