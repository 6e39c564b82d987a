-- Which replies fit which commands.
use Rattle.meta_api.specs.declared.command.NotesCmd.{NotesCmd}
use Rattle.meta_api.specs.declared.command.NotesCmd.TheVariants.{Put, List as list}
use Rattle.meta_api.specs.declared.command.NotesReply.{NotesReply}
use Rattle.meta_api.specs.declared.command.NotesReply.TheVariants.{Noted, Full, Listed, NoMemory}

abbrev pub Fits : NotesCmd → NotesReply → Type 0
Fits (Put name value) Noted = Unit {0}
Fits (Put name value) (Full names bytes) = Unit {0}
Fits (Put name value) (Listed pairs) = ⊥
Fits (Put name value) NoMemory = Unit {0}
Fits list Noted = ⊥
Fits list (Full names bytes) = ⊥
Fits list (Listed pairs) = Unit {0}
Fits list NoMemory = Unit {0}
