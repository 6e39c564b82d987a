-- What a book lists, in terms of its history alone.
use Rattle.std.specs.Prelude.{◌≡◌, ℕ, List, [], ◌∷◌, fold, bytes_eq, Option, Some, None, if◌then◌else◌}
use Rattle.std.specs.Ordering.{nat_cmp}
use Rattle.std.specs.declared.cmp.Ordering.TheVariants.{Less}
use Rattle.std.specs.Cmp.Lexicographic.{slice_cmp}
use Rattle.meta_api.specs.declared.command.Pair.{Pair}
use Rattle.meta_api.specs.declared.command.NotesCmd.{NotesCmd}
use Rattle.meta_api.specs.declared.command.NotesCmd.TheVariants.{Put, List as list}
use Rattle.meta_api.specs.declared.command.NotesReply.{NotesReply}
use Rattle.meta_api.specs.declared.command.NotesReply.TheVariants.{Noted, Full, Listed, NoMemory}
use Rattle.meta_api.specs.History.{Step}

-- the value that pairs have for a name
abbrev pub value_in : List ℕ → List Pair → Option (List ℕ)
value_in name [] = None
value_in name (pair ∷ pairs) = if bytes_eq pair.name name then Some pair.value else value_in name pairs

-- the value that a name has after one more command
abbrev pub value_by : List ℕ → Option (List ℕ) → NotesCmd → NotesReply → Option (List ℕ)
value_by name before (Put other value) Noted = if bytes_eq other name then Some value else before
value_by name before (Put other value) (Full names bytes) = before
value_by name before (Put other value) (Listed pairs) = before
value_by name before (Put other value) NoMemory = before
value_by name before list reply = before

-- the value that was noted last for a name
abbrev pub last_value : List ℕ → List Step → Option (List ℕ)
last_value name history = fold (λ before (entry : Step). value_by name before entry.cmd entry.reply) None history

-- names rise in byte order, so that each stands once
abbrev pub Rise : List Pair → Type 0
Rise [] = Unit {0}
Rise (pair ∷ []) = Unit {0}
Rise (pair ∷ next ∷ pairs) = (slice_cmp nat_cmp pair.name next.name ≡ Less) × Rise (next ∷ pairs)
