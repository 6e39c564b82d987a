use Rattle.std.proofs.Common.{◌↔◌, ℕ, List, take}
use Rattle.std.specs.Prelude.{Contains, IsSome}
use Rattle.side_memory.specs.MemoryFiles.{bytes_at}
use Rattle.side_memory.proofs.file_search.names_in.Given as goal

-- the names are those of the first files in the folder
abbrev pub invariant-loop-i : goal.invariant-loop-i
invariant-loop-i l = (name : List ℕ) → Contains l.names.items name ↔ IsSome (bytes_at (take l.i l.files) l.folder name)
