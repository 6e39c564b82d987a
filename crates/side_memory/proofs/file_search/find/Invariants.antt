use Rattle.std.proofs.Common.{◌≡◌, drop}
use Rattle.side_memory.specs.MemoryFiles.{bytes_at}
use Rattle.side_memory.proofs.file_search.find.Given as goal

-- the file is none of the first
abbrev pub invariant-loop-i : goal.invariant-loop-i
invariant-loop-i l = bytes_at (drop l.i l.files) l.folder l.name ≡ bytes_at l.files l.folder l.name
