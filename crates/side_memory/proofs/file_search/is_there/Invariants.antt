use Rattle.std.proofs.Common.{◌≡◌, drop}
use Rattle.side_memory.specs.MemoryFiles.{is_one_of}
use Rattle.side_memory.proofs.file_search.is_there.Given as goal

-- no folder so far is the one
abbrev pub invariant-loop-i : goal.invariant-loop-i
invariant-loop-i l = is_one_of (drop l.i l.folders) l.folder ≡ is_one_of l.folders l.folder
