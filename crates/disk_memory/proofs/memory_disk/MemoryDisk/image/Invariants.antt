use Rattle.std.proofs.Common.{take}
use Rattle.std.specs.Prelude.{reverse}
use Rattle.disk_memory.proofs.Disks.{Followed}
use Rattle.disk_memory.proofs.memory_disk.MemoryDisk.image.Given as goal

abbrev pub invariant-loop-note : goal.invariant-loop-note
invariant-loop-note l = Followed l.self.opening.items (reverse (take l.note-index l.note-items)) l.whole.items l.image.items
