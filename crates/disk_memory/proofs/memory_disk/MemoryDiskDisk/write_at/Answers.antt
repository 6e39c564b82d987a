use Rattle.disk_memory.proofs.Disks.{write_leaves_either}
use Rattle.disk_memory.proofs.memory_disk.MemoryDiskDisk.write_at.Goals as goal

pub returns-in-Ok-clause-crash : goal.returns-in-Ok-clause-crash
returns-in-Ok-clause-crash c after left =
    write_leaves_either c.write.result _ c.write.new.self c.args.at c.args.piece.now after c.write.ensures.ok c.write.ensures.err c.requires left
