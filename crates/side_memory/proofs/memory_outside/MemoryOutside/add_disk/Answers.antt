use Rattle.side_memory.proofs.Places.{changes_at_ok}
use Rattle.side_memory.proofs.memory_outside.MemoryOutside.add_disk.Goals as goal

pub returns-clause-held : goal.returns-clause-held
returns-clause-held c =
    changes_at_ok c.put.result c.args.self.now.disks_told c.args.self.now.disks.items c.put.new.places.items c.args.path.now c.args.bytes.now c.put.ensures.held c.put.ensures.others
