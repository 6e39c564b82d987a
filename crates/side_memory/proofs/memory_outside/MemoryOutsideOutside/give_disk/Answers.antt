use Rattle.std.proofs.Common.{◌≡◌, ℕ, List, Some, refl}
use Rattle.disk_memory.specs.MemoryDisk.{bytes_of}
use Rattle.side_memory.proofs.Places.{changes_at}
use Rattle.side_memory.proofs.memory_outside.MemoryOutsideOutside.give_disk.Goals as goal

pub returns-else-not-give-clause-given : goal.returns-else-not-give-clause-given
returns-else-not-give-clause-given c =
    changes_at c.args.self.now.disks_told c.args.self.now.disks.items c.give.new.places.items c.args.path.now
    (λ held held'. (bytes : List ℕ) × (Some (bytes_of c.args.disk) ≡ Some bytes) × (held' ≡ Some bytes))
    (bytes_of c.args.disk, refl, c.if-not-give.ensures.held)
    c.if-not-give.ensures.others
