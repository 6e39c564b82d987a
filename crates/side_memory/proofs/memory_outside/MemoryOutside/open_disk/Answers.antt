use Rattle.std.proofs.Common.{◌≡◌, ℕ, List, length, Option, Some, None, ap, sym, ◌∙◌}
use Rattle.std.specs.Prelude.{unwrap_or}
use Rattle.side_world.specs.Outside.{bytes_or_none}
use Rattle.disk_memory.specs.MemoryDisk.{bytes_of}
use Rattle.side_memory.proofs.Places.{changes_at}
use Rattle.side_memory.proofs.memory_outside.MemoryOutside.open_disk.Goals as goal

pub returns-in-Ok-clause-taken : goal.returns-in-Ok-clause-taken
returns-in-Ok-clause-taken c =
    changes_at c.args.self.now.disks_told c.args.self.now.disks.items c.take.new.places.items c.args.path.now
    (λ held held'. (held' ≡ None) × (length (bytes_of c.in-Ok.disk) ≡ length (bytes_or_none held)) × ((bytes : List ℕ) → Some (bytes_of c.in-Ok.disk) ≡ Some bytes → bytes ≡ bytes_or_none held))
    (c.in-Ok.ensures.gone, ap (λ (z : List ℕ). length z) c.in-Ok.ensures.disk.same, λ bytes is. ap (λ (z : Option (List ℕ)). unwrap_or z bytes) (sym is) ∙ c.in-Ok.ensures.disk.same)
    c.in-Ok.ensures.others
