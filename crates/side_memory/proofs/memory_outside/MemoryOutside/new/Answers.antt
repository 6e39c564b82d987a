use Rattle.std.proofs.Common.{ap, refl, List, Option}
use Rattle.side_memory.specs.MemoryOutside.{held_at, came_back, Parts}
use Rattle.side_memory.specs.declared.disk_places.DiskPlace.{DiskPlace}
use Rattle.side_memory.proofs.memory_outside.MemoryOutside.new.Goals as goal

pub returns-clause-unused : goal.returns-clause-unused
returns-clause-unused c = record {
  disks = (held_at c.new.result.items, refl, λ path. ap (λ (places : List DiskPlace). held_at places path) c.new.ensures.items);
  backs = (came_back c.new-3.result.items, refl, λ number. ap (λ (backs : List (Option Parts)). came_back backs number) c.new-3.ensures.items);
  calls = c.new-5.ensures;
  numbers = c.new-4.ensures;
  no_faults = c.new-7.ensures.faults;
}
