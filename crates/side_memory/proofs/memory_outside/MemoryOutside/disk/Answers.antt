use Rattle.std.proofs.Common.{List, Some, None, ap, sym, subst, ◌∙◌}
use Rattle.std.specs.Prelude.{option_map}
use Rattle.disk_memory.specs.MemoryDisk.{bytes_of}
use Rattle.side_memory.specs.MemoryOutside.{IsPlaceOf}
use Rattle.side_memory.specs.declared.disk_places.DiskPlace.{DiskPlace}
use Rattle.side_memory.proofs.Lent.{lent_option}
use Rattle.side_memory.proofs.Places.{held_in, found, absent}
use Rattle.side_memory.proofs.memory_outside.MemoryOutside.disk.Goals as goal

pub returns-in-Some : goal.returns-in-Some
returns-in-Some c =
    let places = c.args.self.now.disks.items in
    let path = c.args.path.now in
    let here = subst (λ (z : List DiskPlace). IsPlaceOf z path (Some c.in-Some.place)) c.deref.ensures.value c.in-Some.ensures in
    lent_option bytes_of c.as_ref.result
    ∙ (ap (option_map bytes_of) c.as_ref.ensures.value
    ∙ (ap held_in c.index.ensures ∙ sym (found held_in None places path c.in-Some.place c.index.result.now here)))

pub returns-in-None : goal.returns-in-None
returns-in-None c =
    let nowhere = subst (λ (z : List DiskPlace). IsPlaceOf z c.args.path.now None) c.deref.ensures.value c.in-None.ensures in
    sym (absent held_in None c.args.self.now.disks.items c.args.path.now nowhere)
