use Rattle.std.proofs.Common.{Some, None, refl}
use Rattle.side_memory.specs.declared.disk_places.DiskPlace.{DiskPlace}
use Rattle.side_memory.proofs.Places.{held_in, lent_changed}
use Rattle.side_memory.proofs.disk_places.give.Goals as goal

pub returns-in-Some-clause-held : goal.returns-in-Some-clause-held
returns-in-Some-clause-held c =
    let new : DiskPlace = record { path = c.index_mut.result.now.path; disk = Some c.args.disk; failing = c.index_mut.result.now.failing } in
    (lent_changed held_in None c.args.places.now.items c.deref.result.now c.args.path.now c.in-Some.i c.index_mut.result.now new c.deref.ensures.value c.in-Some.ensures c.index_mut.ensures.value refl).0

pub returns-in-Some-clause-others : goal.returns-in-Some-clause-others
returns-in-Some-clause-others c =
    let new : DiskPlace = record { path = c.index_mut.result.now.path; disk = Some c.args.disk; failing = c.index_mut.result.now.failing } in
    (lent_changed held_in None c.args.places.now.items c.deref.result.now c.args.path.now c.in-Some.i c.index_mut.result.now new c.deref.ensures.value c.in-Some.ensures c.index_mut.ensures.value refl).1
