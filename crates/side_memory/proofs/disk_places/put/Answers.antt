use Rattle.std.proofs.Common.{Some, None, [], ap, subst, ◌∙◌}
use Rattle.side_memory.specs.declared.disk_places.DiskPlace.{DiskPlace}
use Rattle.side_memory.proofs.Places.{held_in, failing_in, lent_added, changed}
use Rattle.side_memory.specs.MemoryOutside.{IsPlaceOf}
use Rattle.side_memory.proofs.disk_places.put.Goals as goal

pub returns-in-Some-clause-held : goal.returns-in-Some-clause-held
returns-in-Some-clause-held c =
    let new : DiskPlace = record { path = c.in_ok-from_bytes.field-0; disk = Some c.in_ok-disk.disk; failing = c.args.failing } in
    let here = subst (λ z. IsPlaceOf z c.args.path.now (Some c.in-Some.i)) c.deref.ensures.value c.in-Some.ensures in
    (changed held_in None c.args.places.now.items c.args.path.now c.in-Some.i new here c.in_ok-from_bytes.ensures).0 ∙ ap Some c.in_ok-disk.ensures.opened.same

pub returns-in-Some-clause-others : goal.returns-in-Some-clause-others
returns-in-Some-clause-others c =
    let new : DiskPlace = record { path = c.in_ok-from_bytes.field-0; disk = Some c.in_ok-disk.disk; failing = c.args.failing } in
    let here = subst (λ z. IsPlaceOf z c.args.path.now (Some c.in-Some.i)) c.deref.ensures.value c.in-Some.ensures in
    (changed held_in None c.args.places.now.items c.args.path.now c.in-Some.i new here c.in_ok-from_bytes.ensures).1

pub returns-in_ok-push-in-None-clause-held : goal.returns-in_ok-push-in-None-clause-held
returns-in_ok-push-in-None-clause-held c =
    let new : DiskPlace = record { path = c.in_ok-from_bytes.field-0; disk = Some c.in_ok-disk.disk; failing = c.args.failing } in
    (lent_added held_in None c.args.places.now.items c.deref.result.now c.push.new.self.items c.args.path.now new c.deref.ensures.value c.in-None.ensures c.in_ok-from_bytes.ensures c.in_ok-push-in-None.ensures.items).0
    ∙ ap Some c.in_ok-disk.ensures.opened.same

pub returns-in_ok-push-in-None-clause-others : goal.returns-in_ok-push-in-None-clause-others
returns-in_ok-push-in-None-clause-others c =
    let new : DiskPlace = record { path = c.in_ok-from_bytes.field-0; disk = Some c.in_ok-disk.disk; failing = c.args.failing } in
    (lent_added held_in None c.args.places.now.items c.deref.result.now c.push.new.self.items c.args.path.now new c.deref.ensures.value c.in-None.ensures c.in_ok-from_bytes.ensures c.in_ok-push-in-None.ensures.items).1

pub returns-in-Some-clause-failing : goal.returns-in-Some-clause-failing
returns-in-Some-clause-failing c =
    let new : DiskPlace = record { path = c.in_ok-from_bytes.field-0; disk = Some c.in_ok-disk.disk; failing = c.args.failing } in
    let here = subst (λ z. IsPlaceOf z c.args.path.now (Some c.in-Some.i)) c.deref.ensures.value c.in-Some.ensures in
    (changed failing_in [] c.args.places.now.items c.args.path.now c.in-Some.i new here c.in_ok-from_bytes.ensures).0

pub returns-in_ok-push-in-None-clause-failing : goal.returns-in_ok-push-in-None-clause-failing
returns-in_ok-push-in-None-clause-failing c =
    let new : DiskPlace = record { path = c.in_ok-from_bytes.field-0; disk = Some c.in_ok-disk.disk; failing = c.args.failing } in
    (lent_added failing_in [] c.args.places.now.items c.deref.result.now c.push.new.self.items c.args.path.now new c.deref.ensures.value c.in-None.ensures c.in_ok-from_bytes.ensures c.in_ok-push-in-None.ensures.items).0
