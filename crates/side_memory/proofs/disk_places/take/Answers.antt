use Rattle.std.proofs.Common.{rules, None, [], ap, subst, sym, ◌∙◌, Option, List, ℕ}
use Rattle.side_world.specs.Outside.{bytes_or_none}
use Rattle.std.specs.Prelude.{option_map}
use Rattle.disk_memory.specs.MemoryDisk.{IsOpened, IsToFail, bytes_of}
use Rattle.side_memory.specs.declared.disk_places.DiskPlace.{DiskPlace}
use Rattle.side_memory.proofs.Places.{held_in, failing_in, lent_changed, lent_added}
use Rattle.side_memory.proofs.disk_places.take.Goals as goal

pub returns-in_ok-disk-in-Some-clause-disk : goal.returns-in_ok-disk-in-Some-clause-disk
returns-in_ok-disk-in-Some-clause-disk c =
    let held = (lent_changed held_in None c.args.places.now.items c.deref.result.now c.args.path.now c.in-Some.i c.index_mut.result.now c.take_from.new.place c.deref.ensures.value c.in-Some.ensures c.index_mut.ensures.value c.in_ok-disk-in-Some.ensures.path).2 in
    subst (λ (z : Option (List ℕ)). IsOpened (bytes_or_none z) c.in_ok-disk-in-Some.disk) (sym held) c.in_ok-disk-in-Some.ensures.disk

pub returns-in_ok-disk-in-Some-clause-gone : goal.returns-in_ok-disk-in-Some-clause-gone
returns-in_ok-disk-in-Some-clause-gone c =
    (lent_changed held_in None c.args.places.now.items c.deref.result.now c.args.path.now c.in-Some.i c.index_mut.result.now c.take_from.new.place c.deref.ensures.value c.in-Some.ensures c.index_mut.ensures.value c.in_ok-disk-in-Some.ensures.path).0
    ∙ ap (λ disk. option_map bytes_of disk) c.in_ok-disk-in-Some.ensures.gone

pub returns-in_ok-disk-in-Some-clause-others : goal.returns-in_ok-disk-in-Some-clause-others
returns-in_ok-disk-in-Some-clause-others c =
    (lent_changed held_in None c.args.places.now.items c.deref.result.now c.args.path.now c.in-Some.i c.index_mut.result.now c.take_from.new.place c.deref.ensures.value c.in-Some.ensures c.index_mut.ensures.value c.in_ok-disk-in-Some.ensures.path).1

pub returns-in_ok-push-in-None-clause-disk : goal.returns-in_ok-push-in-None-clause-disk
returns-in_ok-push-in-None-clause-disk c =
    let new : DiskPlace = record { path = c.in_ok-from_bytes-in-None.field-0; disk = None; failing = c.new-in-None-2.result } in
    let held = (lent_added held_in None c.args.places.now.items c.deref.result.now c.push.new.self.items c.args.path.now new c.deref.ensures.value c.in-None.ensures c.in_ok-from_bytes-in-None.ensures c.in_ok-push-in-None.ensures.items).2 in
    subst (λ (z : Option (List ℕ)). IsOpened (bytes_or_none z) c.in_ok-disk-in-None.disk) (sym held) c.in_ok-disk-in-None.ensures.opened

pub returns-in_ok-push-in-None-clause-gone : goal.returns-in_ok-push-in-None-clause-gone
returns-in_ok-push-in-None-clause-gone c =
    let new : DiskPlace = record { path = c.in_ok-from_bytes-in-None.field-0; disk = None; failing = c.new-in-None-2.result } in
    (lent_added held_in None c.args.places.now.items c.deref.result.now c.push.new.self.items c.args.path.now new c.deref.ensures.value c.in-None.ensures c.in_ok-from_bytes-in-None.ensures c.in_ok-push-in-None.ensures.items).0

pub returns-in_ok-push-in-None-clause-others : goal.returns-in_ok-push-in-None-clause-others
returns-in_ok-push-in-None-clause-others c =
    let new : DiskPlace = record { path = c.in_ok-from_bytes-in-None.field-0; disk = None; failing = c.new-in-None-2.result } in
    (lent_added held_in None c.args.places.now.items c.deref.result.now c.push.new.self.items c.args.path.now new c.deref.ensures.value c.in-None.ensures c.in_ok-from_bytes-in-None.ensures c.in_ok-push-in-None.ensures.items).1

pub returns-in_ok-disk-in-Some-clause-plan : goal.returns-in_ok-disk-in-Some-clause-plan
returns-in_ok-disk-in-Some-clause-plan c =
    let failing = (lent_changed failing_in [] c.args.places.now.items c.deref.result.now c.args.path.now c.in-Some.i c.index_mut.result.now c.take_from.new.place c.deref.ensures.value c.in-Some.ensures c.index_mut.ensures.value c.in_ok-disk-in-Some.ensures.path).2 in
    subst (λ (z : List ℕ). IsToFail z c.in_ok-disk-in-Some.disk) (sym failing) c.in_ok-disk-in-Some.ensures.plan

pub returns-in_ok-push-in-None-clause-plan : goal.returns-in_ok-push-in-None-clause-plan
returns-in_ok-push-in-None-clause-plan c =
    let new : DiskPlace = record { path = c.in_ok-from_bytes-in-None.field-0; disk = None; failing = c.new-in-None-2.result } in
    let failing = (lent_added failing_in [] c.args.places.now.items c.deref.result.now c.push.new.self.items c.args.path.now new c.deref.ensures.value c.in-None.ensures c.in_ok-from_bytes-in-None.ensures c.in_ok-push-in-None.ensures.items).2 in
    subst (λ (z : List ℕ). IsToFail z c.in_ok-disk-in-None.disk) (sym failing) (search rules)
