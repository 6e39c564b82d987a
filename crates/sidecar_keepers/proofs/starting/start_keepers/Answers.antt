use Rattle.std.proofs.Common.{◌<◌, ◌∙◌, length, subst, arith}
use Rattle.std.proofs.lemmas.List.{take_all}
use Rattle.side_world.specs.Told.{Tells}
use Rattle.sidecar_keepers.specs.Stores.{takes_of}
use Rattle.sidecar_keepers.proofs.Refusals.{made_more, takes_on, refused_here}
use Rattle.sidecar_keepers.proofs.starting.start_keepers.Goals as goal

pub returns-in-Err-clause-refused : goal.returns-in-Err-clause-refused
returns-in-Err-clause-refused g c =
    let h = c.loop-place.invariant in
    let low : c.loop-place.place < length c.args.components.now = omega (arith, c.loop-place-test.true, c.len-place-end.ensures.exact) in
    refused_here g.O.Disk.Disk c.args.components.now c.loop-place.place c.at.result.now low c.at.ensures c.in-Err.error c.loop-place.keepers.items
    (g.O.Outside.disks c.args.outside.now) (g.O.Outside.disks c.loop-place.outside) (g.O.Outside.disks c.add_keeper.new.outside)
    (g.O.Outside.calls c.args.outside.now) (g.O.Outside.calls c.loop-place.outside) (g.O.Outside.calls c.add_keeper.new.outside)
    h.made h.takes c.in-Err.ensures.takes c.in-Err.ensures.cause

pub loop-place-preserved : goal.loop-place-preserved
loop-place-preserved g c =
    let h = c.loop-place.invariant in
    let e = c.in-Ok-add_keeper.ensures in
    let low : c.loop-place.place < length c.args.components.now = omega (arith, c.loop-place-test.true, c.len-place-end.ensures.exact) in record {
      made = made_more g.O.Disk.Disk c.args.components.now c.loop-place.place c.at.result.now low c.at.ensures c.loop-place.keepers.items c.add_keeper.new.keepers.items
          (g.O.Outside.disks c.args.outside.now) (g.O.Outside.disks c.loop-place.outside) (g.O.Outside.disks c.add_keeper.new.outside) h.made e.made;
      hasher = e.hasher h.hasher;
      takes = takes_on g.O.Disk.Disk c.args.components.now c.loop-place.place c.at.result.now low c.at.ensures
          (g.O.Outside.calls c.args.outside.now) (g.O.Outside.calls c.loop-place.outside) (g.O.Outside.calls c.add_keeper.new.outside) h.takes e.takes;
      no_fault = e.no_fault ∙ h.no_fault;
      backs = e.backs ∙ h.backs;
      numbers = e.numbers ∙ h.numbers;
      long = omega (arith, h.long, e.long);
      room = omega (arith, h.room, e.capacity);
    }

pub returns-clause-takes : goal.returns-clause-takes
returns-clause-takes g c = subst (λ all. Tells (g.O.Outside.calls c.args.outside.now) (g.O.Outside.calls c.loop-place.outside) (takes_of all)) (take_all c.loop-place.place c.args.components.now (omega (arith, c.loop-place-test.false, c.len-place-end.ensures.exact))) c.loop-place.invariant.takes
