use Rattle.std.proofs.Common.{◌∙◌, arith}
use Rattle.sidecar_serving.proofs.Openings.{one_asked, one_opened}
use Rattle.sidecar_serving.proofs.opening.open_all.Goals as goal

pub returns-in_err-slot-clause-asked : goal.returns-in_err-slot-clause-asked
returns-in_err-slot-clause-asked g c = one_asked _ _ _ _ _ _ _ c.in-Some.rng _ _ _ _ _ _ _ _ _ c.in-Some.ensures.steps.0 c.in_err-slot.ensures.calls c.loop-rng.invariant.so_far

pub loop-rng-preserved : goal.loop-rng-preserved
loop-rng-preserved g c =
    let h = c.loop-rng.invariant in
    let e = c.in_ok-slot.ensures in record {
      so_far = one_opened _ _ _ _ _ _ _ c.in-Some.rng _ _ _ _ _ _ _ _ _ _ _ _ c.in_ok-slot.slot c.in-Some.ensures.steps.0 c.push_reserved.ensures.items e.opened e.root e.seat e.calls h.so_far;
      disks = e.disks ∙ h.disks;
      numbers = e.numbers ∙ h.numbers;
      backs = e.backs ∙ h.backs;
      faults = e.no_fault ∙ h.faults;
      room = omega (arith, c.push_reserved.ensures.capacity, h.room);
    }
