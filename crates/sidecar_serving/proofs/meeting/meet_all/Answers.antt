use Rattle.std.proofs.Common.{◌∙◌, arith, refl}
use Rattle.sidecar_serving.specs.Ending.{end_of}
use Rattle.sidecar_serving.proofs.Meetings.{all_met, empty_of, may_be_met, none_met, one_met_as, ready_last}
use Rattle.sidecar_serving.proofs.meeting.meet_all.Goals as goal

pub loop-slot-init : goal.loop-slot-init
loop-slot-init g c = record {
  so_far = none_met _ _ _ _ _ c.args.slots.items _ _ c.requires.ready c.requires.root c.requires.seat;
  calls = refl;
  disks = refl;
  numbers = refl;
  no_fewer = omega arith;
}

pub meet-exit-requires-clause-ready : goal.meet-exit-requires-clause-ready
meet-exit-requires-clause-ready g c κs within = (ready_last _ _ c.in-Some.ensures.items c.loop-slot.invariant.so_far).1

pub meet-exit-requires-clause-root : goal.meet-exit-requires-clause-root
meet-exit-requires-clause-root g c κs within = may_be_met c.loop-slot.invariant.so_far

pub loop-slot-preserved : goal.loop-slot-preserved
loop-slot-preserved g c =
    let h = c.loop-slot.invariant in
    let e = c.meet-exit.ensures in
    let last = ready_last _ _ c.in-Some.ensures.items h.so_far in record {
      so_far = one_met_as _ _ _ _ _ _ _ _ _ _ _ _ c.in-Some.slot.seat _ _ _ _ _ _ _ _ c.in-Some.slot c.in-Some.ensures.items last.0 (record { passes = e.pass; back = e.back; faults = e.faults }) last.1.pass e.seat last.1.fresh last.1.ended last.1.found e.exit c.spent_by.ensures c.or-spent.ensures c.is_failed-failed.ensures refl h.so_far;
      calls = e.calls ∙ h.calls;
      disks = e.disks ∙ h.disks;
      numbers = e.numbers ∙ h.numbers;
      no_fewer = omega (arith, e.no_fewer, h.no_fewer);
    }

pub returns-clause-sound : goal.returns-clause-sound
returns-clause-sound g c = (all_met _ _ _ _ _ c.args.slots.items c.loop-slot.slots.items _ _ _ _ _ (empty_of _ (omega (arith, c.in_default.ensures.cases.0, c.loop-slot.slots.ok))) c.loop-slot.invariant.so_far).sound

pub returns-clause-met : goal.returns-clause-met
returns-clause-met g c = (all_met _ _ _ _ _ c.args.slots.items c.loop-slot.slots.items _ _ _ _ _ (empty_of _ (omega (arith, c.in_default.ensures.cases.0, c.loop-slot.slots.ok))) c.loop-slot.invariant.so_far).met

pub returns-clause-lone : goal.returns-clause-lone
returns-clause-lone g c = (all_met _ _ _ _ _ c.args.slots.items c.loop-slot.slots.items _ _ _ _ _ (empty_of _ (omega (arith, c.in_default.ensures.cases.0, c.loop-slot.slots.ok))) c.loop-slot.invariant.so_far).lone

pub returns-clause-stopped : goal.returns-clause-stopped
returns-clause-stopped g c = (all_met _ _ _ _ _ c.args.slots.items c.loop-slot.slots.items _ _ _ _ _ (empty_of _ (omega (arith, c.in_default.ensures.cases.0, c.loop-slot.slots.ok))) c.loop-slot.invariant.so_far).stopped

pub returns-clause-end : goal.returns-clause-end
returns-clause-end g c = let all = all_met _ _ _ _ _ c.args.slots.items c.loop-slot.slots.items _ _ _ _ _ (empty_of _ (omega (arith, c.in_default.ensures.cases.0, c.loop-slot.slots.ok))) c.loop-slot.invariant.so_far in c.end_of.ensures ∙ (λ i. end_of (all.spent_is i) (all.failed_is i))
