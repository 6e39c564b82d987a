use Rattle.std.proofs.Common.{◌∙◌, ◌<◌, ◌+◌, length, is_some, sym, ap, subst, arith}
use Rattle.sidecar_keepers.specs.Stores.{is_store}
use Rattle.sidecar_keepers.proofs.Givings.{GivenSoFar, some_left, one_given, none_more, all_given}
use Rattle.sidecar_keepers.proofs.giving.give_back.Goals as goal
use Rattle.sidecar_keepers.proofs.giving.give_back.Goals.{then-is_store+in-Some, else-is_store}

pub unreachable-requires : goal.unreachable-requires
unreachable-requires g c =
    some_left g.O.Disk.Disk c.args.components.now c.loop-place.place c.at-component.result.now (omega (arith, c.loop-place-test.true, c.len-place-end.ensures.exact)) c.at-component.ensures
    (sym (ap is_store c.kind.ensures.kind) ∙ sym c.is_store.ensures ∙ c.if-is_store.true) c.loop-place.keepers (c.take_first.ensures.none.0 (ap (λ o. is_some o) c.in-None.is)) c.loop-place.invariant.so_far.fit

pub loop-place-preserved : goal.loop-place-preserved
loop-place-preserved g c =
    let h = c.loop-place.invariant in
    let low : c.loop-place.place < length c.args.components.now = omega (arith, c.loop-place-test.true, c.len-place-end.ensures.exact) in
    elim c.if-is_store.branch [
      | then-is_store+in-Some w ↦ record {
        so_far = subst (λ o. GivenSoFar g.O.Disk.Disk c.args.components.now (c.loop-place.place + 1) c.args.keepers.items c.if-is_store.keepers (g.O.Outside.disks c.args.outside.now) (g.O.Outside.disks o) (g.O.Outside.faults c.args.outside.now) (g.O.Outside.faults o)) (sym w.outside-is)
            (subst (λ ks. GivenSoFar g.O.Disk.Disk c.args.components.now (c.loop-place.place + 1) c.args.keepers.items ks (g.O.Outside.disks c.args.outside.now) (g.O.Outside.disks w.give_one.new.outside) (g.O.Outside.faults c.args.outside.now) (g.O.Outside.faults w.give_one.new.outside)) (sym w.keepers-is)
            (one_given g.O.Disk.Disk c.args.components.now c.loop-place.place c.at-component.result.now low c.at-component.ensures c.args.keepers.items c.loop-place.keepers w.take_first.new.self
            (g.O.Outside.disks c.args.outside.now) (g.O.Outside.disks c.loop-place.outside) (g.O.Outside.disks w.give_one.new.outside) (g.O.Outside.faults c.args.outside.now) (g.O.Outside.faults c.loop-place.outside) (g.O.Outside.faults w.give_one.new.outside)
            w.in-Some.keeper (sym (ap is_store c.kind.ensures.kind) ∙ sym c.is_store.ensures ∙ w.if-is_store.true) w.in-Some.ensures.first h.so_far w.give_one.ensures.given w.give_one.ensures.faults w.give_one.ensures.no_fewer));
        calls = ap g.O.Outside.calls w.outside-is ∙ w.give_one.ensures.calls ∙ h.calls;
        backs = ap g.O.Outside.backs w.outside-is ∙ w.give_one.ensures.backs ∙ h.backs;
        numbers = ap g.O.Outside.numbers w.outside-is ∙ w.give_one.ensures.numbers ∙ h.numbers;
      }
      | else-is_store w ↦ record {
        so_far = subst (λ o. GivenSoFar g.O.Disk.Disk c.args.components.now (c.loop-place.place + 1) c.args.keepers.items c.if-is_store.keepers (g.O.Outside.disks c.args.outside.now) (g.O.Outside.disks o) (g.O.Outside.faults c.args.outside.now) (g.O.Outside.faults o)) (sym w.outside-is)
            (subst (λ ks. GivenSoFar g.O.Disk.Disk c.args.components.now (c.loop-place.place + 1) c.args.keepers.items ks (g.O.Outside.disks c.args.outside.now) (g.O.Outside.disks c.loop-place.outside) (g.O.Outside.faults c.args.outside.now) (g.O.Outside.faults c.loop-place.outside)) (sym w.keepers-is)
            (none_more g.O.Disk.Disk c.args.components.now c.loop-place.place c.at-component.result.now low c.at-component.ensures c.args.keepers.items c.loop-place.keepers
            (g.O.Outside.disks c.args.outside.now) (g.O.Outside.disks c.loop-place.outside) (g.O.Outside.faults c.args.outside.now) (g.O.Outside.faults c.loop-place.outside)
            (sym (ap is_store c.kind.ensures.kind) ∙ sym c.is_store.ensures ∙ w.if-is_store.false) h.so_far));
        calls = ap g.O.Outside.calls w.outside-is ∙ h.calls;
        backs = ap g.O.Outside.backs w.outside-is ∙ h.backs;
        numbers = ap g.O.Outside.numbers w.outside-is ∙ h.numbers;
      }
    ]

pub returns-clause-given : goal.returns-clause-given
returns-clause-given g c = (all_given g.O.Disk.Disk c.args.components.now c.loop-place.place c.args.keepers.items c.loop-place.keepers (g.O.Outside.disks c.args.outside.now) (g.O.Outside.disks c.loop-place.outside)
    (g.O.Outside.faults c.args.outside.now) (g.O.Outside.faults c.loop-place.outside) (omega (arith, c.loop-place-test.false, c.len-place-end.ensures.exact)) c.loop-place.invariant.so_far).0

pub returns-clause-faults : goal.returns-clause-faults
returns-clause-faults g c = (all_given g.O.Disk.Disk c.args.components.now c.loop-place.place c.args.keepers.items c.loop-place.keepers (g.O.Outside.disks c.args.outside.now) (g.O.Outside.disks c.loop-place.outside)
    (g.O.Outside.faults c.args.outside.now) (g.O.Outside.faults c.loop-place.outside) (omega (arith, c.loop-place-test.false, c.len-place-end.ensures.exact)) c.loop-place.invariant.so_far).1
