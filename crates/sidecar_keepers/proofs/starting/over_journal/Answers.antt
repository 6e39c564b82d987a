use Rattle.std.proofs.Common.{◌∙◌, refl, subst}
use Rattle.side_world.specs.Outside.{IsTaken, IsGiven}
use Rattle.sidecar_keepers.proofs.Makings.{opens}
use Rattle.sidecar_keepers.proofs.Places.{file_at}
use Rattle.sidecar_keepers.proofs.Refusals.{cause_of}
use Rattle.sidecar_keepers.proofs.starting.over_journal.Goals as goal

pub returns-in-Ok-start-clause-opened : goal.returns-in-Ok-start-clause-opened
returns-in-Ok-start-clause-opened g c =
    let e = c.in-Ok-start.ensures in
    let opened = opens g.O.Disk.Disk c.in-Ok.disk c.in-Ok-start.keeper (g.O.Disk.Disk.size c.in-Ok.disk) refl e.kept e.fresh e.opened e.limit (e.no_fault ∙ c.in-Ok.ensures.new.no_faults) in record {
      kind = c.requires;
      path = c.path.result.now;
      named = file_at c.args.component.now c.path.result.now c.requires c.path.ensures;
      disk = c.in-Ok.disk;
      new = c.in-Ok.ensures.new;
      taken = subst (λ path. IsTaken g.O.Disk.Disk c.in-Ok.disk path (g.O.Outside.disks c.args.outside.now) (g.O.Outside.disks c.take_disk.new.self)) c.bytes-path.ensures.value c.in-Ok.ensures.taken;
      commits = opened.0;
      opened = opened.1;
    }

pub returns-in-Err-start-clause-cause : goal.returns-in-Err-start-clause-cause
returns-in-Err-start-clause-cause g c =
    let e = c.in-Err-start.ensures in
    cause_of g.O.Disk.Disk c.args.component.now c.requires c.path.result.now (file_at c.args.component.now c.path.result.now c.requires c.path.ensures) c.in-Ok.disk c.in-Err-start.disk
    (g.O.Outside.disks c.args.outside.now) (g.O.Outside.disks c.take_disk.new.self) (g.O.Outside.disks c.give_disk.new.self) c.in-Ok.ensures.new
    (subst (λ path. IsTaken g.O.Disk.Disk c.in-Ok.disk path (g.O.Outside.disks c.args.outside.now) (g.O.Outside.disks c.take_disk.new.self)) c.bytes-path.ensures.value c.in-Ok.ensures.taken)
    (subst (λ path. IsGiven g.O.Disk.Disk c.in-Err-start.disk path (g.O.Outside.disks c.take_disk.new.self) (g.O.Outside.disks c.give_disk.new.self)) c.bytes-path.ensures.value c.give_disk.ensures.given)
    c.in-Err-start.error c.refusal.result c.refusal.ensures e.refused (λ none. (e.fresh_failed none).0) e.given_back e.failed e.no_fault_given_back
