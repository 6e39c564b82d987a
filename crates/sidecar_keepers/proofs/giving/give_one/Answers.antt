use Rattle.sidecar_keepers.proofs.Givings.{back_at}
use Rattle.sidecar_keepers.proofs.giving.give_one.Goals as goal

pub returns-clause-given : goal.returns-clause-given
returns-clause-given g c = back_at g.O.Disk.Disk c.args.component.now c.args.keeper c.in-Journal.keeper c.in-Journal.is c.requires c.path.result.now c.bytes.result.now c.path.ensures c.bytes.ensures.value c.into_disk.result c.into_disk.ensures (g.O.Outside.disks c.args.outside.now) (g.O.Outside.disks c.give_disk.new.self) c.give_disk.ensures.given
