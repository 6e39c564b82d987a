use Rattle.sidecar_keepers.proofs.Hashing.{behind_more}
use Rattle.sidecar_keepers.proofs.starting.add_keeper.Goals as goal

pub returns-in-StateMemory-clause-hasher : goal.returns-in-StateMemory-clause-hasher
returns-in-StateMemory-clause-hasher g c = λ behind. behind_more g.O.Disk.Disk c.args.secret c.args.keepers.now.items c.push_reserved.new.self.items _ c.push_reserved.ensures.items c.in_memory.ensures.hasher behind

pub returns-in-Ok-clause-hasher : goal.returns-in-Ok-clause-hasher
returns-in-Ok-clause-hasher g c = λ behind. behind_more g.O.Disk.Disk c.args.secret c.args.keepers.now.items c.push_reserved-in-Ok.new.self.items _ c.push_reserved-in-Ok.ensures.items c.in-Ok.ensures.hasher behind
