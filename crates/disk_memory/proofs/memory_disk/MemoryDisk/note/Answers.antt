use Rattle.std.proofs.Common.{sym, ◌∙◌}
use Rattle.std.specs.Result.{is_ok}
use Rattle.disk_memory.proofs.Disks.{held_either, fit_either}
use Rattle.disk_memory.proofs.memory_disk.MemoryDisk.note.Goals as goal

pub invariant_of-self : goal.invariant_of-self
invariant_of-self c =
    let self = c.args.self.now in
    record {
      bytes_are = self.bytes_are ∙ sym (held_either self.opening.items self.notes.items c.push.new.self.items c.args.note (is_ok c.push.result) c.requires c.push.ensures.items);
      fit = fit_either self.opening.items self.notes.items c.push.new.self.items c.args.note (is_ok c.push.result) c.requires c.push.ensures.items self.fit;
    }
