use Rattle.std.proofs.Common.{ap, sym, subst, ◌∙◌, length, ◌≤◌}
use Rattle.std.specs.Prelude.{reverse}
use Rattle.side_world.specs.Disk.{overwritten}
use Rattle.disk_memory.specs.DiskNotes.{held, Fit}
use Rattle.disk_memory.specs.declared.note.Note.TheVariants.{Written}
use Rattle.disk_memory.proofs.Disks.{latest_first, fit_more, same_place}
use Rattle.disk_memory.proofs.memory_disk.MemoryDisk.write.Goals as goal

pub invariant_of-self : goal.invariant_of-self
invariant_of-self c =
    let self = c.args.self.now in
    let opening = self.opening.items in
    let notes = reverse self.notes.items in
    let note = Written c.args.at c.args.piece.now in
    let more = ap reverse c.in-Ok.ensures.notes ∙ latest_first self.notes.items note in
    record {
      bytes_are = c.in-Ok.ensures.bytes ∙ ap (overwritten c.args.at c.args.piece.now) self.bytes_are ∙ sym (ap (held opening) more);
      fit = subst (Fit opening) (sym more) (fit_more opening notes note self.fit (λ at piece is. same_place opening notes c.args.at c.args.piece.now at piece (subst (λ z. c.args.at ≤ length z) self.bytes_are c.requires) is));
    }
