use Rattle.std.proofs.Common.{subst, sym, ap, ◌∙◌, length, take, ◌≤◌, ◌∷◌, rules}
use Rattle.std.specs.Prelude.{reverse}
use Rattle.side_world.specs.Disk.{Torn, overwritten}
use Rattle.disk_memory.specs.DiskNotes.{Fit}
use Rattle.disk_memory.proofs.Disks.{up_to_next, fits_here, synced_on, written_on, lost_on}
use Rattle.disk_memory.proofs.memory_disk.MemoryDisk.image.Goals.{in-Synced+in_ok-image-in-Synced, in-Written+in_ok-rest-in-Written+in_ok-overwrite-in-Written, in-Lost+in_ok-rest-in-Lost}
use Rattle.disk_memory.proofs.memory_disk.MemoryDisk.image.Goals as goal

pub overwrite-requires : goal.overwrite-requires
overwrite-requires c =
    let self = c.args.self.now in
    let fit = subst (λ z. Fit self.opening.items (reverse z)) (sym c.deref-3.ensures.value) self.fit in
    subst (λ z. c.in-Written.at ≤ length z) (sym c.loop-note.invariant.whole_is)
    (fits_here self.opening.items c.deref-3.result.now c.args.moment c.loop-note.note-index c.note-item.result c.in-Written.at c.in-Written.piece fit c.loop-note-test.true c.note-item.is c.in-Written.is)

pub loop-note-preserved : goal.loop-note-preserved
loop-note-preserved c =
    let opening = c.args.self.now.opening.items in
    let part = take c.args.moment c.deref-3.result.now in
    let notes = reverse (take c.loop-note.note-index part) in
    let next = up_to_next part c.loop-note.note-index c.note-item.result c.loop-note-test.true c.note-item.is in
    elim c.match-note.branch [
      | in-Synced+in_ok-image-in-Synced w ↦
          synced_on opening notes _ c.loop-note.whole.items c.loop-note.image.items _ _ c.loop-note.invariant
          (next ∙ ap (λ z. z ∷ notes) w.in-Synced.is) (ap (λ v. v.items) w.whole-is)
          (ap (λ v. v.items) w.image-is ∙ (let e = w.in_ok-image-in-Synced.ensures in let d = w.deref-in-Synced.ensures.value in search rules))
      | in-Written+in_ok-rest-in-Written+in_ok-overwrite-in-Written w ↦
          written_on opening notes _ c.loop-note.whole.items c.loop-note.image.items _ _ w.in-Written.at w.in-Written.piece c.loop-note.invariant
          (next ∙ ap (λ z. z ∷ notes) w.in-Written.is)
          (ap (λ v. v.items) w.whole-is ∙ w.in_ok-overwrite-in-Written.ensures.ok ∙ ap (λ z. overwritten w.in-Written.at z c.loop-note.whole.items) w.bytes-in-Written.ensures)
          (subst (λ v. Torn w.in-Written.at (length w.in-Written.piece) c.loop-note.image.items v.items) (sym w.image-is)
          (subst (λ z. Torn w.in-Written.at (length z) c.loop-note.image.items w.tear_on.new.image.items) w.bytes.ensures w.in_ok-rest-in-Written.ensures))
      | in-Lost+in_ok-rest-in-Lost w ↦
          lost_on opening notes _ c.loop-note.whole.items c.loop-note.image.items _ _ w.in-Lost.at w.in-Lost.piece c.loop-note.invariant
          (next ∙ ap (λ z. z ∷ notes) w.in-Lost.is) (ap (λ v. v.items) w.whole-is)
          (subst (λ v. Torn w.in-Lost.at (length w.in-Lost.piece) c.loop-note.image.items v.items) (sym w.image-is)
          (subst (λ z. Torn w.in-Lost.at (length z) c.loop-note.image.items w.tear_on-in-Lost.new.image.items) w.bytes-in-Lost.ensures w.in_ok-rest-in-Lost.ensures))
    ]
