use Rattle.std.proofs.Common.{subst, sym, ◌∙◌, length, ap, arith, ◌≤◌}
use Rattle.side_world.specs.Disk.{Torn}
use Rattle.disk_memory.proofs.Disks.{part_is_torn, nothing_is_torn}
use Rattle.disk_memory.proofs.noting.tear_on.Goals.{then-at-len+in_ok-torn+in_ok-overwrite, else-at-len}
use Rattle.disk_memory.proofs.noting.tear_on.Goals as goal

pub returns : goal.returns
returns c = elim c.if-at-len.branch [
  | then-at-len+in_ok-torn+in_ok-overwrite w ↦
      subst (Torn c.args.at (length c.args.piece.now) c.args.image.now.items) (sym (ap (λ v. v.items) w.image-is ∙ w.in_ok-overwrite.ensures.ok))
      (part_is_torn c.args.at (length c.args.piece.now) w.deref-then-at-len.result.now c.args.image.now.items (omega (w.if-at-len.true, c.len.ensures, arith))
      (subst (λ z. length z ≤ length c.args.piece.now) (sym w.deref-then-at-len.ensures.value) w.in_ok-torn.ensures))
  | else-at-len w ↦
      subst (Torn c.args.at (length c.args.piece.now) c.args.image.now.items) (sym (ap (λ v. v.items) w.image-is))
      (nothing_is_torn c.args.at (length c.args.piece.now) c.args.image.now.items)
]
