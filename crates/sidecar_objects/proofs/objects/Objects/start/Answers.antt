use Rattle.std.proofs.Common.{◌∷◌, []}
use Rattle.sidecar_objects.proofs.ByKind.{by_kind}
use Rattle.sidecar_objects.proofs.Single.{one_seat, sound_at}
use Rattle.sidecar_objects.proofs.objects.Objects.start.Goals as goal

pub returns-clause-roots : goal.returns-clause-roots
returns-clause-roots g c = record { each = by_kind _ c.in_ok-store_cells.ensures.roots c.in_ok-ledger_cells.ensures.roots c.in_ok-breaker_cells.ensures.roots (λ i. c.in_ok-notes_cell.ensures.root i ∷ []) (λ i. c.in_ok-turns_cell.ensures.root i ∷ []) (λ i. c.in_ok-ticks_cell.ensures.root i ∷ []) }

pub returns-clause-sound : goal.returns-clause-sound
returns-clause-sound g c = record {
  each = by_kind _ c.in_ok-store_cells.ensures.sound c.in_ok-ledger_cells.ensures.sound c.in_ok-breaker_cells.ensures.sound
      (one_seat _ _ _ (sound_at c.in_ok-notes_cell.ensures.first c.in_ok-notes_cell.ensures.sound))
      (one_seat _ _ _ (sound_at c.in_ok-turns_cell.ensures.first c.in_ok-turns_cell.ensures.sound))
      (one_seat _ _ _ (sound_at c.in_ok-ticks_cell.ensures.first c.in_ok-ticks_cell.ensures.sound));
}
