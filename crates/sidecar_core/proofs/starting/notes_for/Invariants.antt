use Rattle.std.proofs.Common.{◌≡◌, map, take}
use Rattle.sidecar_core.specs.Sites.{note_of}
use Rattle.sidecar_core.proofs.starting.notes_for.Given as goal

abbrev pub invariant-loop-place : goal.invariant-loop-place
invariant-loop-place l = record {
  notes : l.notes ≡ map note_of (take l.place l.components);
}
