use Rattle.std.proofs.Common.{◌≡◌, map, take}
use Rattle.sidecar_core.specs.Sites.{sub_note_of}
use Rattle.sidecar_core.proofs.starting.sub_notes_for.Given as goal

abbrev pub invariant-loop-place : goal.invariant-loop-place
invariant-loop-place l = record {
  notes : l.notes ≡ map sub_note_of (take l.place l.subs);
}
