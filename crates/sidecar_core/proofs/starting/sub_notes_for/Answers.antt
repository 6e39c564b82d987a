use Rattle.std.proofs.Common.{◌∙◌, arith}
use Rattle.sidecar_core.specs.Sites.{sub_note_of}
use Rattle.sidecar_core.proofs.Gathered.{more_made}
use Rattle.sidecar_core.proofs.starting.sub_notes_for.Goals as goal

pub loop-place-preserved : goal.loop-place-preserved
loop-place-preserved c = record {
  notes = c.in_ok-push.ensures.ok ∙ more_made c.args.subs.now c.loop-place.place c.at.result.now (omega (arith, c.loop-place-test.true, c.len-place-end.ensures.exact)) c.at.ensures sub_note_of c.loop-place.notes c.in_ok-sub_note_for.field-0 c.loop-place.invariant.notes c.in_ok-sub_note_for.ensures;
}
