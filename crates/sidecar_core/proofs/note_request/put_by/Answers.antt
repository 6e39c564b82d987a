use Rattle.std.proofs.Common.{◌∙◌, refl}
use Rattle.sidecar_objects.specs.Composed.{does_as}
use Rattle.sidecar_core.proofs.Answering.{same_err}
use Rattle.sidecar_core.proofs.note_request.put_by.Goals as goal

pub returns-in-Ok-clause-does : goal.returns-in-Ok-clause-does
returns-in-Ok-clause-does g c = λ clock link words. does_as _ _ _ _ _ _ (λ events ran. record { ran = c.note.result; steps = ran; says = rw c.in-Ok.is c.put_replied.ensures }) (c.note.ensures.does clock link words)

pub returns-in-Err-clause-does : goal.returns-in-Err-clause-does
returns-in-Err-clause-does g c = λ clock link words. does_as _ _ _ _ _ _ (λ events ran. record { ran = c.note.result; steps = ran; says = rw c.in-Err.is refl }) (c.note.ensures.does clock link words)

pub returns-in-Err-clause-shows : goal.returns-in-Err-clause-shows
returns-in-Err-clause-shows g c = λ count is. c.note.ensures.shows count (c.in-Err.is ∙ same_err c.in-Err.error _ is)
