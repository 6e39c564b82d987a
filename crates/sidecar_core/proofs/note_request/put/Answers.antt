use Rattle.std.proofs.Common.{rules, refl, subst}
use Rattle.std.specs.Prelude.{IsErrOf}
use Rattle.meta_api.specs.declared.command.NoteErr.TheVariants.{NotText}
use Rattle.sidecar_core.specs.Exchange.{AtNotes, PutReplies}
use Rattle.sidecar_core.specs.Exchange as exchange
use Rattle.sidecar_objects.specs.Composed.{does_nothing, does_as}
use Rattle.sidecar_core.proofs.Answering.{not_exhausted}
use Rattle.sidecar_core.proofs.note_request.put.Goals as goal

pub returns-in-Ok-clause-does : goal.returns-in-Ok-clause-does
returns-in-Ok-clause-does g c = λ clock link words. does_as _ _ _ _ _ _
    (λ events at. exchange.noted c.in-Ok.ensures.command.1 (subst (λ cmd. AtNotes cmd PutReplies events c.put_by.result) c.in-Ok.ensures.command.0 at)) (c.put_by.ensures.does clock link words)

pub returns-in-Err-NotText-clause-does : goal.returns-in-Err-NotText-clause-does
returns-in-Err-NotText-clause-does g c = λ clock link words.
    let is : IsErrOf c.put_command.result NotText = search rules in
    does_nothing _ _ _ _ (exchange.refused (c.put_command.ensures.not_text.0 is) (refl, c.given.ensures _ c.malformed_response.ensures))

pub returns-in-Err-NotText-clause-shows : goal.returns-in-Err-NotText-clause-shows
returns-in-Err-NotText-clause-shows g c = λ count is. not_exhausted _ c.given.result count (c.given.ensures _ c.malformed_response.ensures) is

pub returns-in-Err-NoMemory-clause-does : goal.returns-in-Err-NoMemory-clause-does
returns-in-Err-NoMemory-clause-does g c = λ clock link words. does_nothing _ _ _ _ (exchange.lacks (refl, refl))
