use Rattle.std.proofs.Common.{refl, Err, Ok, Some, List, ℕ, Option}
use Rattle.json_text.specs.Doc.{bytes_read}
use Rattle.state_api.specs.Given.{Gives}
use Rattle.state_api.specs.Values.{optional}
use Rattle.state_api.proofs.Nodes.{at_some}
use Rattle.state_api.proofs.Following.{went, stopped}
use Rattle.state_api.proofs.values.optional.Goals as goal

pub returns-in-Ok : goal.returns-in-Ok
returns-in-Ok c value at = at_some c.args.doc.now c.member.result c.in-Some.m (λ v. Gives (Ok (Some c.in-Ok.text)) (optional (bytes_read c.args.doc.now) v)) c.in-Some.is (λ v st. went _ _ _ _ (c.in-Ok.ensures v st) refl) _ (c.member.ensures.member value at)

pub returns-in-Err : goal.returns-in-Err
returns-in-Err c value at = at_some c.args.doc.now c.member.result c.in-Some.m (λ v. Gives {A = Option (List ℕ)} (Err c.in-Err.error) (optional (bytes_read c.args.doc.now) v)) c.in-Some.is (λ v st. stopped _ _ c.in-Err.error (c.in-Err.ensures v st)) _ (c.member.ensures.member value at)
