use Rattle.state_api.specs.Given.{Gives}
use Rattle.state_api.specs.Values.{needed}
use Rattle.json_text.specs.Doc.{bytes_read}
use Rattle.state_api.proofs.Nodes.{at_some}
use Rattle.state_api.proofs.values.needed.Goals as goal

pub returns-in-Some : goal.returns-in-Some
returns-in-Some c value at = at_some c.args.doc.now c.member.result c.in-Some.m (λ v. Gives c.text_of.result (needed (bytes_read c.args.doc.now) v)) c.in-Some.is c.text_of.ensures _ (c.member.ensures.member value at)
