use Rattle.json_text.specs.Doc.{bytes_read}
use Rattle.state_api.specs.Given.{Gives}
use Rattle.state_api.specs.Raw.{request_in}
use Rattle.state_api.proofs.Nodes.{at_some}
use Rattle.state_api.proofs.raw.read_request.Goals as goal

pub returns-in-Some : goal.returns-in-Some
returns-in-Some c = at_some c.args.doc.now c.args.request c.in-Some.n (λ v. Gives c.read_item.result (request_in (bytes_read c.args.doc.now) v)) c.in-Some.is c.read_item.ensures
