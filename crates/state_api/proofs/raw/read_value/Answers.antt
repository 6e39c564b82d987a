use Rattle.std.proofs.Common.{subst, Ok}
use Rattle.json_text.specs.Doc.{bytes_read}
use Rattle.state_api.specs.Given.{Gives}
use Rattle.state_api.specs.Raw.{bytes_of}
use Rattle.state_api.proofs.Nodes.{at_node, at_some, at_none}
use Rattle.state_api.proofs.raw.read_value.Goals as goal

pub returns-in-Some : goal.returns-in-Some
returns-in-Some c = at_some c.args.doc.now c.args.found c.in-Some.n (λ v. Gives c.copied.result (Ok (bytes_of (bytes_read c.args.doc.now) v))) c.in-Some.is (λ v st. subst (λ bs. Gives c.copied.result (Ok bs)) (at_node c.args.doc.now c.in-Some.n _ c.value_bytes.ensures v st) c.copied.ensures)

pub returns-in-None : goal.returns-in-None
returns-in-None c = at_none c.args.doc.now c.args.found (λ v. Gives c.copied-in-None.result (Ok (bytes_of (bytes_read c.args.doc.now) v))) c.in-None.is c.copied-in-None.ensures
