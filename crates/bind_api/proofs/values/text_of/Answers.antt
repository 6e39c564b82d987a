use Rattle.std.proofs.Common.{ap, sym, ◌∙◌}
use Rattle.std.specs.Prelude.{Ok}
use Rattle.bind_api.specs.Given.{shown}
use Rattle.bind_api.proofs.Following.{failed, held}
use Rattle.bind_api.proofs.Nodes.{at_node}
use Rattle.bind_api.proofs.values.text_of.Goals as goal

pub returns-then-not-is_text : goal.returns-then-not-is_text
returns-then-not-is_text c value at = failed shown _ _ _ (sym (at_node c.args.doc.now c.args.n _ c.is_text.ensures value at) ∙ c.if-not-is_text.true)

pub returns : goal.returns
returns c value at = held shown _ _ _ (Ok c.text.result) (sym (at_node c.args.doc.now c.args.n _ c.is_text.ensures value at) ∙ c.if-not-is_text.false) (ap Ok (sym (at_node c.args.doc.now c.args.n _ c.text.ensures value at)))
