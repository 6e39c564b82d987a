use Rattle.std.proofs.Common.{ap, sym, ◌∙◌}
use Rattle.std.specs.Prelude.{Ok}
use Rattle.state_api.proofs.Nodes.{at_node}
use Rattle.state_api.proofs.Following.{held, failed}
use Rattle.state_api.proofs.values.text_of.Goals as goal

pub returns-then-not-is_text : goal.returns-then-not-is_text
returns-then-not-is_text c value at = failed _ _ _ (sym (c.is_text.ensures value at) ∙ c.if-not-is_text.true)

pub returns-in-Ok : goal.returns-in-Ok
returns-in-Ok c value at = held _ _ _ _ (sym (c.is_text.ensures value at) ∙ c.if-not-is_text.false) (ap Ok (sym (at_node c.args.doc.now c.args.n _ c.in-Ok.ensures value at)))
