use Rattle.std.proofs.Common.{sym, ◌∙◌}
use Rattle.bind_api.specs.Given.{shown}
use Rattle.bind_api.proofs.Following.{failed, held}
use Rattle.bind_api.proofs.Nodes.{at_node}
use Rattle.bind_api.proofs.values.path_of.Goals as goal

pub returns-then-not-is_map : goal.returns-then-not-is_map
returns-then-not-is_map c value at = failed shown _ _ _ (sym (at_node c.args.doc.now c.args.n _ c.is_map.ensures value at) ∙ c.if-not-is_map.true)

pub returns : goal.returns
returns c value at = held shown _ _ _ c.text_or_none.result (sym (at_node c.args.doc.now c.args.n _ c.is_map.ensures value at) ∙ c.if-not-is_map.false) (c.text_or_none.ensures _ (c.member.ensures.member value at))
