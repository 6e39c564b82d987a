use Rattle.state_api.proofs.Nodes.{at_node}
use Rattle.state_api.proofs.Members.{there_is}
use Rattle.state_api.proofs.values.member.Goals as goal

pub returns-clause-member : goal.returns-clause-member
returns-clause-member c value at = there_is c.args.doc.now c.args.name.now value.children c.member_unless_null.result (at_node c.args.doc.now c.args.n _ c.member_unless_null.ensures.last value at)
