use Rattle.bind_api.proofs.Members.{last_is}
use Rattle.bind_api.proofs.Nodes.{at_node}
use Rattle.bind_api.proofs.values.last_member.Goals as goal

pub returns-clause-last : goal.returns-clause-last
returns-clause-last c value at = last_is c.args.doc.now c.args.name.now value.children c.member.result (at_node c.args.doc.now c.args.n _ c.member.ensures.last value at)
