use Rattle.state_api.proofs.Nodes.{at_node}
use Rattle.state_api.proofs.values.is_map.Goals as goal

pub returns : goal.returns
returns c value at = at_node c.args.doc.now c.args.n _ c.is_map.ensures value at
