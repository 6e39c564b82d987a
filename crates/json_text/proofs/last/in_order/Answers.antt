use Rattle.json_text.specs.LastMembers.{members_of}
use Rattle.json_text.proofs.LastNames.{entries_gone}
use Rattle.json_text.proofs.last.in_order.Goals as goal

pub returns : goal.returns
returns c = entries_gone c.loop-name.members (members_of c.args.map.entries) c.loop-name.map.entries c.in_default.ensures.variant.1 c.loop-name.invariant
