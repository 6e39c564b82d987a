use Rattle.std.proofs.Common.{ap, Ok}
use Rattle.state_api.proofs.Nodes.{at_node}
use Rattle.state_api.proofs.Lasts.{told_texts, nodes_of}
use Rattle.state_api.proofs.values.are_texts.Goals as goal

pub all_texts-requires : goal.all_texts-requires
all_texts-requires c = nodes_of c.args.doc.now c.args.n c.in-Ok.members c.a_walk_visits_all_items.ensures.stands c.root-read.ensures.read c.requires c.in-Ok.ensures

pub returns-in-Ok : goal.returns-in-Ok
returns-in-Ok c value at = ap Ok (told_texts c.args.doc.now value.children c.in-Ok.members (at_node c.args.doc.now c.args.n _ c.in-Ok.ensures value at) c.all_texts.result c.all_texts.ensures)
