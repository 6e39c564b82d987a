use Rattle.json_text.specs.Doc.{bytes_read}
use Rattle.bind_api.specs.Values.{held_in, last_named}
use Rattle.bind_api.proofs.Following.{unless_null_is}
use Rattle.bind_api.proofs.Members.{last_is}
use Rattle.bind_api.proofs.Nodes.{at_node}
use Rattle.bind_api.proofs.values.member.Goals as goal

pub returns-clause-member : goal.returns-clause-member
returns-clause-member c value at =
    let last = at_node c.args.doc.now c.args.n _ c.member_unless_null.ensures.last value at in
    unless_null_is c.args.doc.now last.0 c.member_unless_null.result (last_named (bytes_read c.args.doc.now) c.args.name.now (held_in value)) (last_is c.args.doc.now c.args.name.now value.children last.0 last.1) last.2
