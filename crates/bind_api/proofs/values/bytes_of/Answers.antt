use Rattle.std.proofs.Common.{ap, cond, sym, ◌∙◌}
use Rattle.json_text.specs.Doc.{bytes_read}
use Rattle.json_text.specs.Shape.{value_bytes}
use Rattle.json_text.specs.Unescape.{text_shown}
use Rattle.bind_api.proofs.Nodes.{at_node}
use Rattle.bind_api.proofs.values.bytes_of.Goals as goal

pub returns-then-is_text : goal.returns-then-is_text
returns-then-is_text c value at =
    at_node c.args.doc.now c.args.n _ c.text.ensures value at
    ∙ ap (λ b. cond b (text_shown (bytes_read c.args.doc.now) value.spot) (value_bytes (bytes_read c.args.doc.now) value.spot)) (sym c.if-is_text.true ∙ at_node c.args.doc.now c.args.n _ c.is_text.ensures value at)

pub returns-else-is_text : goal.returns-else-is_text
returns-else-is_text c value at =
    at_node c.args.doc.now c.args.n _ c.value_bytes.ensures value at
    ∙ ap (λ b. cond b (text_shown (bytes_read c.args.doc.now) value.spot) (value_bytes (bytes_read c.args.doc.now) value.spot)) (sym c.if-is_text.false ∙ at_node c.args.doc.now c.args.n _ c.is_text.ensures value at)
