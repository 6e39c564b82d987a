use Rattle.std.proofs.Common.{◌≡◌, ap, sym, ◌∙◌}
use Rattle.json_text.specs.declared.spot.Spot.{Spot}
use Rattle.json_text.specs.Doc.{bytes_read}
use Rattle.json_text.specs.Shape.{value_bytes}
use Rattle.cloud_events.specs.Items.{by_kind, number_value}
use Rattle.cloud_events.proofs.Nodes.{at_value}
use Rattle.cloud_events.proofs.gather.by_kind.Goals as goal

pub returns-in-Number : goal.returns-in-Number
returns-in-Number c spot at =
    c.number_value.ensures ∙ ap number_value (at_value c.args.doc.now c.args.n (λ (s : Spot). c.value_bytes.result.now ≡ value_bytes (bytes_read c.args.doc.now) s) c.value_bytes.ensures spot at)
    ∙ ap (by_kind (bytes_read c.args.doc.now) spot) (sym c.in-Number.is)
