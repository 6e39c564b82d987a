use Rattle.std.proofs.Common.{◌≡◌, ℕ, List, ap, ◌∙◌}
use Rattle.json_text.specs.Doc.{bytes_read}
use Rattle.json_text.specs.declared.spot.Spot.{Spot}
use Rattle.cloud_events.specs.Items.{value_at}
use Rattle.cloud_events.proofs.Nodes.{at_value}
use Rattle.cloud_events.proofs.Gathered.{item_same}
use Rattle.cloud_events.proofs.gather.item_of.Goals as goal

pub returns-in-Ok-clause-same : goal.returns-in-Ok-clause-same
returns-in-Ok-clause-same c spot at =
    let doc = c.args.doc.now in
    let n = c.args.member.node in
    item_same c.args.member.name _ _ _ _ _ _
    (at_value doc n (λ (s : Spot). c.span-start.result.0 ≡ s.span.start) c.span-start.ensures.start spot at)
    (at_value doc n (λ (s : Spot). c.span-start.result.1 ≡ s.span.end) c.span-start.ensures.end spot at)
    (c.in-Ok.ensures spot at ∙ ap (λ (name : List ℕ). value_at (bytes_read doc) name spot) c.bytes.ensures.value)
