use Rattle.std.proofs.Common.{◌≡◌, cond, sym, ap, ◌∙◌}
use Rattle.std.proofs.lemmas.Result.{IfOk-weaker}
use Rattle.json_text.specs.declared.spot.Spot.{Spot}
use Rattle.json_text.specs.Doc.{bytes_read}
use Rattle.cloud_events.specs.declared.item.Value.TheVariants.{Other}
use Rattle.cloud_events.specs.Items.{by_kind}
use Rattle.cloud_events.proofs.Nodes.{at_value}
use Rattle.cloud_events.proofs.gather.value_of.Goals as goal

pub returns-then-is_same : goal.returns-then-is_same
returns-then-is_same c spot at = ap (λ b. cond b Other (by_kind (bytes_read c.args.doc.now) spot spot.kind)) (sym c.if-is_same.true ∙ c.is_same.ensures)

pub returns : goal.returns
returns c spot at =
    IfOk-weaker c.by_kind.result _ _ (λ v e. e ∙ ap (by_kind (bytes_read c.args.doc.now) spot) (at_value c.args.doc.now c.args.n (λ (s : Spot). c.kind.result ≡ s.kind) c.kind.ensures spot at)
    ∙ ap (λ b. cond b Other (by_kind (bytes_read c.args.doc.now) spot spot.kind)) (sym c.if-is_same.false ∙ c.is_same.ensures)) (c.by_kind.ensures spot at)
