use Rattle.std.proofs.Common.{◌≡◌, ap}
use Rattle.json_text.specs.declared.spot.Spot.{Spot}
use Rattle.json_text.specs.Doc.{bytes_read}
use Rattle.json_text.specs.Unescape.{text_shown}
use Rattle.cloud_events.specs.declared.item.Value.TheVariants.{Text}
use Rattle.cloud_events.proofs.Nodes.{at_value}
use Rattle.cloud_events.proofs.gather.text_value.Goals as goal

pub returns-in-Ok : goal.returns-in-Ok
returns-in-Ok c spot at = ap Text (at_value c.args.doc.now c.args.n (λ (s : Spot). c.in-Ok.text ≡ text_shown (bytes_read c.args.doc.now) s) c.in-Ok.ensures spot at)
