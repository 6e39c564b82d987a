-- From the nodes of a document to its values.
use Rattle.json_text.specs.declared.spot.Spot.{Spot}
use Rattle.json_text.specs.declared.doc.Doc.{Doc}
use Rattle.json_text.specs.declared.doc.Node.{Node}
use Rattle.json_text.specs.Forest.{Forest, grows}
use Rattle.json_text.specs.Doc.{OfNode}
use Rattle.bind_api.specs.Values.{Value, IsAt}

pub at_node : (doc : Doc) (n : Node) (fact : Spot → Forest → Forest → Type 0) → OfNode doc n fact → (value : Value) (at : IsAt doc n value) → fact value.spot value.children at.0
at_node doc n fact h value at = h (grows value.spot value.children at.0) at.1
