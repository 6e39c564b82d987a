-- From the nodes of a document to its values.
use Rattle.std.proofs.Common.{◌≡◌, Option, Some, None, subst}
use Rattle.json_text.specs.declared.spot.Spot.{Spot}
use Rattle.json_text.specs.declared.doc.Doc.{Doc}
use Rattle.json_text.specs.declared.doc.Node.{Node}
use Rattle.json_text.specs.Forest.{Forest, grows}
use Rattle.json_text.specs.Doc.{OfNode}
use Rattle.state_api.specs.Values.{Value, IsAt, AreAt}

pub at_node : (doc : Doc) (n : Node) (fact : Spot → Forest → Forest → Type 0) → OfNode doc n fact → (value : Value) (at : IsAt doc n value) → fact value.spot value.children at.0
at_node doc n fact h value at = h (grows value.spot value.children at.0) at.1

pub at_some : (doc : Doc) (found : Option Node) (n : Node) (P : Option Value → Type 0) → found ≡ Some n → ((value : Value) → IsAt doc n value → P (Some value)) → (value : Option Value) → AreAt doc found value → P value
at_some doc found n P e f None h = absurd (subst (λ x. AreAt doc x None) e h)
at_some doc found n P e f (Some value) h = f value (subst (λ x. AreAt doc x (Some value)) e h)

pub at_none : (doc : Doc) (found : Option Node) (P : Option Value → Type 0) → found ≡ None → P None → (value : Option Value) → AreAt doc found value → P value
at_none doc found P e f None h = f
at_none doc found P e f (Some value) h = absurd (subst (λ x. AreAt doc x (Some value)) e h)
