-- From the nodes of a document to its values.
use Rattle.std.proofs.Common.{◌≡◌, Option, Some, None, ap, subst}
use Rattle.json_text.specs.declared.spot.Spot.{Spot}
use Rattle.json_text.specs.declared.doc.Doc.{Doc}
use Rattle.json_text.specs.declared.doc.Node.{Node}
use Rattle.json_text.specs.Forest.{Forest, empty, grows}
use Rattle.json_text.specs.Doc.{IsRoot, OfNode}
use Rattle.cloud_events.specs.Members.{IsAt, AreAt}

-- a fact of a node's value that follows from another
pub of_map : (doc : Doc) (n : Node) (P Q : Spot → Forest → Forest → Type 0) → ((spot : Spot) (children later : Forest) → P spot children later → Q spot children later) → OfNode doc n P → OfNode doc n Q
of_map doc n P Q f h empty st = tt
of_map doc n P Q f h (grows s c l) st = f s c l (h (grows s c l) st)

-- that follows from two others
pub of_both : (doc : Doc) (n : Node) (P R Q : Spot → Forest → Forest → Type 0) → ((spot : Spot) (children later : Forest) → P spot children later → R spot children later → Q spot children later) → OfNode doc n P → OfNode doc n R → OfNode doc n Q
of_both doc n P R Q f h k empty st = tt
of_both doc n P R Q f h k (grows s c l) st = f s c l (h (grows s c l) st) (k (grows s c l) st)

pub root_same : (a b : Node) → IsRoot a → IsRoot b → a ≡ b
root_same a b e f = let same : a.number ≡ b.number = cc in ap (λ x. record { number = x }) same

pub of_root : (doc : Doc) (a : Node) (P : Spot → Forest → Forest → Type 0) → IsRoot a → OfNode doc a P → (root : Node) → IsRoot root → OfNode doc root P
of_root doc a P e h root f = subst (λ n. OfNode doc n P) (root_same a root e f) h

pub at_value : (doc : Doc) (n : Node) (fact : Spot → Type 0) → OfNode doc n (λ spot children later. fact spot) → (spot : Spot) → IsAt doc n spot → fact spot
at_value doc n fact h spot at = h (grows spot at.0 at.1) at.2

pub at_some : (doc : Doc) (n : Node) (fact : Option Spot → Type 0) → ((spot : Spot) → IsAt doc n spot → fact (Some spot)) → (found : Option Spot) → AreAt doc (Some n) found → fact found
at_some doc n fact f None h = absurd h
at_some doc n fact f (Some spot) h = f spot h

pub at_none : (doc : Doc) (fact : Option Spot → Type 0) → fact None → (found : Option Spot) → AreAt doc None found → fact found
at_none doc fact f None h = f
at_none doc fact f (Some spot) h = absurd h
