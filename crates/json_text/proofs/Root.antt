-- The value that a text is stands at the root of its document.
use Rattle.std.proofs.Common.{ℕ, List, subst}
use Rattle.json_text.specs.declared.spot.Spot.{Spot}
use Rattle.json_text.specs.declared.doc.Doc.{Doc}
use Rattle.json_text.specs.declared.doc.Node.{Node}
use Rattle.json_text.specs.Forest.{Forest, empty, grows, one}
use Rattle.json_text.specs.Grammar.{IsText}
use Rattle.json_text.specs.Shape.{IsPlaced}
use Rattle.json_text.specs.Doc.{IsRoot, StandsAt, Shows}
use Rattle.json_text.specs.Root.{IsValueOf}
use Rattle.json_text.proofs.Structure.{text_is_one}

pub root_is : (doc : Doc) (bytes : List ℕ) (root : Node) → Shows doc bytes → IsRoot root → ((spot : Spot) (children later : Forest) → StandsAt doc root (grows spot children later) → IsPlaced bytes spot children) → IsValueOf doc bytes root
root_is doc bytes root shows is place =
    let o = text_is_one bytes shows.values shows.text in
    let stands : StandsAt doc root (one o.first o.children) = subst (StandsAt doc root) o.is (shows.from_root root is) in
    record { spot = o.first; children = o.children; here = stands; text = subst (IsText bytes) o.is shows.text; clean = shows.clean; placed = place o.first o.children empty stands }
