-- The value that a text is.
use Rattle.std.specs.Prelude.{ℕ, ◌+◌, List, length}
use Rattle.json_text.specs.declared.spot.Spot.{Spot}
use Rattle.json_text.specs.declared.doc.Doc.{Doc}
use Rattle.json_text.specs.declared.doc.Node.{Node}
use Rattle.json_text.specs.Forest.{Forest, one}
use Rattle.json_text.specs.Grammar.{IsText}
use Rattle.json_text.specs.Faults.{IsClean}
use Rattle.json_text.specs.Shape.{IsPlaced}
use Rattle.json_text.specs.Doc.{StandsAt}

-- The node is that of the one value that the bytes are, in which nothing is wrong. Where it is a map, all that it holds are
-- members: `placed.held` says that they have names.
pub record IsValueOf (doc : Doc) (bytes : List ℕ) (node : Node) : Type 0 where
  pub spot : Spot
  pub children : Forest
  pub here : StandsAt doc node (one spot children)
  pub text : IsText bytes (one spot children)
  pub clean : IsClean bytes (length bytes + 1)
  pub placed : IsPlaced bytes spot children
