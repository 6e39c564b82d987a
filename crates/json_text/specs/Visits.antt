-- What walking by `Doc::first` and `Doc::next` comes to.
use Rattle.std.specs.Prelude.{◌≡◌, ◌≢◌, List, [], ◌∷◌, ⊤, Option, Some, None, MatchOption, IfSome, ◌↔◌}
use Rattle.json_text.specs.declared.spot.Spot.{Spot}
use Rattle.json_text.specs.declared.doc.Doc.{Doc}
use Rattle.json_text.specs.declared.doc.Node.{Node}
use Rattle.json_text.specs.Forest.{Forest, empty, grows}
use Rattle.json_text.specs.Doc.{StandsAt, IsAfter, OfNode}

-- what `first` answers at a node
abbrev pub IsFirst : Doc → Node → Option Node → Type 0
IsFirst doc node found = OfNode doc node (λ spot children later. MatchOption found (children ≡ empty) (λ m. StandsAt doc m children × (children ≢ empty)))

-- what `next` answers at a node
abbrev pub IsNext : Doc → Node → Option Node → Type 0
IsNext doc node found = IfSome found (IsAfter node) × OfNode doc node (λ spot children later. MatchOption found (later ≡ empty) (λ m. StandsAt doc m later × (later ≢ empty)))

-- from here on `next` leads over these nodes, one after the other, and then there is none
abbrev pub Goes : Doc → Option Node → List Node → Type 0
Goes doc None [] = ⊤
Goes doc None (node ∷ nodes) = ⊥
Goes doc (Some here) [] = ⊥
Goes doc (Some here) (node ∷ nodes) = (node ≡ here) × (next : Option Node) × IsNext doc here next × Goes doc next nodes

-- `first` and then `next` lead over these nodes, and then there is none
abbrev pub Visits : Doc → Node → List Node → Type 0
Visits doc node nodes = (found : Option Node) × IsFirst doc node found × Goes doc found nodes

-- the nodes are those of these values in a row, one for each and in order
abbrev pub AreNodesOf : Doc → Forest → List Node → Type 0
AreNodesOf doc empty [] = ⊤
AreNodesOf doc empty (node ∷ nodes) = ⊥
AreNodesOf doc (grows spot children later) [] = ⊥
AreNodesOf doc (grows spot children later) (node ∷ nodes) = StandsAt doc node (grows spot children later) × AreNodesOf doc later nodes

-- each of the nodes comes after the one before
abbrev pub Ascends : List Node → Type 0
Ascends [] = ⊤
Ascends (node ∷ []) = ⊤
Ascends (node ∷ other ∷ nodes) = IsAfter node other × Ascends (other ∷ nodes)

-- The nodes of these values in a row are what a walk from the node visits: all of them, each once and in order, and no
-- others.
pub record IsVisited (doc : Doc) (node : Node) (children : Forest) : Type 0 where
  pub items : List Node
  pub are : AreNodesOf doc children items
  pub once : Ascends items
  pub walk : (nodes : List Node) → Visits doc node nodes ↔ (AreNodesOf doc children nodes × Ascends nodes)

-- the node is that of a value
abbrev pub HasValue : Doc → Node → Type 0
HasValue doc node = (spot : Spot) × (children : Forest) × (later : Forest) × StandsAt doc node (grows spot children later)
