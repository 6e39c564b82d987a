-- What a value says that is written in one piece.
use Rattle.std.specs.Prelude.{ℕ, Bool, List}
use Rattle.yaml_lines.specs.declared.kind.PartKind.{PartKind}

-- an item of a sequence that is written in brackets: a text, or empty
pub record Scalar : Type 0 where
  pub kind : PartKind
  pub text : List ℕ

-- a value that is written in one piece
pub record Leaf : Type 0 where
  pub kind : PartKind
  pub text : List ℕ
  pub items : List Scalar
  pub plain : Bool
