-- What is so of some items, or of them and at most one more.
use Rattle.std.specs.Prelude.{◌⊎◌, ◌≤◌, List, [], ◌∷◌, ◌++◌, length, Option, Some, None}

module _ {X : Type 0} where
  -- it is so of these items and of one more, where there is one
  abbrev pub WithOneMore : (List X → Type 0) → List X → Option X → Type 0
  WithOneMore P items None = ⊥
  WithOneMore P items (Some item) = P (items ++ item ∷ [])

  -- of these items, or of them and of the one in doubt
  abbrev pub WithDoubt : (List X → Type 0) → List X → Option X → Type 0
  WithDoubt P items doubt = P items ⊎ WithOneMore P items doubt

  -- of these items, or of them and of one of two others
  abbrev pub WithOneAtMost : (List X → Type 0) → List X → Option X → X → Type 0
  WithOneAtMost P items doubt item = P items ⊎ WithOneMore P items doubt ⊎ WithOneMore P items (Some item)

-- of these items, and at most one more
pub record AtMostOneMore {X : Type 0} (P : List X → Type 0) (items : List X) : Type 0 where
  pub more : List X
  pub at_most_one : length more ≤ 1
  pub is : P (items ++ more)
