-- What reading a part of a rule comes to.
use Rattle.std.specs.Prelude.{◌≡◌, ◌≤◌, ℕ, List, [], ◌∷◌, ◌++◌, length}
use Rattle.rule_value.specs.declared.op.Op.{Op}
use Rattle.rule_value.specs.Trees.{Level, Tree, Step, Token, spelled, levels, step_tokens, steps_tokens}
use Rattle.rule_value.specs.Values.{names_of}
use Rattle.rule_value.specs.Codes.{code}
use Rattle.rule_expr.specs.Rules.{Leads}

-- The text begins with a tree of this level, in which so many brackets stand within one another at most, and `rest` follows
-- it; the steps that compute it come behind those before.
pub record Reads (level : Level) (room : ℕ) (text rest : List ℕ) (before after : List Op) : Type 0 where
  pub tree : Tree level
  pub leads : Leads text (spelled tree) rest
  pub within : levels tree ≤ room
  pub steps : after ≡ before ++ code tree
  pub shorter : length rest ≤ length text

-- the text begins with these parts
pub record Passes (tokens : List Token) (text rest : List ℕ) : Type 0 where
  pub leads : Leads text tokens rest
  pub shorter : length rest ≤ length text

-- the text begins with a step of a path that has this name
pub record ReadsStep (text rest letters : List ℕ) : Type 0 where
  pub step : Step
  pub leads : Leads text (step_tokens step) rest
  pub name_is : names_of (step ∷ []) ≡ letters ∷ []
  pub shorter : length rest ≤ length text

-- the text begins with the steps of a path that has these names
pub record ReadsSteps (text rest : List ℕ) (names : List (List ℕ)) : Type 0 where
  pub steps : List Step
  pub leads : Leads text (steps_tokens steps) rest
  pub names_are : names ≡ names_of steps
  pub shorter : length rest ≤ length text
