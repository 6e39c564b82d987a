-- How the table goes through a text.
use Rattle.std.specs.Prelude.{◌≡◌, ℕ, true, List, [], length}
use Rattle.rule_expr.specs.declared.stop.Stop.{Stop}
use Rattle.rule_expr.specs.declared.error.RuleErr.{RuleErr}
use Rattle.rule_expr.specs.Parts.{after_blanks}
use Rattle.rule_expr.specs.Places.{State, Move, state, step, onward, stop, operand}
use Rattle.rule_expr.specs.Refusals.{error_at}

-- from the one state and text the table leads to the other
pub data Goes : State → List ℕ → State → List ℕ → Type 0 where
  stays : {now : State} {text : List ℕ} → Goes now text now text
  moves : {now next later : State} {text more rest : List ℕ} → step now text ≡ onward next more → Goes next more later rest → Goes now text later rest

-- from this state and text on the table comes to this end
pub record Comes (now : State) (text : List ℕ) (last : Move) : Type 0 where
  pub later : State
  pub rest : List ℕ
  pub goes : Goes now text later rest
  pub ends : step later rest ≡ last

-- a rule begins
abbrev pub start : State
start = state (operand true) []

-- what the text begins with leads to a place at which the table has nothing for what stands next
pub record IsRefused (text : List ℕ) (why : RuleErr) : Type 0 where
  pub stopped : Stop
  pub comes : Comes start (after_blanks text) (stop stopped)
  pub at : why ≡ error_at (length text) stopped
