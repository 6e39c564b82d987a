-- Commits of a keeper, those that were made and those that were not.
use Rattle.std.specs.Prelude.{◌≡◌, List, [], ◌∷◌, ◌++◌, Option, Some, None}
use Rattle.keeper_core.specs.declared.changes.Changes.{Changes}
use Rattle.keeper_core.specs.declared.keeper.Keeper.{Ghosts}

-- what a commit made: its changes, or none
abbrev pub made_by : Option Changes → List Changes
made_by None = []
made_by (Some changes) = changes ∷ []

-- the commits that were made, in order
abbrev pub acknowledged : List (Option Changes) → List Changes
acknowledged [] = []
acknowledged (answer ∷ answers) = made_by answer ++ acknowledged answers

-- commits have led from one state of a keeper to another; those that were made are just these, in order
pub record HasMade {K : Type 0} (keeping : Ghosts K) (old new : K) (commits : List Changes) : Type 0 where
  pub answers : List (Option Changes)
  pub leads : keeping.leads old answers new
  pub made : acknowledged answers ≡ commits
