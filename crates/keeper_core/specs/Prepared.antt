-- What prepared changes stand for.
use Rattle.std.specs.Prelude.{◌≡◌, ◌≢◌, ℕ, List, Option, Some, None, map}
use Rattle.std.specs.declared.alloc.Global.{Global}
use Rattle.keeper_core.specs.declared.changes.Change.{Change}
use Rattle.keeper_core.specs.declared.changes.Change.TheVariants.{Put, Remove}
use Rattle.keeper_core.specs.declared.prepared.Step.{Step}
use Rattle.keeper_core.specs.declared.prepared.Step.TheVariants.{Place, TakeOut}
use Rattle.std.specs.declared.vec.Vec.{Vec}

-- the change that a step makes
abbrev pub change_of : Step → Change
change_of (Place key row end) = Put key.items row.value row.version row.until
change_of (TakeOut key) = Remove key

abbrev pub changes_of : List Step → List Change
changes_of steps = map change_of steps

-- the key of a row that has this end; none, where it is live for ever
abbrev pub IsEndOf : List ℕ → ℕ → Option (Vec ℕ Global) → Type 0
IsEndOf key until None = until ≡ 0
IsEndOf key until (Some end) = (until ≢ 0) × (end.items ≡ key)

-- a step has the key that its end needs
abbrev pub IsReady : Step → Type 0
IsReady (Place key row end) = IsEndOf key.items row.until end
IsReady (TakeOut key) = Unit {0}
