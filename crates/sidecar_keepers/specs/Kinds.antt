-- Keepers that are of the kinds of their components.
use Rattle.std.specs.Prelude.{◌≡◌, List, [], ◌∷◌}
use Rattle.side_world.specs.declared.disk.Disk.{Ghosts}
use Rattle.keeper_journal.specs.declared.any_keeper.AnyKeeper.{AnyKeeper}
use Rattle.keeper_journal.specs.declared.any_keeper.AnyKeeper.TheVariants.{Memory, Journal}
use Rattle.resource_spec.specs.declared.component.ComponentKind.TheVariants.{StateMemory, StateJournal}
use Rattle.resource_spec.specs.Component.{Loaded}

-- a keeper is of the kind of a component
abbrev pub Fits : {D : Type 0} {disking : Ghosts D} → Loaded → AnyKeeper D disking → Type 0
Fits c (Memory keeper) = c.kind ≡ StateMemory
Fits c (Journal keeper) = c.kind ≡ StateJournal

-- there is one keeper for each component, of its kind
abbrev pub AllFit : {D : Type 0} {disking : Ghosts D} → List Loaded → List (AnyKeeper D disking) → Type 0
AllFit [] [] = Unit {0}
AllFit (c ∷ stores) (keeper ∷ keepers) = Fits c keeper × AllFit stores keepers
AllFit [] (keeper ∷ keepers) = ⊥
AllFit (c ∷ stores) [] = ⊥
