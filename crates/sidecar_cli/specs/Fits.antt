-- Whether keepers are of the kinds of their components, as a truth value.
use Rattle.std.specs.Prelude.{Bool, true, false, ◌&&◌, List, [], ◌∷◌}
use Rattle.side_world.specs.declared.disk.Disk.{Ghosts}
use Rattle.keeper_journal.specs.declared.any_keeper.AnyKeeper.{AnyKeeper}
use Rattle.keeper_journal.specs.declared.any_keeper.AnyKeeper.TheVariants.{Memory, Journal}
use Rattle.resource_spec.specs.declared.component.ComponentKind.{ComponentKind}
use Rattle.resource_spec.specs.declared.component.ComponentKind.TheVariants as kind
use Rattle.resource_spec.specs.Component.{Loaded}

abbrev pub is_in_memory : ComponentKind → Bool
is_in_memory kind.StateMemory = true
is_in_memory kind.StateJournal = false
is_in_memory kind.PubsubMemory = false
is_in_memory kind.BindingHttp = false
is_in_memory kind.BindingCron = false

abbrev pub is_on_journal : ComponentKind → Bool
is_on_journal kind.StateMemory = false
is_on_journal kind.StateJournal = true
is_on_journal kind.PubsubMemory = false
is_on_journal kind.BindingHttp = false
is_on_journal kind.BindingCron = false

abbrev pub fits : {D : Type 0} {disking : Ghosts D} → Loaded → AnyKeeper D disking → Bool
fits c (Memory keeper) = is_in_memory c.kind
fits c (Journal keeper) = is_on_journal c.kind

-- there is one keeper for each component, of its kind
abbrev pub all_fit : {D : Type 0} {disking : Ghosts D} → List Loaded → List (AnyKeeper D disking) → Bool
all_fit [] [] = true
all_fit (c ∷ stores) (keeper ∷ keepers) = fits c keeper && all_fit stores keepers
all_fit [] (keeper ∷ keepers) = false
all_fit (c ∷ stores) [] = false
