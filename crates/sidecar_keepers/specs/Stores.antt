-- The stores among components, and the files of their journals.
use Rattle.std.specs.Prelude.{ℕ, Bool, true, false, List, map}
use Rattle.std.specs.List.{filter, filter_map}
use Rattle.resource_spec.specs.declared.component.ComponentKind.{ComponentKind}
use Rattle.resource_spec.specs.declared.component.ComponentKind.TheVariants as kinds
use Rattle.resource_spec.specs.Component.{Loaded}
use Rattle.resource_spec.specs.Load.{journal_of}
use Rattle.side_world.specs.declared.outside.OutsideCall.{OutsideCall}
use Rattle.side_world.specs.declared.outside.OutsideCall.TheVariants.{TakeDisk}

abbrev pub is_store : ComponentKind → Bool
is_store kinds.StateMemory = true
is_store kinds.StateJournal = true
is_store kinds.PubsubMemory = false
is_store kinds.BindingHttp = false
is_store kinds.BindingCron = false

-- the state components, in order
abbrev pub stores_of : List Loaded → List Loaded
stores_of components = filter (λ (c : Loaded). is_store c.kind) components

-- the paths of the journals, in order
abbrev pub paths_of : List Loaded → List (List ℕ)
paths_of components = filter_map journal_of components

-- the calls that take their disks, in order
abbrev pub takes_of : List Loaded → List OutsideCall
takes_of components = map TakeDisk (paths_of components)
