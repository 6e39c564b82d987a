-- What there is where no folder is named.
use Rattle.std.specs.Prelude.{ℕ, List, [], ◌∷◌, codes}
use Rattle.resource_spec.specs.declared.component.ComponentKind.{ComponentKind}
use Rattle.resource_spec.specs.declared.component.ComponentKind.TheVariants.{StateMemory, PubsubMemory}
use Rattle.resource_spec.specs.Component.{Loaded}
use Rattle.policy_spec.specs.Resiliency.{nothing_bound}
use Rattle.resource_files.specs.declared.resources.Resources.{Resources}

-- a component of version `v1` without settings
abbrev pub plain_component : List ℕ → ComponentKind → Loaded
plain_component name kind = record { name = name; kind = kind; version = codes "v1"; settings = [] }

-- a store `statestore` and a broker `pubsub`, both in memory
abbrev pub usual_components : List Loaded
usual_components = plain_component (codes "statestore") StateMemory ∷ plain_component (codes "pubsub") PubsubMemory ∷ []

-- these components, no subscription, and nothing is bound
abbrev pub usual : Resources
usual = record { components = usual_components; subscriptions = []; policies = nothing_bound }
