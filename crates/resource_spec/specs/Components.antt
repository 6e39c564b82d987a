-- Lists of components.
use Rattle.std.specs.Prelude.{ℕ, bytes_eq, List, find, Option}
use Rattle.resource_spec.specs.Component.{Loaded}

-- the component of this name
abbrev pub component_named : List ℕ → List Loaded → Option Loaded
component_named name components = find (λ (c : Loaded). bytes_eq c.name name) components
