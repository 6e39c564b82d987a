-- Components as requests find them, by their names.
use Rattle.std.specs.Prelude.{◌≡◌, ◌≢◌, ℕ, List, length, take, bytes_eq, position, Some}
use mathlib.Core.Option.{some}
use lib.ListN.{get_elem?}
use Rattle.resource_spec.specs.declared.component.ComponentKind.{ComponentKind}
use Rattle.resource_spec.specs.Component.{Loaded}
use Rattle.sidecar_core.specs.declared.config.Config.{Config}
use Rattle.sidecar_turns.specs.Brokers.{brokers_of}

-- the component of this name, and its place
pub record IsNamed (config : Config) (name : List ℕ) (place : ℕ) (component : Loaded) : Type 0 where
  pub first : position (λ (c : Loaded). bytes_eq c.name name) config.components ≡ Some place
  pub there : get_elem? config.components place ≡ some component

-- no component of this kind has the name
abbrev pub IsNone : ComponentKind → Config → List ℕ → Type 0
IsNone kind config name = (place : ℕ) (component : Loaded) → IsNamed config name place component → component.kind ≢ kind

-- the place of the ledger of the pub/sub component at this place: as many of those stand before it
abbrev pub ledger_of : Config → ℕ → ℕ
ledger_of config place = length (brokers_of (take place config.components))
