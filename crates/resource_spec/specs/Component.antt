-- A component as contracts see it, and what a component of each kind has.
use Rattle.std.specs.Prelude.{◌≢◌, ℕ, bytes_eq, if◌then◌else◌, List, codes, Option, Some, None, IsSome}
use Rattle.resource_spec.specs.declared.component.ComponentKind.{ComponentKind}
use Rattle.resource_spec.specs.declared.component.ComponentKind.TheVariants as kinds
use Rattle.resource_spec.specs.declared.setting.Setting.{Setting}
use Rattle.resource_spec.specs.Setting.{setting_named}
use Rattle.resource_spec.specs.Schedule.{period_in}
use Rattle.resource_spec.specs.Url.{address_of}

-- the type that documents give a component of a kind
abbrev pub kind_name : ComponentKind → List ℕ
kind_name kinds.StateMemory = codes "state.in-memory"
kind_name kinds.StateJournal = codes "state.journal"
kind_name kinds.PubsubMemory = codes "pubsub.in-memory"
kind_name kinds.BindingHttp = codes "bindings.http"
kind_name kinds.BindingCron = codes "bindings.cron"

pub record Loaded : Type 0 where
  pub name : List ℕ
  pub kind : ComponentKind
  pub version : List ℕ
  pub settings : List Setting

-- the value of its first setting of this name
abbrev pub setting_of : Loaded → List ℕ → Option (List ℕ)
setting_of c name = setting_named name c.settings

-- a state component's keys may not be kept by namespaces
abbrev pub HasPrefix : Loaded → Type 0
HasPrefix c = setting_of c (codes "keyPrefix") ≢ Some (codes "namespace")

-- a journal is a file
abbrev pub HasPath : Loaded → Type 0
HasPath c = IsSome (setting_of c (codes "path"))

-- an output binding has an address
abbrev pub HasUrl : Loaded → Type 0
HasUrl c = IsUrl (setting_of c (codes "url"))
  where
    IsUrl : Option (List ℕ) → Type 0
    IsUrl None = ⊥
    IsUrl (Some url) = IsSome (address_of url)

-- a cron component has a schedule that says a period
abbrev pub HasSchedule : Loaded → Type 0
HasSchedule c = IsSchedule (setting_of c (codes "schedule"))
  where
    IsSchedule : Option (List ℕ) → Type 0
    IsSchedule None = ⊥
    IsSchedule (Some schedule) = IsSome (period_in schedule)

-- what a component of its kind has
abbrev pub HasNeeds : Loaded → Type 0
HasNeeds c = of_kind c.kind
  where
    of_kind : ComponentKind → Type 0
    of_kind kinds.StateMemory = HasPrefix c
    of_kind kinds.StateJournal = HasPath c × HasPrefix c
    of_kind kinds.PubsubMemory = Unit {0}
    of_kind kinds.BindingHttp = HasUrl c
    of_kind kinds.BindingCron = HasSchedule c

-- what stands before the keys of an app in a state component: the app's id, the component's name, another text, or nothing
abbrev pub prefix_by : List ℕ → List ℕ → Option (List ℕ) → Option (List ℕ)
prefix_by app name None = Some app
prefix_by app name (Some setting) =
    if bytes_eq setting (codes "appid") then Some app
    else if bytes_eq setting (codes "name") then Some name
    else if bytes_eq setting (codes "none") then None
    else Some setting

abbrev pub key_prefix_of : List ℕ → Loaded → Option (List ℕ)
key_prefix_of app c = prefix_by app c.name (setting_of c (codes "keyPrefix"))
