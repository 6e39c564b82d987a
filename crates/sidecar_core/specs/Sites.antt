-- The stores of a configuration, and what metadata tells of its components.
use Rattle.std.specs.Prelude.{◌≡◌, ◌<◌, ℕ, All, Bool, true, false, ◌&&◌, not, List, length, map, filter, codes, bytes_eq, position, Option, Some, None}
use Rattle.std.specs.Option.{ForSome}
use mathlib.Core.Option.{some}
use lib.ListN.{get_elem?}
use Rattle.retry_core.specs.declared.policy.Bound.{Bound}
use Rattle.resource_spec.specs.declared.component.ComponentKind.{ComponentKind}
use Rattle.resource_spec.specs.declared.component.ComponentKind.TheVariants as kinds
use Rattle.resource_spec.specs.Component.{Loaded, key_prefix_of, kind_name, setting_of}
use Rattle.policy_spec.specs.Policies.{bound_by, outbound}
use Rattle.state_api.specs.Words.{has_bars}
use Rattle.meta_api.specs.declared.response.ComponentNote.{ComponentNote}
use Rattle.meta_api.specs.declared.response.SubscriptionNote.{SubscriptionNote}
use Rattle.topic_spec.specs.declared.sub.Sub.{Sub}
use Rattle.sidecar_core.specs.declared.config.Config.{Config}
use Rattle.sidecar_core.specs.Site.{Site}

abbrev pub is_store : ComponentKind → Bool
is_store kinds.StateMemory = true
is_store kinds.StateJournal = true
is_store kinds.PubsubMemory = false
is_store kinds.BindingHttp = false
is_store kinds.BindingCron = false

-- the state components, in order
abbrev pub stores_of : List Loaded → List Loaded
stores_of components = filter (λ (c : Loaded). is_store c.kind) components

-- what stands before a store's keys, and what is bound to the calls that are sent to it
abbrev pub site_of : Config → Loaded → Site
site_of config c = record { name = c.name; prefix = record { text = key_prefix_of config.app c }; bound = bound_by config.policies (outbound c.name) }

abbrev pub sites_of : Config → List Site
sites_of config = map (site_of config) (stores_of config.components)

-- the place of the first store of this name
abbrev pub place_named : List ℕ → List Site → Option ℕ
place_named name sites = position (λ (site : Site). bytes_eq site.name name) sites

-- this is the store of this name, and it stands at this place
pub record IsSite (config : Config) (name : List ℕ) (place : ℕ) (site : Site) : Type 0 where
  pub named : place_named name (sites_of config) ≡ Some place
  pub there : get_elem? (sites_of config) place ≡ some site

-- ---- the store of actors

abbrev pub says_true : Option (List ℕ) → Bool
says_true None = false
says_true (Some text) = bytes_eq text (codes "true")

abbrev pub holds_bars : Option (List ℕ) → Bool
holds_bars None = false
holds_bars (Some text) = has_bars text

-- its setting `actorStateStore` is true, and in its setting `keyPrefix` no two bars stand in a row
abbrev pub keeps_actors : Loaded → Bool
keeps_actors c = says_true (setting_of c (codes "actorStateStore")) && not (holds_bars (setting_of c (codes "keyPrefix")))

-- the place of the first state component that keeps the state of actors, among the state components
abbrev pub actor_store_of : List Loaded → Option ℕ
actor_store_of components = position keeps_actors (stores_of components)

-- this is the store of actors, and it stands at this place
pub record IsActorSite (config : Config) (place : ℕ) (site : Site) : Type 0 where
  pub keeps : actor_store_of config.components ≡ Some place
  pub there : get_elem? (sites_of config) place ≡ some site

-- ---- metadata and breakers

-- what metadata tells of a component: its name, its type and its version
abbrev pub note_of : Loaded → ComponentNote
note_of c = record { name = c.name; kind = kind_name c.kind; version = c.version }

abbrev pub notes_of : Config → List ComponentNote
notes_of config = map note_of config.components

-- what metadata tells of a subscription: the name of its component, its topic and its dead-letter topic, where it has one
abbrev pub sub_note_of : Sub → SubscriptionNote
sub_note_of sub = record { pubsub = sub.pubsub; topic = sub.topic; dead = sub.dead }

abbrev pub sub_notes_of : Config → List SubscriptionNote
sub_notes_of config = map sub_note_of config.subs

-- the breaker that is bound, if one is, is one of so many
abbrev pub HasBreakerOf : ℕ → Bound → Type 0
HasBreakerOf count bound = ForSome bound.breaker (λ place. place < count)

-- the breaker that is bound to each of these stores is one of those of the policies
abbrev pub HaveBreakers : Config → List Site → Type 0
HaveBreakers config sites = All (λ site. HasBreakerOf (length config.policies.breakers) site.bound) sites
