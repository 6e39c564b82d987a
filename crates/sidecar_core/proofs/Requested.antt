-- What calls of apps and services and messages came to, as what is answered to their requests.
use Rattle.std.proofs.Common.{◌≡◌, ◌∙◌, ◌<◌, ℕ, zero, suc, Bool, true, false, cond, List, [], ◌∷◌, length, take, slice_index_or, position, bytes_eq, Option, Some, None, Result, sym, subst, ap, arith}
use Rattle.std.proofs.lemmas.List.Quantifiers.{position-Some}
use mathlib.Core.Option.{some, some-injective, some-ne-none}
use lib.ListN.{get_elem?}
use Rattle.atomic_table.proofs.Lists.{at_index}
use Rattle.turn_cell.proofs.Lists.{in_range}
use Rattle.side_base.specs.declared.message.Request.{Request}
use Rattle.side_base.specs.declared.message.Response.{Response}
use Rattle.side_world.specs.declared.link.LinkCall.{LinkCall}
use Rattle.turn_cell.specs.declared.error.ApiErr.{ApiErr}
use Rattle.retry_core.specs.declared.policy.Bound.{Bound}
use Rattle.resource_spec.specs.Component.{Loaded}
use Rattle.resource_spec.specs.declared.component.ComponentKind.{ComponentKind}
use Rattle.resource_spec.specs.declared.component.ComponentKind.TheVariants as kinds
use Rattle.policy_spec.specs.Policies as aim
use Rattle.policy_spec.specs.Policies.{IsBoundWithin, bound_by}
use Rattle.policy_run.specs.Event.{Event}
use Rattle.policy_run.specs.Effects.{Times}
use Rattle.link_call.specs.Came.{Came}
use Rattle.link_call.specs.LinkAt.{LinkAt}
use Rattle.invoke_api.specs.Invoking.{Invokes}
use Rattle.invoke_api.specs.Invoking as invoking
use Rattle.invoke_api.specs.Places.{Apps}
use Rattle.bind_api.specs.Binding.{Binds}
use Rattle.bind_api.specs.Binding as binding
use Rattle.sidecar_core.specs.declared.config.Config.{Config}
use Rattle.sidecar_turns.specs.Ticking.{asked_under}
use Rattle.sidecar_core.specs.Called.{AtApp, AtService, Tried, apps_in}
use Rattle.sidecar_core.specs.Named.{IsNamed, IsNone}
use Rattle.sidecar_turns.specs.Brokers.{is_broker, brokers_of}

-- attempts whose cause is known are attempts
pub invokes_tried : (bound : Bound) (link link' : LinkAt) (clock : Times) (apps : Apps) (request : Request) (id rest : List ℕ) (events : List (Event LinkCall)) (reply : Result Response ApiErr)
    → Invokes (Came bound link link' clock) apps request id rest events reply → Invokes (Tried bound) apps request id rest events reply
invokes_tried bound link link' clock apps request id rest events reply (invoking.lacks none-there) = invoking.lacks none-there
invokes_tried bound link link' clock apps request id rest events reply (invoking.no_port own none-there gives) = invoking.no_port own none-there gives
invokes_tried bound link link' clock apps request id rest events reply (invoking.unknown other none-there gives) = invoking.unknown other none-there gives
invokes_tried bound link link' clock apps request id rest events reply (invoking.called place is by) = invoking.called place is (record { outcome = by.outcome; came = by.came.attempts; replies = by.replies })

pub binds_tried : (bound : Bound) (link link' : LinkAt) (clock : Times) (component : Loaded) (request : Request) (events : List (Event LinkCall)) (reply : Result Response ApiErr)
    → Binds (Came bound link link' clock) component request events reply → Binds (Tried bound) component request events reply
binds_tried bound link link' clock component request events reply (binding.lacks none-there) = binding.lacks none-there
binds_tried bound link link' clock component request events reply (binding.refused what asks gives) = binding.refused what asks gives
binds_tried bound link link' clock component request events reply (binding.called address ask at asks by) = binding.called address ask at asks (record { outcome = by.outcome; came = by.came.attempts; replies = by.replies })

-- ---- as what is answered to a request

module _ (config : Config) (request : Request) where
  pub app_called : (id rest : List ℕ) (bound : Bound) (link link' : LinkAt) (clock : Times) (attempts : List (Event LinkCall)) (answer : Result Response ApiErr) → bound ≡ bound_by config.policies (aim.app id)
      → Invokes (Came bound link link' clock) (apps_in config) request id rest attempts answer → AtApp config request id rest (asked_under bound attempts) answer
  app_called id rest bound link link' clock attempts answer same invokes = record {
    attempts = attempts;
    invokes = subst (λ b. Invokes (Tried b) (apps_in config) request id rest attempts answer) same (invokes_tried bound link link' clock (apps_in config) request id rest attempts answer invokes);
    whole = ap (λ b. asked_under b attempts) same;
  }

  pub service_called : (name : List ℕ) (component : Loaded) (bound : Bound) (link link' : LinkAt) (clock : Times) (attempts : List (Event LinkCall)) (answer : Result Response ApiErr) → bound ≡ bound_by config.policies (aim.outbound name)
      → Binds (Came bound link link' clock) component request attempts answer → AtService config request name component (asked_under bound attempts) answer
  service_called name component bound link link' clock attempts answer same binds = record {
    attempts = attempts;
    binds = subst (λ b. Binds (Tried b) component request attempts answer) same (binds_tried bound link link' clock component request attempts answer binds);
    whole = ap (λ b. asked_under b attempts) same;
  }

-- ---- where cells and seats stand

-- the breaker that is bound is one of so many
pub breaker_low : (count : ℕ) (bound : Bound) (k : ℕ) → IsBoundWithin count bound → bound.breaker ≡ Some k → k < count
breaker_low count bound k within is = within.place k is

-- the ledger of a pub/sub component is one of those of all
pub ledger_low : (components : List Loaded) (place : ℕ) (component : Loaded) → get_elem? components place ≡ some component → component.kind ≡ kinds.PubsubMemory → length (brokers_of (take place components)) < length (brokers_of components)
ledger_low [] place component there is = absurd (some-ne-none component (sym there))
ledger_low (first ∷ others) zero component there is = subst (λ (c : Loaded). 0 < length (brokers_of (c ∷ others))) (some-injective component first (sym there)) (here component is) where
  here : (c : Loaded) → c.kind ≡ kinds.PubsubMemory → 0 < length (brokers_of (c ∷ others))
  here c is = let chosen : is_broker c.kind ≡ true = ap is_broker is in subst (λ b. 0 < length (cond b (c ∷ brokers_of others) (brokers_of others))) (sym chosen) (omega arith)
ledger_low (first ∷ others) (suc place) component there is = let below = ledger_low others place component there is in by below (is_broker first.kind) where
  by : length (brokers_of (take place others)) < length (brokers_of others) → (b : Bool) → length (cond b (first ∷ brokers_of (take place others)) (brokers_of (take place others))) < length (cond b (first ∷ brokers_of others) (brokers_of others))
  by below true = omega (arith, below)
  by below false = below

some-same : (i k : ℕ) → ◌≡◌ {A = Option ℕ} (Some i) (Some k) → i ≡ k
some-same i k e = cc

-- the component that was found stands at its place
module _ (config : Config) (name : List ℕ) (place : ℕ) (kind : ComponentKind) (found : (component : Loaded) × IsNamed config name place component × (component.kind ≡ kind)) where
  pub named_low : place < length config.components
  named_low = in_range config.components place found.0 found.1.there

  module _ (component : Loaded) (is : component ≡ slice_index_or config.components place component) where
    same_one : found.0 ≡ component
    same_one = some-injective found.0 component (sym found.1.there ∙ at_index config.components place component named_low is)

    pub named_here : IsNamed config name place component
    named_here = subst (IsNamed config name place) same_one found.1

    pub named_kind : component.kind ≡ kind
    named_kind = subst (λ (c : Loaded). c.kind ≡ kind) same_one found.2

-- where a name was looked for by its bytes
pub first_named : (config : Config) (name bytes : List ℕ) (looked : Option ℕ) (at : ℕ) → bytes ≡ name → looked ≡ position (λ (c : Loaded). bytes_eq c.name bytes) config.components → looked ≡ Some at
    → position (λ (c : Loaded). bytes_eq c.name name) config.components ≡ Some at
first_named config name bytes looked at same was is = subst (λ (n : List ℕ). position (λ (c : Loaded). bytes_eq c.name n) config.components ≡ Some at) same (sym was ∙ is)

-- the one at the place of the first of this name
module _ (config : Config) (name : List ℕ) (at : ℕ) (component : Loaded) (first : position (λ (c : Loaded). bytes_eq c.name name) config.components ≡ Some at) (is : component ≡ slice_index_or config.components at component) where
  first_there : get_elem? config.components at ≡ some component
  first_there = at_index config.components at component (position-Some (λ (c : Loaded). bytes_eq c.name name) config.components at component first).0 is

  pub found_first : (kind : ComponentKind) → component.kind ≡ kind → (place : ℕ) → Some at ≡ Some place → (c : Loaded) × IsNamed config name place c × (c.kind ≡ kind)
  found_first kind of place same = subst (λ n. (c : Loaded) × IsNamed config name n c × (c.kind ≡ kind)) (some-same at place same) (component, record { first = first; there = first_there }, of)

  -- and no other has the name
  pub none_first : (kind : ComponentKind) → (component.kind ≡ kind → ⊥) → IsNone kind config name
  none_first kind far place other named of = far (subst (λ (c : Loaded). c.kind ≡ kind) (some-injective other component (sym named.there ∙ subst (λ n. get_elem? config.components n ≡ some component) (some-same at place (sym first ∙ named.first)) first_there)) of)

-- no component has the name
pub none_named : (config : Config) (name : List ℕ) (kind : ComponentKind) → position (λ (c : Loaded). bytes_eq c.name name) config.components ≡ None → IsNone kind config name
none_named config name kind none-there place component named of = absurd (none-some place (sym none-there ∙ named.first)) where
  none-some : (n : ℕ) → ◌≡◌ {A = Option ℕ} None (Some n) → ⊥
  none-some n e = absurd (cc)
