-- What deliveries need of a configuration.
use Rattle.std.specs.Prelude.{◌≡◌, ◌<◌, ℕ, Bool, true, false, List, [], ◌∷◌, map, filter, is_some, length, Option, refl}
use Rattle.std.proofs.Common.{◌∙◌, ap}
use Rattle.std.specs.List.{All}
use Rattle.std.specs.Option.{ForSome}
use Rattle.retry_core.specs.declared.policy.Bound.{Bound}
use Rattle.resource_spec.specs.declared.component.ComponentKind.{ComponentKind}
use Rattle.resource_spec.specs.declared.component.ComponentKind.TheVariants as kinds
use Rattle.resource_spec.specs.Component.{Loaded}
use Rattle.policy_spec.specs.Policies.{Binding, bound_by, inbound}
use Rattle.turn_cell.specs.Sitting.{Begun}
use Rattle.ledger_core.specs.declared.ledger.Ledger.{Ledger}
use Rattle.ledger_core.specs.declared.plan.Plan.{Plan}
use Rattle.ledger_core.specs.Ledger.{plans_of}
use Rattle.topic_spec.specs.declared.sub.Sub.{Sub}
use Rattle.sidecar_objects.specs.Kind.{CellsAt}

-- the port at which the app listens, if it has one, and what is bound to what comes from each broker, in order
pub record Sites : Type 0 where
  pub port : Option ℕ
  pub inbound : List Bound

-- a broker is a pub/sub component
abbrev pub is_broker : ComponentKind → Bool
is_broker kinds.StateMemory = false
is_broker kinds.StateJournal = false
is_broker kinds.PubsubMemory = true
is_broker kinds.BindingHttp = false
is_broker kinds.BindingCron = false

abbrev pub brokers_of : List Loaded → List Loaded
brokers_of components = filter (λ (c : Loaded). is_broker c.kind) components

-- what is bound to what comes from a component
abbrev pub inbound_of : Binding → Loaded → Bound
inbound_of policies c = bound_by policies (inbound c.name)

-- of the brokers among these components, in their order
abbrev pub sites_of : Option ℕ → List Loaded → Binding → Sites
sites_of port components policies = record { port = port; inbound = map (inbound_of policies) (brokers_of components) }

-- the breaker that is bound, if one is, is one of so many
abbrev pub HasBreakerOf : ℕ → Bound → Type 0
HasBreakerOf count bound = ForSome bound.breaker (λ place. place < count)

abbrev pub HaveBreakers : ℕ → List Bound → Type 0
HaveBreakers count bounds = All (HasBreakerOf count) bounds

-- the ledger has one plan for each subscription, at its place, which ends in a dead letter exactly where the subscription has a topic for them
abbrev pub IsPlannedFor : List Sub → Ledger → Type 0
IsPlannedFor subs ledger = map (λ (plan : Plan). plan.dead) (plans_of ledger) ≡ map (λ (sub : Sub). is_some sub.dead) subs

-- These cells are those of the brokers: each broker has a ledger, which is planned for the subscriptions, and each breaker that is bound has a cell
pub record AreOf {O : Type 0} (cells : CellsAt O) (sites : Sites) (subs : List Sub) : Type 0 where
  pub ledgers : length cells.ledgers ≡ length sites.inbound
  pub planned : All (λ (cell : Begun Ledger). IsPlannedFor subs cell.first) cells.ledgers
  pub breakers : HaveBreakers (length cells.breakers) sites.inbound

-- ledgers with a plan of each subscription are planned for the subscriptions, where the plan ends in a dead letter exactly where the subscription has a topic for them
pub planned_as : (subs : List Sub) (plan_of : Sub → Plan) → ((sub : Sub) → (plan_of sub).dead ≡ is_some sub.dead) → (cells : List (Begun Ledger)) → All (λ cell. plans_of cell.first ≡ map plan_of subs) cells → All (λ (cell : Begun Ledger). IsPlannedFor subs cell.first) cells
planned_as subs plan_of dead cells all = λ k other low. ap (map (λ (plan : Plan). plan.dead)) (all k other low) ∙ of_each subs
  where
    of_each : (subs : List Sub) → map (λ (plan : Plan). plan.dead) (map plan_of subs) ≡ map (λ (sub : Sub). is_some sub.dead) subs
    of_each [] = refl
    of_each (sub ∷ subs) = (λ i. dead sub i ∷ of_each subs i)
