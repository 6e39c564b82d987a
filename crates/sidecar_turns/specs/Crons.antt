-- What ticks need of a configuration.
use Rattle.std.specs.Prelude.{◌≡◌, ℕ, Bool, true, false, List, map, filter, length, codes, Option, Some, None, unwrap_or}
use Rattle.std.proofs.Common.{◌∙◌, sym}
use Rattle.std.specs.List.{All}
use Rattle.std.proofs.lemmas.List.{length-map}
use Rattle.retry_core.specs.Bound.{IsWithinLimit}
use Rattle.resource_spec.specs.declared.component.ComponentKind.{ComponentKind}
use Rattle.resource_spec.specs.declared.component.ComponentKind.TheVariants as kinds
use Rattle.resource_spec.specs.Component.{Loaded, setting_of}
use Rattle.resource_spec.specs.Schedule.{period_in}
use Rattle.policy_spec.specs.Policies.{Binding, bound_by, inbound}
use Rattle.cron_ticks.specs.Ticks.{schedule_of}
use Rattle.sidecar_objects.specs.Kind.{CellsAt}
use Rattle.sidecar_turns.specs.declared.cron.Cron.{Cron}
use Rattle.sidecar_turns.specs.Brokers.{HasBreakerOf}

-- the port at which the app listens, if it has one, and the bindings that tick, in order
pub record Inputs : Type 0 where
  pub port : Option ℕ
  pub crons : List Cron

-- a cron component ticks
abbrev pub is_cron : ComponentKind → Bool
is_cron kinds.StateMemory = false
is_cron kinds.StateJournal = false
is_cron kinds.PubsubMemory = false
is_cron kinds.BindingHttp = false
is_cron kinds.BindingCron = true

abbrev pub crons_among : List Loaded → List Loaded
crons_among components = filter (λ (c : Loaded). is_cron c.kind) components

-- its name, and what is bound to what comes from it
abbrev pub cron_by : Binding → Loaded → Cron
cron_by policies c = record { name = c.name; bound = bound_by policies (inbound c.name) }

-- of the bindings that tick among these components, in their order
abbrev pub crons_of : Option ℕ → List Loaded → Binding → Inputs
crons_of port components policies = record { port = port; crons = map (cron_by policies) (crons_among components) }

-- the period that a schedule says
abbrev pub period_said : Option (List ℕ) → ℕ
period_said None = 0
period_said (Some schedule) = unwrap_or (period_in schedule) 0

abbrev pub period_of : Loaded → ℕ
period_of c = period_said (setting_of c (codes "schedule"))

abbrev pub periods_of : List Loaded → List ℕ
periods_of components = map period_of (crons_among components)

-- what is bound is within its limits
abbrev pub AreWithinLimits : List Cron → Type 0
AreWithinLimits crons = All (λ (cron : Cron). IsWithinLimit cron.bound) crons

-- the breaker that is bound, if one is, is one of so many
abbrev pub HaveGates : ℕ → List Cron → Type 0
HaveGates count crons = All (λ (cron : Cron). HasBreakerOf count cron.bound) crons

-- These cells fit the bindings: the ticks have a period of each, and each breaker that is bound has a cell
pub record AreTicksOf {O : Type 0} (cells : CellsAt O) (inputs : Inputs) : Type 0 where
  pub periods : length (schedule_of cells.ticks.first).periods ≡ length inputs.crons
  pub breakers : HaveGates (length cells.breakers) inputs.crons

-- there is a period of each
pub period_of_each : (port : Option ℕ) (components : List Loaded) (policies : Binding) → length (periods_of components) ≡ length (crons_of port components policies).crons
period_of_each port components policies = length-map (crons_among components) period_of ∙ sym (length-map (crons_among components) (cron_by policies))
