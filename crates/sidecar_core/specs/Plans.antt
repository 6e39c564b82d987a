-- The plans of a configuration's ledgers.
use Rattle.std.specs.Prelude.{List, map, is_some}
use Rattle.ledger_core.specs.declared.plan.Plan.{Plan}
use Rattle.policy_spec.specs.Policies.{Binding, bound_by, inbound}
use Rattle.topic_spec.specs.declared.sub.Sub.{Sub}
use Rattle.sidecar_core.specs.declared.config.Config.{Config}

-- A failing delivery to this subscription is made again as is bound to what comes from its pub/sub component, and is given up into its dead-letter topic where it has one
abbrev pub plan_of : Binding → Sub → Plan
plan_of policies sub = record { retry = (bound_by policies (inbound sub.pubsub)).retry; dead = is_some sub.dead }

-- one plan for each subscription, at its place, in every ledger
abbrev pub plans_in : Config → List Plan
plans_in config = map (plan_of config.policies) config.subs
