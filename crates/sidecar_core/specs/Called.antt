-- Calls of apps and of bound services, and messages that are published, as what is done over all objects.
use Rattle.std.specs.Prelude.{◌≡◌, ℕ, List, map, Result}
use Rattle.side_base.specs.declared.message.LinkRequest.{LinkRequest}
use Rattle.side_base.specs.declared.message.Request.{Request}
use Rattle.side_base.specs.declared.message.Response.{Response}
use Rattle.side_world.specs.declared.link.LinkCall.{LinkCall}
use Rattle.turn_cell.specs.declared.error.ApiErr.{ApiErr}
use Rattle.retry_core.specs.declared.policy.Bound.{Bound}
use Rattle.resource_spec.specs.Component.{Loaded}
use Rattle.resource_spec.specs.declared.component.ComponentKind.TheVariants.{BindingHttp, PubsubMemory}
use Rattle.policy_spec.specs.Policies as aim
use Rattle.policy_spec.specs.Policies.{bound_by}
use Rattle.policy_run.specs.declared.outcome.Outcome.{Outcome}
use Rattle.policy_run.specs.Event.{Event}
use Rattle.policy_run.specs.Attempts.{Attempts}
use Rattle.ledger_core.specs.Message.{Step}
use Rattle.link_call.specs.declared.miss.Miss.{Miss}
use Rattle.link_call.specs.Came.{Gives}
use Rattle.link_call.specs.Linked.{Tries}
use Rattle.invoke_api.specs.Invoking.{Invokes}
use Rattle.invoke_api.specs.Places.{Apps}
use Rattle.bind_api.specs.Binding.{Binds}
use Rattle.pubsub_api.specs.declared.publication.Publication.{Publication}
use Rattle.pubsub_api.specs.Publishing.{Publishes, unknown_pubsub}
use Rattle.sidecar_objects.specs.declared.doing.Doing.{Doing}
use Rattle.sidecar_objects.specs.declared.doing.Doing.TheVariants.{Stepped}
use Rattle.sidecar_objects.specs.declared.doing.SlotStep.TheVariants.{Ledger}
use Rattle.sidecar_objects.specs.Doing.{laid}
use Rattle.sidecar_turns.specs.Ticking.{asked_under}
use Rattle.sidecar_core.specs.declared.config.Config.{Config}
use Rattle.sidecar_core.specs.Named.{IsNamed, IsNone, ledger_of}
use Rattle.sidecar_core.specs.Responses.{no_binding}

-- ---- calls

-- a request of a link is tried so often, under what is bound to its target
abbrev pub Tried : Bound → LinkRequest → List (Event LinkCall) → Outcome Response Miss → Type 0
Tried bound asked attempts outcome = Attempts bound (Tries asked) outcome attempts

-- where the apps of a configuration are called
abbrev pub apps_in : Config → Apps
apps_in config = record { own = config.app; port = config.app_port; peers = config.peers }

-- a method of an app is called, under what is bound to it
pub record AtApp (config : Config) (request : Request) (id rest : List ℕ) (events : List Doing) (reply : Result Response ApiErr) : Type 0 where
  pub attempts : List (Event LinkCall)
  pub invokes : Invokes (Tried (bound_by config.policies (aim.app id))) (apps_in config) request id rest attempts reply
  pub whole : events ≡ asked_under (bound_by config.policies (aim.app id)) attempts

-- a service is called by its component, under what is bound to what is sent to it
pub record AtService (config : Config) (request : Request) (name : List ℕ) (component : Loaded) (events : List Doing) (reply : Result Response ApiErr) : Type 0 where
  pub attempts : List (Event LinkCall)
  pub binds : Binds (Tried (bound_by config.policies (aim.outbound name))) component request attempts reply
  pub whole : events ≡ asked_under (bound_by config.policies (aim.outbound name)) attempts

-- a request to an output binding: the component of its name is looked for first
pub data AtBinding (config : Config) (request : Request) (name : List ℕ) (events : List Doing) (reply : Result Response ApiErr) : Type 0 where
  unknown_name : IsNone BindingHttp config name → Gives (no_binding name) events reply → AtBinding config request name events reply
  known : (place : ℕ) (component : Loaded) → IsNamed config name place component → component.kind ≡ BindingHttp → AtService config request name component events reply → AtBinding config request name events reply

-- ---- messages

-- what is published by a request to this component and topic
pub record IsPublication (config : Config) (request : Request) (component : Loaded) (topic : List ℕ) (what : Publication) : Type 0 where
  pub of_request : what.request.now ≡ request
  pub of_component : what.component.now ≡ component
  pub of_topic : what.topic.now ≡ topic
  pub of_app : what.app.now ≡ config.app
  pub of_subs : what.subs.now ≡ config.subs

-- what is done where a step is one of the ledger at this place
abbrev pub entered : ℕ → List (Event Step) → List Doing
entered place steps = map (laid (λ step. Stepped (Ledger place step)) 0) steps

-- a message is given to the ledger at this place
pub record AtLedger (config : Config) (request : Request) (component : Loaded) (topic : List ℕ) (ledger : ℕ) (events : List Doing) (reply : Result Response ApiErr) : Type 0 where
  pub what : Publication
  pub is : IsPublication config request component topic what
  pub steps : List (Event Step)
  pub publishes : Publishes what steps reply
  pub whole : events ≡ entered ledger steps

-- a request to publish: the pub/sub component of its name is looked for first, and then the message is given to its ledger
pub data AtBroker (config : Config) (request : Request) (name topic : List ℕ) (events : List Doing) (reply : Result Response ApiErr) : Type 0 where
  no_broker : IsNone PubsubMemory config name → Gives (unknown_pubsub name) events reply → AtBroker config request name topic events reply
  broker : (place : ℕ) (component : Loaded) → IsNamed config name place component → component.kind ≡ PubsubMemory → AtLedger config request component topic (ledger_of config place) events reply → AtBroker config request name topic events reply
