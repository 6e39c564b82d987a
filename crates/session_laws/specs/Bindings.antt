-- Requests to output bindings: what they are answered, and why.
use Rattle.std.specs.Prelude.{◌≡◌, ◌≤◌, ◌⊎◌, ℕ, List, [], codes, Ok, Err}
use Rattle.side_base.specs.declared.message.Response.{Response}
use Rattle.retry_core.specs.declared.policy.Bound.{Bound}
use Rattle.resource_spec.specs.Component.{Loaded}
use Rattle.resource_spec.specs.Url.{Address}
use Rattle.resource_spec.specs.declared.component.ComponentKind.TheVariants.{BindingCron, BindingHttp}
use Rattle.policy_spec.specs.Policies as aim
use Rattle.policy_spec.specs.Policies.{bound_by}
use Rattle.policy_run.specs.declared.outcome.Refusal.{Refusal}
use Rattle.policy_run.specs.RefusalText.{refusal_text}
use Rattle.bind_api.specs.declared.asking.Ask.{Ask}
use Rattle.bind_api.specs.declared.malformed.Wrong.{Wrong}
use Rattle.bind_api.specs.Asked.{BodyAsks, ask_in}
use Rattle.bind_api.specs.Requested.{request_to}
use Rattle.bind_api.specs.Malformed.{malformed}
use Rattle.bind_api.specs.Binding.{IsAddress, not_bound, taken_with, told}
use Rattle.sidecar_core.specs.declared.config.Config.{Config}
use Rattle.sidecar_core.specs.Named.{IsNamed, IsNone}
use Rattle.sidecar_core.specs.Responses.{no_binding}
use Rattle.session_laws.specs.Served.{HasExhausted, HasNoMemory, Served}
use Rattle.session_laws.specs.Asking.{HasExpiry, HasFault, HasReply, IsTurnedAway, IsUnhindered}

-- what is bound to what is sent to a component
abbrev pub bound_to : Config → List ℕ → Bound
bound_to config name = bound_by config.policies (aim.outbound name)

module _ {O : Type 0} (name : List ℕ) (served : Served O) where
  -- the binding of this name
  pub record IsBinding (component : Loaded) : Type 0 where
    pub place : ℕ
    pub named : IsNamed served.config name place component
    pub kind : component.kind ≡ BindingHttp

  -- the program at the component's address was asked what the body says, and this is its last reply
  pub record HasServiceReplied (response : Response) : Type 0 where
    pub component : Loaded
    pub is : IsBinding component
    pub address : Address
    pub stands : IsAddress component address
    pub ask : Ask
    pub asks : BodyAsks ask_in served.request.body (Ok ask)
    pub replied : HasReply (request_to address ask) served.events response

  -- Why a request to a binding is answered so; the last reply is told by its status. For want of memory there is no cause
  pub data IsBindingAnswered : Type 0 where
    unknown : IsNone BindingHttp served.config name → served.events ≡ [] → served.reply ≡ Ok (no_binding name) → IsBindingAnswered
    wrong : (what : Wrong) → BodyAsks ask_in served.request.body (Err what) → served.events ≡ [] → served.reply ≡ Ok (malformed what) → IsBindingAnswered
    replied : (response : Response) → HasServiceReplied response → served.reply ≡ Ok (told response) → IsBindingAnswered
    failed : HasFault served → served.reply ≡ Ok (not_bound (codes "call failed")) → IsBindingAnswered
    expired : HasExpiry served (bound_to served.config name) → served.reply ≡ Ok (not_bound (codes "call expired")) → IsBindingAnswered
    refused : (refusal : Refusal) → IsTurnedAway (bound_to served.config name) refusal served.events → served.reply ≡ Ok (not_bound (refusal_text refusal)) → IsBindingAnswered
    exhausted : HasExhausted served → IsBindingAnswered
    lacks : HasNoMemory served → IsBindingAnswered

  -- the name is that of a cron component
  pub record NamesCron : Type 0 where
    pub place : ℕ
    pub component : Loaded
    pub named : IsNamed served.config name place component
    pub kind : component.kind ≡ BindingCron

  -- then nothing is done, and the answer is that no binding of the name is known; or there was no memory
  abbrev pub CronIsUnknown : Type 0
  CronIsUnknown = NamesCron → ((served.events ≡ []) × (served.reply ≡ Ok (no_binding name))) ⊎ HasNoMemory served

  -- there is a binding of the name, and the body is not malformed
  pub record IsBindingAsked : Type 0 where
    pub component : Loaded
    pub there : IsBinding component
    pub well_formed : (what : Wrong) → ¬ BodyAsks ask_in served.request.body (Err what)

  -- a reply of 200 to 299
  pub record IsSuccess (response : Response) : Type 0 where
    pub low : 200 ≤ response.status
    pub high : response.status ≤ 299

  -- the reply is told: 200 with its content, or 204 where it has none
  pub record IsTaken : Type 0 where
    pub response : Response
    pub replied : HasServiceReplied response
    pub taken : served.reply ≡ Ok (taken_with response response.body)

  -- where this is so and nothing stands against the call, and the last reply is one of 200 to 299, that reply is told, or there was no memory
  abbrev pub IsAnsweredWhereAllIsWell : Type 0
  IsAnsweredWhereAllIsWell =
      IsBindingAsked → IsUnhindered served (bound_to served.config name) → ((response : Response) → HasServiceReplied response → IsSuccess response) → IsTaken ⊎ HasNoMemory served
