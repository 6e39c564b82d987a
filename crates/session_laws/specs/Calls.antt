-- Calls of apps: what they are answered, and why.
use Rattle.std.specs.Prelude.{◌≡◌, ◌≢◌, ◌<◌, ◌⊎◌, ℕ, List, [], ◌++◌, codes, None, Ok}
use Rattle.side_base.specs.declared.message.Response.{Response}
use Rattle.app_peers.specs.Peers.{peer_of}
use Rattle.retry_core.specs.declared.policy.Bound.{Bound}
use Rattle.policy_spec.specs.Policies as aim
use Rattle.policy_spec.specs.Policies.{bound_by}
use Rattle.policy_run.specs.declared.outcome.Refusal.{Refusal}
use Rattle.policy_run.specs.RefusalText.{refusal_text}
use Rattle.link_call.specs.Passed.{passed_on}
use Rattle.invoke_api.specs.declared.placing.Place.{Place}
use Rattle.invoke_api.specs.Places.{IsPlace, request_at}
use Rattle.invoke_api.specs.Invoking.{not_invoked}
use Rattle.sidecar_core.specs.declared.config.Config.{Config}
use Rattle.sidecar_core.specs.Called.{apps_in}
use Rattle.session_laws.specs.Served.{HasExhausted, HasNoMemory, Served}
use Rattle.session_laws.specs.Asking.{HasExpiry, HasFault, HasReply, IsTurnedAway, IsUnhindered}

-- what is bound to an app
abbrev pub bound_to : Config → List ℕ → Bound
bound_to config id = bound_by config.policies (aim.app id)

module _ {O : Type 0} (id rest : List ℕ) (served : Served O) where
  -- the app was asked, and this is its last reply
  pub record HasAppReplied (response : Response) : Type 0 where
    pub place : Place
    pub stands : IsPlace (apps_in served.config) id rest place
    pub replied : HasReply (request_at place served.request) served.events response

  -- Why a call of an app is answered so. For want of memory there is no cause
  pub data IsCallAnswered : Type 0 where
    no_port : id ≡ served.config.app → served.config.app_port ≡ None → served.events ≡ [] → served.reply ≡ Ok (not_invoked (codes "no app port")) → IsCallAnswered
    unknown : id ≢ served.config.app → peer_of served.config.peers id ≡ None → served.events ≡ [] → served.reply ≡ Ok (not_invoked (codes "unknown app " ++ id)) → IsCallAnswered
    replied : (response : Response) → HasAppReplied response → served.reply ≡ Ok (passed_on response) → IsCallAnswered
    failed : HasFault served → served.reply ≡ Ok (not_invoked (codes "call failed")) → IsCallAnswered
    expired : HasExpiry served (bound_to served.config id) → served.reply ≡ Ok (not_invoked (codes "call expired")) → IsCallAnswered
    refused : (refusal : Refusal) → IsTurnedAway (bound_to served.config id) refusal served.events → served.reply ≡ Ok (not_invoked (refusal_text refusal)) → IsCallAnswered
    exhausted : HasExhausted served → IsCallAnswered
    lacks : HasNoMemory served → IsCallAnswered

  -- the app is there: the own one at its port, or another one among the peers
  abbrev pub IsAppThere : Type 0
  IsAppThere = (place : Place) × IsPlace (apps_in served.config) id rest place

  -- the app's reply is passed on, which is below 500
  pub record IsPassedOn : Type 0 where
    pub response : Response
    pub replied : HasAppReplied response
    pub passed : served.reply ≡ Ok (passed_on response)

  -- where the app is there and nothing stands against the call, and the last reply is below 500, that reply is passed on, or there was no memory
  abbrev pub IsAnsweredWhereAllIsWell : Type 0
  IsAnsweredWhereAllIsWell =
      IsAppThere → IsUnhindered served (bound_to served.config id) → ((response : Response) → HasAppReplied response → response.status < 500) → IsPassedOn ⊎ HasNoMemory served
