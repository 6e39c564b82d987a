-- A request to an output binding.
use Rattle.std.specs.Prelude.{◌≡◌, ℕ, ◌&&◌, nat_le, if◌then◌else◌, List, [], ◌∷◌, ◌++◌, codes, decimal, Option, Some, None, Result, Ok, Err}
use Rattle.side_base.specs.declared.message.Field.{Field}
use Rattle.side_base.specs.declared.message.LinkRequest.{LinkRequest}
use Rattle.side_base.specs.declared.message.Request.{Request}
use Rattle.side_base.specs.declared.message.Response.{Response}
use Rattle.side_base.specs.Field.{first_value}
use Rattle.turn_cell.specs.declared.error.ApiErr.{ApiErr}
use Rattle.turn_cell.specs.declared.error.ApiErr.TheVariants as error
use Rattle.api_error.specs.declared.code.Code.TheVariants as code
use Rattle.api_error.specs.Body.{error_response}
use Rattle.resource_spec.specs.Component.{Loaded, setting_of}
use Rattle.resource_spec.specs.Url.{Address}
use Rattle.policy_run.specs.declared.outcome.Outcome.{Outcome}
use Rattle.policy_run.specs.declared.outcome.Outcome.TheVariants.{Good, Bad, Refused, Exhausted, NoMemory}
use Rattle.policy_run.specs.RefusalText.{refusal_text}
use Rattle.link_call.specs.declared.miss.Miss.{Miss}
use Rattle.link_call.specs.declared.miss.Miss.TheVariants.{Failed, Expired, Replied}
use Rattle.link_call.specs.Came.{Came, Gives, IsOr, Lacks}
use Rattle.link_call.specs.LinkAt.{Links}
use Rattle.policy_run.specs.Effects.{Times}
use Rattle.policy_run.specs.Event.{Event}
use Rattle.retry_core.specs.declared.policy.Bound.{Bound}
use Rattle.side_world.specs.declared.link.LinkCall.{LinkCall}
use Rattle.bind_api.specs.declared.asking.Ask.{Ask}
use Rattle.bind_api.specs.declared.malformed.Wrong.{Wrong}
use Rattle.bind_api.specs.declared.malformed.AskErr.{AskErr}
use Rattle.bind_api.specs.declared.malformed.AskErr.TheVariants as unasked
use Rattle.bind_api.specs.Malformed.{malformed}
use Rattle.bind_api.specs.Asked.{BodyAsks, ask_in}
use Rattle.bind_api.specs.Requested.{address_in, request_to}

-- ---- what is answered

-- an error of this route
abbrev pub not_bound : List ℕ → Response
not_bound message = error_response 500 code.InvokeOutputBinding message

-- without content
abbrev pub done : Response
done = record { status = 204; fields = []; body = [] }

abbrev pub type_field : List ℕ → Field
type_field value = record { name = codes "Content-Type"; value = value }

-- the reply's own type, where it has one
abbrev pub type_fields : Option (List ℕ) → List Field
type_fields None = []
type_fields (Some value) = type_field value ∷ []

abbrev pub status_field : ℕ → Field
status_field status = record { name = codes "metadata.statusCode"; value = decimal status }

-- the first type that the reply says, and its status
abbrev pub taken_fields : Response → List Field
taken_fields response = type_fields (first_value (codes "Content-Type") response.fields) ++ status_field response.status ∷ []

-- the body of a good reply with its status, or that there is none
abbrev pub taken_with : Response → List ℕ → Response
taken_with response [] = done
taken_with response (byte ∷ bytes) = record { status = 200; fields = taken_fields response; body = byte ∷ bytes }

-- a reply of 200 to 299 is good, and of any other the status is told
abbrev pub told : Response → Response
told response = if nat_le 200 response.status && nat_le response.status 299 then taken_with response response.body else not_bound (codes "status " ++ decimal response.status)

-- the last attempt failed
abbrev pub missed : Miss → Response
missed Failed = not_bound (codes "call failed")
missed Expired = not_bound (codes "call expired")
missed (Replied response) = told response

-- the response to what the attempts came to; a call that ended early has none
abbrev pub BindingReplies : Outcome Response Miss → Result Response ApiErr → Type 0
BindingReplies (Good response) reply = IsOr (told response) reply
BindingReplies (Bad miss) reply = IsOr (missed miss) reply
BindingReplies (Refused refusal) reply = IsOr (not_bound (refusal_text refusal)) reply
BindingReplies (Exhausted count) reply = reply ≡ Err (error.Exhausted count)
BindingReplies NoMemory reply = reply ≡ Err error.NoMemory

-- ---- what is asked

-- the component has this address
abbrev pub IsAddress : Loaded → Address → Type 0
IsAddress component address = address_in (setting_of component (codes "url")) ≡ Some address

-- what is asked of the program at the component's address, or why nothing is
abbrev pub AsksOf : Loaded → List ℕ → Result LinkRequest AskErr → Type 0
AsksOf component body (Ok asked) = (address : Address) × (ask : Ask) × IsAddress component address × BodyAsks ask_in body (Ok ask) × (asked ≡ request_to address ask)
AsksOf component body (Err (unasked.Malformed what)) = BodyAsks ask_in body (Err what)
AsksOf component body (Err unasked.NoMemory) = Unit {0}

-- the response where nothing is asked
abbrev pub UnaskedReplies : AskErr → Result Response ApiErr → Type 0
UnaskedReplies (unasked.Malformed what) reply = IsOr (malformed what) reply
UnaskedReplies unasked.NoMemory reply = reply ≡ Err error.NoMemory

-- ---- all of it

-- the attempts of a request, and the response to what they came to; `ran` says what attempts with an outcome do
pub record Called {E : Type 0} (ran : LinkRequest → List E → Outcome Response Miss → Type 0) (asked : LinkRequest) (events : List E) (reply : Result Response ApiErr) : Type 0 where
  pub outcome : Outcome Response Miss
  pub came : ran asked events outcome
  pub replies : BindingReplies outcome reply

-- A request to a binding: its body is judged, and then the call is made. There may be no memory before anything is done
pub data Binds {E : Type 0} (ran : LinkRequest → List E → Outcome Response Miss → Type 0) (component : Loaded) (request : Request) (events : List E) (reply : Result Response ApiErr) : Type 0 where
  lacks : Lacks events reply → Binds ran component request events reply
  refused : (what : Wrong) → BodyAsks ask_in request.body (Err what) → Gives (malformed what) events reply → Binds ran component request events reply
  called : (address : Address) (ask : Ask) → IsAddress component address → BodyAsks ask_in request.body (Ok ask) → Called ran (request_to address ask) events reply → Binds ran component request events reply

-- the same by calls of a link, under what is bound to the component
abbrev pub BindsBy : Bound → Loaded → Request → Result Response ApiErr → Links → Times → List (Event LinkCall) → Type 0
BindsBy bound component request reply link clock events = Binds (Came bound link.before link.after clock) component request events reply
