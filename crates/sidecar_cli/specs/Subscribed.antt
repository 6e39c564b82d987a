-- The subscriptions of a run: those that the files declare, and behind them those that the app lists.
use Rattle.std.specs.Prelude.{◌≡◌, ◌⊎◌, ℕ, List, [], ◌∷◌, ◌++◌, Option, Some, None, Result, Ok, Err, codes}
use Rattle.side_base.specs.declared.method.Method.TheVariants.{Get}
use Rattle.side_base.specs.declared.message.LinkRequest.{LinkRequest}
use Rattle.side_base.specs.declared.message.Response.{Response}
use Rattle.side_world.specs.declared.link.LinkCall.{LinkCall}
use Rattle.side_world.specs.declared.link.LinkErr.{LinkErr}
use Rattle.side_world.specs.declared.link.LinkErr.TheVariants as miss
use Rattle.link_call.specs.LinkAt.{Asks, LinkAt}
use Rattle.pubsub_api.specs.Listing.{IsSaid}
use Rattle.resource_files.specs.declared.resources.Refusal.TheVariants.{Subscriptions}
use Rattle.resource_files.specs.Refusals.{told_as}
use Rattle.topic_spec.specs.declared.sub.Sub.{Sub}
use Rattle.topic_spec.specs.declared.sub_err.SubErr.{SubErr}
use Rattle.topic_spec.specs.declared.sub_err.SubErr.TheVariants as lack
use Rattle.topic_spec.specs.Joining.{joined}
use Rattle.sidecar_cli.specs.declared.status.Status.{Status}
use Rattle.sidecar_cli.specs.declared.status.Status.TheVariants.{BadResources, OutsideFailed, NoMemory}
use Rattle.sidecar_cli.specs.declared.status.Device.TheVariants.{Link}

-- the question for the list of the app at this port, without fields and content
abbrev pub list_request : ℕ → LinkRequest
list_request port = record { host = codes "127.0.0.1"; port = port; method = Get; target = codes "/dapr/subscribe"; fields = []; body = [] }

-- the call that asks it, without a limit, with its answer
abbrev pub list_call : ℕ → Result Response LinkErr → LinkCall
list_call port answer = record { request = list_request port; limit_ms = 0; answer = answer }

-- this one call was made
abbrev pub AsksForList : ℕ → Result Response LinkErr → LinkAt → LinkAt → Type 0
AsksForList port answer link link' = Asks link (list_call port answer ∷ []) link'

-- The list that a reply says, behind the declared subscriptions; or why it is refused: in itself, or because there are too many then
pub data Lists (declared : List Sub) (response : Response) (result : Result (List Sub) SubErr) : Type 0 where
  behind : (said : List Sub) → IsSaid response (Ok said) → result ≡ joined declared said → Lists declared response result
  refused : (e : SubErr) → IsSaid response (Err e) → result ≡ Err e → Lists declared response result

-- what is told of a list that is refused
abbrev pub list_text : SubErr → List ℕ
list_text e = codes "subscribe" ++ (codes ": " ++ told_as (Subscriptions e))

-- how a run ends whose list is refused so, where there is memory for the text
abbrev pub IsToldOfList : SubErr → Status → Type 0
IsToldOfList lack.NoMemory status = status ≡ NoMemory
IsToldOfList e status = (status ≡ BadResources (list_text e)) ⊎ (status ≡ NoMemory)

-- the list is refused, and this tells why
abbrev pub IsListRefusedBy : List Sub → Response → List ℕ → Type 0
IsListRefusedBy declared response text = (e : SubErr) × Lists declared response (Err e) × (text ≡ list_text e)

-- What comes of the answer: the subscriptions, or how the run ends. A list is taken or refused but for want of memory; a call that failed or expired ends the run
abbrev pub Hears : List Sub → Result Response LinkErr → Result (List Sub) Status → Type 0
Hears declared (Ok response) (Ok subs) = Lists declared response (Ok subs)
Hears declared (Ok response) (Err status) = ((text : List ℕ) × IsListRefusedBy declared response text × (status ≡ BadResources text)) ⊎ (status ≡ NoMemory)
Hears declared (Err miss.Failed) result = result ≡ Err (OutsideFailed Link)
Hears declared (Err miss.Expired) result = result ≡ Err (OutsideFailed Link)
Hears declared (Err miss.NoMemory) result = result ≡ Err NoMemory

-- Without a port of the app nothing is asked, and there are none; with one the app is asked once, unless there is no memory for the question
pub data IsSubscribed (app_port : Option ℕ) (declared : List Sub) (link link' : LinkAt) (result : Result (List Sub) Status) : Type 0 where
  alone : app_port ≡ None → link' ≡ link → result ≡ Ok [] → IsSubscribed app_port declared link link' result
  asked : (port : ℕ) (answer : Result Response LinkErr) → app_port ≡ Some port → AsksForList port answer link link' → Hears declared answer result → IsSubscribed app_port declared link link' result
  lacks : link' ≡ link → result ≡ Err NoMemory → IsSubscribed app_port declared link link' result
