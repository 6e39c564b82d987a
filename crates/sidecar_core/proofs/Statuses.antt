-- The status of each response is from 100 to 999.
use Rattle.std.proofs.Common.{◌≡◌, ◌≤◌, ℕ, List, Result, Ok, Err, inl, inr, sym, subst, arith}
use Rattle.std.specs.Prelude.{IfOk}
use Rattle.http.specs.StatusCode.{IsStatusCode}
use Rattle.side_base.specs.declared.message.Request.{Request}
use Rattle.side_base.specs.declared.message.Response.{Response}
use Rattle.turn_cell.specs.declared.error.ApiErr.{ApiErr}
use Rattle.api_routes.specs.declared.route.Route.{Route}
use Rattle.api_routes.specs.declared.route.RouteErr.{RouteErr}
use Rattle.api_routes.specs.declared.route.RouteErr.TheVariants.{NotFound, MethodNotAllowed, BadEscape, NoMemory}
use Rattle.state_core.specs.declared.command.Cmd.{Cmd}
use Rattle.state_core.specs.declared.reply.Reply.{Reply}
use Rattle.state_core.specs.declared.reply.Reply.TheVariants as reply
use Rattle.state_api.specs.declared.running.Ran.{Ran}
use Rattle.state_api.specs.declared.running.Ran.TheVariants.{Replied, Refused}
use Rattle.state_api.specs.Response.{response_to, response_of}
use Rattle.meta_api.specs.declared.command.NotesCmd.TheVariants as ask
use Rattle.meta_api.specs.declared.command.NotesReply.{NotesReply}
use Rattle.meta_api.specs.declared.command.NotesReply.TheVariants as told
use Rattle.sidecar_core.specs.declared.config.Config.{Config}
use Rattle.retry_core.specs.declared.policy.Bound.{Bound}
use Rattle.state_api.specs.declared.what.What.{What}
use Rattle.sidecar_objects.specs.declared.doing.Doing.{Doing}
use Rattle.link_call.specs.Came.{IsOr}
use Rattle.sidecar_core.specs.Exchange.{Answered, AtActorState, AtNotes, AtSite, AtStore, ListReplies, NotesReplies, PutReplies, Replies, SetsNote}
use Rattle.sidecar_core.specs.Exchange as exchange

of_two : (given response : Response) → IsStatusCode given.status → IsOr given (Ok response) → IsStatusCode response.status
of_two given response fine (inl is) = let same : response ≡ given = cc in subst (λ (r : Response). IsStatusCode r.status) (sym same) fine
of_two given response fine (inr is) = absurd (cc)

no_response : {A : Type 0} (response : Response) (e : ApiErr) → Ok response ≡ Err e → A
no_response response e is = absurd (cc)

fine_to : (cmd : Cmd) (r : Reply) → IsStatusCode (response_to cmd r).status
fine_to cmd (reply.Value value version) = (omega arith, omega arith)
fine_to cmd reply.Absent = (omega arith, omega arith)
fine_to cmd reply.Saved = (omega arith, omega arith)
fine_to cmd (reply.SomeRefused places) = (omega arith, omega arith)
fine_to cmd reply.Deleted = (omega arith, omega arith)
fine_to cmd (reply.Mismatch place) = (omega arith, omega arith)
fine_to cmd (reply.Rows rows) = (omega arith, omega arith)
fine_to cmd (reply.TooLong len) = (omega arith, omega arith)
fine_to cmd reply.Committed = (omega arith, omega arith)
fine_to cmd reply.Failed = (omega arith, omega arith)
fine_to cmd (reply.Full len) = (omega arith, omega arith)
fine_to cmd (reply.Spent next) = (omega arith, omega arith)
fine_to cmd reply.NoMemory = (omega arith, omega arith)

fine_of : (cmd : Cmd) (ran : Ran) → IsStatusCode (response_of cmd ran).status
fine_of cmd (Replied r) = fine_to cmd r
fine_of cmd (Refused refusal) = (omega arith, omega arith)

fine_replies : (cmd : Cmd) (ran : Result Ran ApiErr) (response : Response) → Replies cmd ran (Ok response) → IsStatusCode response.status
fine_replies cmd (Ok ran) response replies = of_two (response_of cmd ran) response (fine_of cmd ran) replies
fine_replies cmd (Err e) response replies = no_response response e replies

fine_site : (means : Result Cmd What → Type 0) (place : ℕ) (bound : Bound) (events : List Doing) (response : Response) → AtSite means place bound events (Ok response) → IsStatusCode response.status
fine_site means place bound events response (exchange.lacks none-there) = no_response response _ none-there.1
fine_site means place bound events response (exchange.refused what asks gives) = of_two _ response (omega arith, omega arith) gives.1
fine_site means place bound events response (exchange.called cmd asks by) = fine_replies cmd by.ran response by.replies

fine_store : (config : Config) (request : Request) (asked : Route) (name : List ℕ) (events : List Doing) (response : Response) → AtStore config request asked name events (Ok response) → IsStatusCode response.status
fine_store config request asked name events response (exchange.unknown is gives) = of_two _ response (omega arith, omega arith) gives.1
fine_store config request asked name events response (exchange.found place site is at) = fine_site _ place site.bound events response at

fine_actor : (config : Config) (request : Request) (asked : Route) (kind id : List ℕ) (events : List Doing) (response : Response) → AtActorState config request asked kind id events (Ok response) → IsStatusCode response.status
fine_actor config request asked kind id events response (exchange.no_actor named gives) = of_two _ response (omega arith, omega arith) gives.1
fine_actor config request asked kind id events response (exchange.nowhere named is gives) = of_two _ response (omega arith, omega arith) gives.1
fine_actor config request asked kind id events response (exchange.kept named place site is at) = fine_site _ place site.bound events response at

fine_put : (answer : NotesReply) (response : Response) → PutReplies answer (Ok response) → IsStatusCode response.status
fine_put told.Noted response says = of_two _ response (omega arith, omega arith) says
fine_put (told.Full names bytes) response says = of_two _ response (omega arith, omega arith) says
fine_put (told.Listed pairs) response says = absurd says
fine_put told.NoMemory response says = no_response response _ says

fine_list : (config : Config) (answer : NotesReply) (response : Response) → ListReplies config answer (Ok response) → IsStatusCode response.status
fine_list config told.Noted response says = absurd says
fine_list config (told.Full names bytes) response says = absurd says
fine_list config (told.Listed pairs) response says = of_two _ response (omega arith, omega arith) says
fine_list config told.NoMemory response says = no_response response _ says

fine_ran : (replies : NotesReply → Result Response ApiErr → Type 0) (ran : Result NotesReply ApiErr) (response : Response) → ((answer : NotesReply) → replies answer (Ok response) → IsStatusCode response.status) → NotesReplies replies ran (Ok response) → IsStatusCode response.status
fine_ran replies (Ok answer) response each says = each answer says
fine_ran replies (Err e) response each says = no_response response e says

fine_set : (name value : List ℕ) (events : List Doing) (response : Response) → SetsNote name value events (Ok response) → IsStatusCode response.status
fine_set name value events response (exchange.lacks none-there) = no_response response _ none-there.1
fine_set name value events response (exchange.refused not-text gives) = of_two _ response (omega arith, omega arith) gives.1
fine_set name value events response (exchange.noted text at) = fine_ran PutReplies at.ran response (λ answer. fine_put answer response) at.says

-- ---- of what is answered

pub fine_given : (given : Response) (answer : Result Response ApiErr) → IsStatusCode given.status → IsOr given answer → IfOk answer (λ response. IsStatusCode response.status)
fine_given given (Ok response) fine says = of_two given response fine says
fine_given given (Err e) fine says = tt

pub fine_at_store : (config : Config) (request : Request) (asked : Route) (name : List ℕ) (events : List Doing) (answer : Result Response ApiErr) → AtStore config request asked name events answer → IfOk answer (λ response. IsStatusCode response.status)
fine_at_store config request asked name events (Ok response) at = fine_store config request asked name events response at
fine_at_store config request asked name events (Err e) at = tt

pub fine_at_actor : (config : Config) (request : Request) (asked : Route) (kind id : List ℕ) (events : List Doing) (answer : Result Response ApiErr) → AtActorState config request asked kind id events answer → IfOk answer (λ response. IsStatusCode response.status)
fine_at_actor config request asked kind id events (Ok response) at = fine_actor config request asked kind id events response at
fine_at_actor config request asked kind id events (Err e) at = tt

pub fine_at_list : (config : Config) (events : List Doing) (answer : Result Response ApiErr) → AtNotes ask.List (ListReplies config) events answer → IfOk answer (λ response. IsStatusCode response.status)
fine_at_list config events (Ok response) at = fine_ran (ListReplies config) at.ran response (λ said. fine_list config said response) at.says
fine_at_list config events (Err e) at = tt

pub fine_at_set : (name value : List ℕ) (events : List Doing) (answer : Result Response ApiErr) → SetsNote name value events answer → IfOk answer (λ response. IsStatusCode response.status)
fine_at_set name value events (Ok response) at = fine_set name value events response at
fine_at_set name value events (Err e) at = tt

-- those of calls and of messages
pub given_between : (given : Response) (answer : Result Response ApiErr) → (200 ≤ given.status) × (given.status ≤ 599) → IsOr given answer → IfOk answer (λ response. (200 ≤ response.status) × (response.status ≤ 599))
given_between given (Ok response) low (inl is) = let same : response ≡ given = cc in subst (λ (r : Response). (200 ≤ r.status) × (r.status ≤ 599)) (sym same) low
given_between given (Ok response) low (inr is) = absurd (cc)
given_between given (Err e) low says = tt

pub fine_between : (answer : Result Response ApiErr) → IfOk answer (λ response. (200 ≤ response.status) × (response.status ≤ 599)) → IfOk answer (λ response. IsStatusCode response.status)
fine_between (Ok response) low = (omega (arith, low.0), omega (arith, low.1))
fine_between (Err e) low = tt

-- of a request without a route
pub fine_refusal : (config : Config) (request : Request) (e : RouteErr) (events : List Doing) (answer : Result Response ApiErr) → Answered config request (Err e) events answer → IfOk answer (λ response. IsStatusCode response.status)
fine_refusal config request NotFound events answer at = fine_given _ answer (omega arith, omega arith) at.1
fine_refusal config request (MethodNotAllowed allow) events answer at = fine_given _ answer (omega arith, omega arith) at.1
fine_refusal config request (BadEscape place) events answer at = fine_given _ answer (omega arith, omega arith) at.1
fine_refusal config request NoMemory events (Ok response) at = no_response response _ at.1
fine_refusal config request NoMemory events (Err e) at = tt
