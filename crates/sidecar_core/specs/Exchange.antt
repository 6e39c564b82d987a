-- An exchange: what is done for a request, and what is answered.
use Rattle.std.specs.Prelude.{◌≡◌, ◌⊎◌, ℕ, List, [], ◌∷◌, Result, Ok, Err, Option, Some, None, IsUtf8}
use Rattle.side_base.specs.declared.message.Request.{Request}
use Rattle.side_base.specs.declared.message.Response.{Response}
use Rattle.turn_cell.specs.declared.error.ApiErr.{ApiErr}
use Rattle.turn_cell.specs.declared.error.ApiErr.TheVariants as error
use Rattle.api_routes.specs.declared.route.Route.{Route}
use Rattle.api_routes.specs.declared.route.Route.TheVariants as route
use Rattle.api_routes.specs.declared.route.RouteErr.{RouteErr}
use Rattle.api_routes.specs.declared.route.RouteErr.TheVariants.{NotFound, MethodNotAllowed, BadEscape, NoMemory}
use Rattle.api_routes.specs.Route.{Answers}
use Rattle.retry_core.specs.declared.policy.Bound.{Bound}
use Rattle.state_core.specs.declared.command.Cmd.{Cmd}
use Rattle.state_api.specs.declared.running.Ran.{Ran}
use Rattle.state_api.specs.declared.what.What.{What}
use Rattle.state_api.specs.declared.what.What.TheVariants.{Shape}
use Rattle.state_api.specs.declared.what.StateErr.{StateErr}
use Rattle.state_api.specs.declared.what.StateErr.TheVariants as fault
use Rattle.state_api.specs.Asked.{Asks, AsksActor}
use Rattle.state_api.specs.Response.{response_of, malformed, done}
use Rattle.meta_api.specs.declared.command.NotesCmd.{NotesCmd}
use Rattle.meta_api.specs.declared.command.NotesCmd.TheVariants.{Put}
use Rattle.meta_api.specs.declared.command.NotesCmd.TheVariants as ask
use Rattle.meta_api.specs.declared.command.NotesReply.{NotesReply}
use Rattle.meta_api.specs.declared.command.NotesReply.TheVariants as told
use Rattle.meta_api.specs.History.{Step}
use Rattle.meta_api.specs.Body.{metadata_response, put_response}
use Rattle.sidecar_core.specs.declared.config.Config.{Config}
use Rattle.sidecar_core.specs.Site.{Site}
use Rattle.sidecar_objects.specs.declared.doing.Doing.{Doing}
use Rattle.sidecar_objects.specs.declared.doing.Doing.TheVariants.{Stepped}
use Rattle.sidecar_objects.specs.declared.doing.SlotStep.TheVariants.{Book}
use Rattle.link_call.specs.Came.{IsOr, Lacks, Gives}
use Rattle.sidecar_core.specs.Ran.{StoreRan}
use Rattle.sidecar_core.specs.Actors.{AtActor, IsActorName}
use Rattle.sidecar_core.specs.Called.{AtApp, AtBinding, AtBroker}
use Rattle.sidecar_core.specs.Responses.{no_route, not_allowed, bad_escape, bad_actor, no_actor_store, no_store}
use Rattle.sidecar_core.specs.Sites.{sites_of, place_named, IsSite, actor_store_of, IsActorSite, notes_of, sub_notes_of}

-- ---- state

-- the name of the store of a request of the state API
abbrev pub store_in : Route → Option (List ℕ)
store_in (route.Save store) = Some store
store_in (route.Get store key) = Some store
store_in (route.Delete store key) = Some store
store_in (route.Bulk store) = Some store
store_in (route.Transact store) = Some store
store_in (route.Invoke app rest) = None
store_in (route.Publish pubsub topic) = None
store_in (route.Binding name) = None
store_in (route.ActorCall actor id) = None
store_in (route.ActorGet actor id key) = None
store_in (route.ActorChange actor id) = None
store_in route.Health = None
store_in route.Metadata = None
store_in (route.SetMetadata name) = None
store_in route.Shutdown = None

-- the response to what a state call came to; a call that ended early has none
abbrev pub Replies : Cmd → Result Ran ApiErr → Result Response ApiErr → Type 0
Replies cmd (Ok ran) reply = IsOr (response_of cmd ran) reply
Replies cmd (Err e) reply = reply ≡ Err e

-- what is answered to a request that gives no command
abbrev pub FaultGives : StateErr → Result Response ApiErr → Type 0
FaultGives (fault.Malformed what) reply = IsOr (malformed what) reply
FaultGives fault.NoMemory reply = reply ≡ Err error.NoMemory

-- a command was given to the store at this place, under what is bound to it
pub record Called (place : ℕ) (bound : Bound) (cmd : Cmd) (events : List Doing) (reply : Result Response ApiErr) : Type 0 where
  pub ran : Result Ran ApiErr
  pub steps : StoreRan place bound cmd events ran
  pub replies : Replies cmd ran reply

-- A request at a store, by what it may mean: its body is judged first, and then the command is given to the store. There may be no memory before anything is done
pub data AtSite (means : Result Cmd What → Type 0) (place : ℕ) (bound : Bound) (events : List Doing) (reply : Result Response ApiErr) : Type 0 where
  lacks : Lacks events reply → AtSite means place bound events reply
  refused : (what : What) → means (Err what) → Gives (malformed what) events reply → AtSite means place bound events reply
  called : (cmd : Cmd) → means (Ok cmd) → Called place bound cmd events reply → AtSite means place bound events reply

-- a request of the state API: the store of its name is looked for first
pub data AtStore (config : Config) (request : Request) (asked : Route) (name : List ℕ) (events : List Doing) (reply : Result Response ApiErr) : Type 0 where
  unknown : place_named name (sites_of config) ≡ None → Gives (no_store name) events reply → AtStore config request asked name events reply
  found : (place : ℕ) (site : Site) → IsSite config name place site → AtSite (Asks site.prefix request asked) place site.bound events reply → AtStore config request asked name events reply

-- a request of the state of an actor: its kind and its id are judged before all else, and then the store of actors is looked for
pub data AtActorState (config : Config) (request : Request) (asked : Route) (kind id : List ℕ) (events : List Doing) (reply : Result Response ApiErr) : Type 0 where
  no_actor : ¬ IsActorName kind id → Gives bad_actor events reply → AtActorState config request asked kind id events reply
  nowhere : IsActorName kind id → actor_store_of config.components ≡ None → Gives no_actor_store events reply → AtActorState config request asked kind id events reply
  kept : IsActorName kind id → (place : ℕ) (site : Site) → IsActorSite config place site → AtSite (AsksActor config.app request asked) place site.bound events reply → AtActorState config request asked kind id events reply

-- ---- metadata

-- one step of the book with this command, and its reply; or the book's cell is exhausted, and there is no step
pub data NotesRan (cmd : NotesCmd) (events : List Doing) (result : Result NotesReply ApiErr) : Type 0 where
  stepped : (step : Step) → step.cmd ≡ cmd → events ≡ Stepped (Book step) ∷ [] → result ≡ Ok step.reply → NotesRan cmd events result
  exhausted : (count : ℕ) → events ≡ [] → result ≡ Err (error.Exhausted count) → NotesRan cmd events result

-- the response to a value that was to be noted
abbrev pub PutReplies : NotesReply → Result Response ApiErr → Type 0
PutReplies told.Noted reply = IsOr (put_response told.Noted) reply
PutReplies (told.Full names bytes) reply = IsOr (put_response (told.Full names bytes)) reply
PutReplies (told.Listed pairs) reply = ⊥
PutReplies told.NoMemory reply = reply ≡ Err error.NoMemory

-- the response to metadata that was asked for
abbrev pub ListReplies : Config → NotesReply → Result Response ApiErr → Type 0
ListReplies config told.Noted reply = ⊥
ListReplies config (told.Full names bytes) reply = ⊥
ListReplies config (told.Listed pairs) reply = IsOr (metadata_response config.app (notes_of config) (sub_notes_of config) pairs) reply
ListReplies config told.NoMemory reply = reply ≡ Err error.NoMemory

-- what is answered where the book was asked; a call that ended early has no response
abbrev pub NotesReplies : (NotesReply → Result Response ApiErr → Type 0) → Result NotesReply ApiErr → Result Response ApiErr → Type 0
NotesReplies replies (Ok answer) reply = replies answer reply
NotesReplies replies (Err e) reply = reply ≡ Err e

-- the book was asked, and its reply is answered so
pub record AtNotes (cmd : NotesCmd) (replies : NotesReply → Result Response ApiErr → Type 0) (events : List Doing) (reply : Result Response ApiErr) : Type 0 where
  pub ran : Result NotesReply ApiErr
  pub steps : NotesRan cmd events ran
  pub says : NotesReplies replies ran reply

-- A value is noted for a name if it is UTF-8; there may be no memory before anything is done
pub data SetsNote (name value : List ℕ) (events : List Doing) (reply : Result Response ApiErr) : Type 0 where
  lacks : Lacks events reply → SetsNote name value events reply
  refused : ¬ IsUtf8 value → Gives (malformed Shape) events reply → SetsNote name value events reply
  noted : IsUtf8 value → AtNotes (Put name value) PutReplies events reply → SetsNote name value events reply

-- ---- all routes

-- nothing is done, and 204 is answered; this takes no memory
abbrev pub IsDone : List Doing → Result Response ApiErr → Type 0
IsDone events reply = (events ≡ []) × (reply ≡ Ok done)

-- what a route's request is answered
abbrev pub Answered : Config → Request → Result Route RouteErr → List Doing → Result Response ApiErr → Type 0
Answered config request (Ok (route.Save store)) events reply = AtStore config request (route.Save store) store events reply
Answered config request (Ok (route.Get store key)) events reply = AtStore config request (route.Get store key) store events reply
Answered config request (Ok (route.Delete store key)) events reply = AtStore config request (route.Delete store key) store events reply
Answered config request (Ok (route.Bulk store)) events reply = AtStore config request (route.Bulk store) store events reply
Answered config request (Ok (route.Transact store)) events reply = AtStore config request (route.Transact store) store events reply
Answered config request (Ok (route.Invoke app rest)) events reply = AtApp config request app rest events reply
Answered config request (Ok (route.Publish pubsub topic)) events reply = AtBroker config request pubsub topic events reply
Answered config request (Ok (route.Binding name)) events reply = AtBinding config request name events reply
Answered config request (Ok (route.ActorCall actor id)) events reply = AtActor config request actor id events reply
Answered config request (Ok (route.ActorGet actor id key)) events reply = AtActorState config request (route.ActorGet actor id key) actor id events reply
Answered config request (Ok (route.ActorChange actor id)) events reply = AtActorState config request (route.ActorChange actor id) actor id events reply
Answered config request (Ok route.Health) events reply = IsDone events reply
Answered config request (Ok route.Metadata) events reply = AtNotes ask.List (ListReplies config) events reply
Answered config request (Ok (route.SetMetadata name)) events reply = SetsNote name request.body events reply
Answered config request (Ok route.Shutdown) events reply = IsDone events reply
Answered config request (Err NotFound) events reply = Gives no_route events reply
Answered config request (Err (MethodNotAllowed allow)) events reply = Gives (not_allowed allow) events reply
Answered config request (Err (BadEscape at)) events reply = Gives (bad_escape at) events reply
Answered config request (Err NoMemory) events reply = Lacks events reply

-- the method and the target say the route, and the route says what is done and answered
pub record Replied (config : Config) (request : Request) (events : List Doing) (reply : Result Response ApiErr) : Type 0 where
  pub routed : Result Route RouteErr
  pub routes : Answers request.method request.target routed
  pub answered : Answered config request routed events reply

-- this is what was answered; or there was a response, and no room for it
abbrev pub IsSaid : Result Response ApiErr → Result Response ApiErr → Type 0
IsSaid answer reply = (reply ≡ answer) ⊎ ((response : Response) × (answer ≡ Ok response) × (reply ≡ Err error.NoMemory))

-- An exchange of a connection: what is done for a request and answered to it, unless the connection has no room for the response
pub record Exchange (config : Config) (request : Request) (events : List Doing) (reply : Result Response ApiErr) : Type 0 where
  pub answer : Result Response ApiErr
  pub replied : Replied config request events answer
  pub said : IsSaid answer reply
