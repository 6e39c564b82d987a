-- What is done and answered, carried from one function to the next.
use Rattle.std.proofs.Common.{◌≡◌, ◌⊎◌, ℕ, List, [], Some, Result, Ok, Err, inl, inr, sym, subst, ap, refl}
use Rattle.side_base.specs.declared.message.Request.{Request}
use Rattle.side_base.specs.declared.message.Response.{Response}
use Rattle.turn_cell.specs.declared.error.ApiErr.{ApiErr}
use Rattle.turn_cell.specs.declared.error.ApiErr.TheVariants as error
use Rattle.api_routes.specs.declared.route.Route.{Route}
use Rattle.api_routes.specs.declared.route.Route.TheVariants as route
use Rattle.api_routes.specs.declared.route.RouteErr.{RouteErr}
use Rattle.api_routes.specs.declared.route.RouteErr.TheVariants as lost
use Rattle.state_core.specs.declared.command.Cmd.{Cmd}
use Rattle.state_api.specs.declared.what.What.{What}
use Rattle.state_api.specs.declared.what.StateErr.{StateErr}
use Rattle.state_api.specs.declared.what.StateErr.TheVariants as fault
use Rattle.state_api.specs.Given.{Tells}
use Rattle.state_api.specs.Asked.{IsActorState, IsState}
use Rattle.meta_api.specs.declared.command.NotesReply.{NotesReply}
use Rattle.meta_api.specs.declared.command.NotesReply.TheVariants as told
use Rattle.meta_api.specs.Body.{IsPutReply, put_response}
use Rattle.sidecar_core.specs.declared.config.Config.{Config}
use Rattle.sidecar_objects.specs.declared.doing.Doing.{Doing}
use Rattle.retry_core.specs.declared.policy.Bound.{Bound}
use Rattle.sidecar_objects.specs.Kind.{SeatsAt}
use Rattle.link_call.specs.Came.{IsOr}
use Rattle.sidecar_core.specs.Exchange.{Answered, IsDone, AtActorState, AtSite, AtStore, FaultGives, PutReplies, store_in}
use Rattle.sidecar_core.specs.Exchange as exchange
use Rattle.sidecar_core.specs.Shown.{ActorStoreShows, RouteShows, StoreShows}

-- a response, or the want of memory for it, is no exhausted cell
pub not_exhausted : {A : Type 0} (response : Response) (reply : Result Response ApiErr) (count : ℕ) → IsOr response reply → reply ≡ Err (error.Exhausted count) → A
not_exhausted response reply count (inl given) is = absurd (cc)
not_exhausted response reply count (inr given) is = absurd (cc)

-- a route with a store is one of the state API
pub has_store : (asked : Route) (name : List ℕ) → store_in asked ≡ Some name → IsState asked
has_store (route.Save s) name is = tt
has_store (route.Get s key) name is = tt
has_store (route.Delete s key) name is = tt
has_store (route.Bulk s) name is = tt
has_store (route.Transact s) name is = tt
has_store (route.Invoke app rest) name is = absurd (cc)
has_store (route.Publish pubsub topic) name is = absurd (cc)
has_store (route.Binding other) name is = absurd (cc)
has_store (route.ActorCall actor id) name is = absurd (cc)
has_store (route.ActorGet actor id key) name is = absurd (cc)
has_store (route.ActorChange actor id) name is = absurd (cc)
has_store route.Health name is = absurd (cc)
has_store route.Metadata name is = absurd (cc)
has_store (route.SetMetadata other) name is = absurd (cc)
has_store route.Shutdown name is = absurd (cc)

-- one of the routes of the state of actors
pub has_actor : (asked : Route) (kind id : List ℕ) → ((key : List ℕ) × (asked ≡ route.ActorGet kind id key)) ⊎ (asked ≡ route.ActorChange kind id) → IsActorState asked
has_actor asked kind id (inl of) = subst IsActorState (sym of.1) tt
has_actor asked kind id (inr is) = subst IsActorState (sym is) tt

-- one of the routes of the state API, with this store
pub names_store : (asked : Route) (store : List ℕ) → (asked ≡ route.Save store) ⊎ (((key : List ℕ) × (asked ≡ route.Get store key)) ⊎ (((key : List ℕ) × (asked ≡ route.Delete store key)) ⊎ ((asked ≡ route.Bulk store) ⊎ (asked ≡ route.Transact store))))
    → store_in asked ≡ Some store
names_store asked store (inl is) = ap store_in is
names_store asked store (inr (inl of)) = ap store_in of.1
names_store asked store (inr (inr (inl of))) = ap store_in of.1
names_store asked store (inr (inr (inr (inl is)))) = ap store_in is
names_store asked store (inr (inr (inr (inr is)))) = ap store_in is

module _ (config : Config) (request : Request) (events : List Doing) (reply : Result Response ApiErr) where
  -- what is done at the store of actors is what is done for the request
  pub actors_answered : (asked : Route) (kind id : List ℕ) → ((key : List ℕ) × (asked ≡ route.ActorGet kind id key)) ⊎ (asked ≡ route.ActorChange kind id)
      → AtActorState config request asked kind id events reply → Answered config request (Ok asked) events reply
  actors_answered asked kind id (inl of) at = subst (λ a. Answered config request (Ok a) events reply) (sym of.1) (subst (λ a. AtActorState config request a kind id events reply) of.1 at)
  actors_answered asked kind id (inr is) at = subst (λ a. Answered config request (Ok a) events reply) (sym is) (subst (λ a. AtActorState config request a kind id events reply) is at)

  -- one of those that are answered at once
  pub done_answered : (asked : Route) → (asked ≡ route.Health) ⊎ (asked ≡ route.Shutdown) → IsDone events reply → Answered config request (Ok asked) events reply
  done_answered asked (inl is) gives = subst (λ a. Answered config request (Ok a) events reply) (sym is) gives
  done_answered asked (inr is) gives = subst (λ a. Answered config request (Ok a) events reply) (sym is) gives

  of_name : (asked : Route) (name s : List ℕ) → Some s ≡ Some name → AtStore config request asked name events reply → AtStore config request asked s events reply
  of_name asked name s is at = let same : name ≡ s = cc in subst (λ n. AtStore config request asked n events reply) same at

  -- what is done at the store of its name is what is done for the request
  pub state_answered : (asked : Route) (name : List ℕ) → store_in asked ≡ Some name → AtStore config request asked name events reply → Answered config request (Ok asked) events reply
  state_answered (route.Save s) name is at = of_name (route.Save s) name s is at
  state_answered (route.Get s key) name is at = of_name (route.Get s key) name s is at
  state_answered (route.Delete s key) name is at = of_name (route.Delete s key) name s is at
  state_answered (route.Bulk s) name is at = of_name (route.Bulk s) name s is at
  state_answered (route.Transact s) name is at = of_name (route.Transact s) name s is at
  state_answered (route.Invoke app rest) name is at = absurd (cc)
  state_answered (route.Publish pubsub topic) name is at = absurd (cc)
  state_answered (route.Binding other) name is at = absurd (cc)
  state_answered (route.ActorCall actor id) name is at = absurd (cc)
  state_answered (route.ActorGet actor id key) name is at = absurd (cc)
  state_answered (route.ActorChange actor id) name is at = absurd (cc)
  state_answered route.Health name is at = absurd (cc)
  state_answered route.Metadata name is at = absurd (cc)
  state_answered (route.SetMetadata other) name is at = absurd (cc)
  state_answered route.Shutdown name is at = absurd (cc)

module _ {O : Type 0} (config : Config) (seats : SeatsAt O) (count : ℕ) where
  shown_of_name : (name s : List ℕ) → Some s ≡ Some name → StoreShows config seats name count → StoreShows config seats s count
  shown_of_name name s is shows = let same : name ≡ s = cc in subst (λ n. StoreShows config seats n count) same shows

  -- what the store of its name shows is shown for the route
  pub state_shows : (asked : Route) (name : List ℕ) → store_in asked ≡ Some name → StoreShows config seats name count → RouteShows config seats asked count
  state_shows (route.Save s) name is shows = shown_of_name name s is shows
  state_shows (route.Get s key) name is shows = shown_of_name name s is shows
  state_shows (route.Delete s key) name is shows = shown_of_name name s is shows
  state_shows (route.Bulk s) name is shows = shown_of_name name s is shows
  state_shows (route.Transact s) name is shows = shown_of_name name s is shows
  state_shows (route.Invoke app rest) name is shows = absurd (cc)
  state_shows (route.Publish pubsub topic) name is shows = absurd (cc)
  state_shows (route.Binding other) name is shows = absurd (cc)
  state_shows (route.ActorCall actor id) name is shows = absurd (cc)
  state_shows (route.ActorGet actor id key) name is shows = absurd (cc)
  state_shows (route.ActorChange actor id) name is shows = absurd (cc)
  state_shows route.Health name is shows = absurd (cc)
  state_shows route.Metadata name is shows = absurd (cc)
  state_shows (route.SetMetadata other) name is shows = absurd (cc)
  state_shows route.Shutdown name is shows = absurd (cc)

module _ {O : Type 0} (config : Config) (seats : SeatsAt O) (count : ℕ) where
  -- what the store of actors shows is shown for the route
  pub actors_show : (asked : Route) (kind id : List ℕ) → ((key : List ℕ) × (asked ≡ route.ActorGet kind id key)) ⊎ (asked ≡ route.ActorChange kind id) → ActorStoreShows config seats count → RouteShows config seats asked count
  actors_show asked kind id (inl of) shows = subst (λ a. RouteShows config seats a count) (sym of.1) shows
  actors_show asked kind id (inr is) shows = subst (λ a. RouteShows config seats a count) (sym is) shows

-- an error of one call as that of another
pub same_err : {A B E : Type 0} (e other : E) → ◌≡◌ {A = Result A E} (Err e) (Err other) → ◌≡◌ {A = Result B E} (Err e) (Err other)
same_err {A} {B} {E} e other is = let same : e ≡ other = cc in ap {A = E} {B = Result B E} (λ (x : E). Err x) same

-- what the book answered to a value, as the response to it
pub put_says : (answer : NotesReply) (reply : Result Response ApiErr) → IsPutReply answer → IsOr (put_response answer) reply → PutReplies answer reply
put_says told.Noted reply is given = given
put_says (told.Full names bytes) reply is given = given
put_says (told.Listed pairs) reply is given = is
put_says told.NoMemory reply is given = absurd is

-- a request that gives no command
pub fault_at : (means : Result Cmd What → Type 0) (place : ℕ) (bound : Bound) (e : StateErr) (reply : Result Response ApiErr) → Tells {A = Cmd} (Err e) means → FaultGives e reply → AtSite means place bound [] reply
fault_at means place bound (fault.Malformed what) reply asks gives = exchange.refused what asks (refl, gives)
fault_at means place bound fault.NoMemory reply asks gives = exchange.lacks (refl, gives)

pub fault_shows_nothing : {A : Type 0} (e : StateErr) (reply : Result Response ApiErr) (count : ℕ) → FaultGives e reply → reply ≡ Err (error.Exhausted count) → A
fault_shows_nothing (fault.Malformed what) reply count gives is = not_exhausted _ reply count gives is
fault_shows_nothing fault.NoMemory reply count gives is = absurd (cc)

-- a request without a route meets no cell
pub refusal_shows_nothing : {A : Type 0} (config : Config) (request : Request) (e : RouteErr) (reply : Result Response ApiErr) (count : ℕ) → Answered config request (Err e) [] reply → reply ≡ Err (error.Exhausted count) → A
refusal_shows_nothing config request lost.NotFound reply count gives is = not_exhausted _ reply count gives.1 is
refusal_shows_nothing config request (lost.MethodNotAllowed allow) reply count gives is = not_exhausted _ reply count gives.1 is
refusal_shows_nothing config request (lost.BadEscape at) reply count gives is = not_exhausted _ reply count gives.1 is
refusal_shows_nothing config request lost.NoMemory reply count gives is = let other : reply ≡ Err error.NoMemory = gives.1 in absurd (cc)
