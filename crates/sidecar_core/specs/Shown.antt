-- Which cells a request calls, and what their seats show where one of them is exhausted.
use Rattle.std.specs.Prelude.{◌≡◌, ℕ, List, Some, Ok}
use Rattle.std.proofs.Common.{⊎_elim}
use Rattle.side_base.specs.declared.message.Request.{Request}
use Rattle.api_routes.specs.declared.route.Route.{Route}
use Rattle.api_routes.specs.declared.route.Route.TheVariants as route
use Rattle.api_routes.specs.Route.{Answers}
use Rattle.retry_core.specs.declared.policy.Bound.{Bound}
use Rattle.resource_spec.specs.Component.{Loaded}
use Rattle.resource_spec.specs.declared.component.ComponentKind.TheVariants.{PubsubMemory}
use Rattle.policy_spec.specs.Policies as aim
use Rattle.policy_spec.specs.Policies.{bound_by}
use Rattle.sidecar_core.specs.declared.config.Config.{Config}
use Rattle.sidecar_core.specs.Site.{Site}
use Rattle.sidecar_core.specs.Sites.{IsSite, IsActorSite}
use Rattle.sidecar_core.specs.Named.{IsNamed, ledger_of}
use Rattle.sidecar_objects.specs.Kind.{SeatsAt}
use Rattle.sidecar_objects.specs.Shown.{Shows, ShowsAt, book_shows, turns_show}
use Rattle.sidecar_objects.specs.Kind as kind
use Rattle.sidecar_core.specs.Ran.{IsShown}

-- the seat of the store of this name shows the count, or that of the breaker that is bound to what is sent to it
pub record StoreShows {O : Type 0} (config : Config) (seats : SeatsAt O) (name : List ℕ) (count : ℕ) : Type 0 where
  pub place : ℕ
  pub site : Site
  pub named : IsSite config name place site
  pub shown : IsShown place site.bound seats.stores seats.breakers count

-- the seat of the store of actors shows the count, or that of the breaker that is bound to what is sent to it
pub record ActorStoreShows {O : Type 0} (config : Config) (seats : SeatsAt O) (count : ℕ) : Type 0 where
  pub place : ℕ
  pub site : Site
  pub keeps : IsActorSite config place site
  pub shown : IsShown place site.bound seats.stores seats.breakers count

-- the seat of the breaker that is bound to a target shows the count
abbrev pub BreakerShows : {O : Type 0} → SeatsAt O → Bound → ℕ → Type 0
BreakerShows seats bound count = (k : ℕ) × (bound.breaker ≡ Some k) × ShowsAt k count seats.breakers

-- the seat of the ledger of the pub/sub component of this name shows the count
pub record LedgerShows {O : Type 0} (config : Config) (seats : SeatsAt O) (name : List ℕ) (count : ℕ) : Type 0 where
  pub place : ℕ
  pub component : Loaded
  pub named : IsNamed config name place component
  pub kind : component.kind ≡ PubsubMemory
  pub shown : ShowsAt (ledger_of config place) count seats.ledgers

-- The seat of a cell that requests of this route call shows the count: for the state API the cell of the store of the name, or of its breaker; for metadata that of
-- the book; for a call that of the breaker of the app, or of what is sent to the component; for a message that of its component's ledger; for a call of an actor that
-- of the turns, and for the state of one that of the store of actors, or of its breaker. The other routes call no cell
abbrev pub RouteShows : {O : Type 0} → Config → SeatsAt O → Route → ℕ → Type 0
RouteShows config seats (route.Save store) count = StoreShows config seats store count
RouteShows config seats (route.Get store key) count = StoreShows config seats store count
RouteShows config seats (route.Delete store key) count = StoreShows config seats store count
RouteShows config seats (route.Bulk store) count = StoreShows config seats store count
RouteShows config seats (route.Transact store) count = StoreShows config seats store count
RouteShows config seats (route.Invoke app rest) count = BreakerShows seats (bound_by config.policies (aim.app app)) count
RouteShows config seats (route.Publish pubsub topic) count = LedgerShows config seats pubsub count
RouteShows config seats (route.Binding name) count = BreakerShows seats (bound_by config.policies (aim.outbound name)) count
RouteShows config seats (route.ActorCall actor id) count = seats.turns.count ≡ Some count
RouteShows config seats (route.ActorGet actor id key) count = ActorStoreShows config seats count
RouteShows config seats (route.ActorChange actor id) count = ActorStoreShows config seats count
RouteShows config seats route.Health count = ⊥
RouteShows config seats route.Metadata count = seats.notes.count ≡ Some count
RouteShows config seats (route.SetMetadata name) count = seats.notes.count ≡ Some count
RouteShows config seats route.Shutdown count = ⊥

-- the seat of a cell that this request calls, by its route, shows the count
pub record ShownFor {O : Type 0} (config : Config) (seats : SeatsAt O) (request : Request) (count : ℕ) : Type 0 where
  pub asked : Route
  pub means : Answers request.method request.target (Ok asked)
  pub shown : RouteShows config seats asked count

module _ {O : Type 0} (config : Config) (seats : SeatsAt O) (count : ℕ) where
  of_site : (place : ℕ) (bound : Bound) → IsShown place bound seats.stores seats.breakers count → Shows seats count
  of_site place bound shown = ⊎_elim (λ here. record { kind = kind.stores; place = place; shown = here }) (λ there. record { kind = kind.breakers; place = there.0; shown = there.2 }) shown

  of_store : (name : List ℕ) → StoreShows config seats name count → Shows seats count
  of_store name shows = of_site shows.place shows.site.bound shows.shown

  of_breaker : (bound : Bound) → BreakerShows seats bound count → Shows seats count
  of_breaker bound shows = record { kind = kind.breakers; place = shows.0; shown = shows.2 }

  of_ledger : (name : List ℕ) → LedgerShows config seats name count → Shows seats count
  of_ledger name shows = record { kind = kind.ledgers; place = ledger_of config shows.place; shown = shows.shown }

  of_route : (asked : Route) → RouteShows config seats asked count → Shows seats count
  of_route (route.Save s) shows = of_store s shows
  of_route (route.Get s key) shows = of_store s shows
  of_route (route.Delete s key) shows = of_store s shows
  of_route (route.Bulk s) shows = of_store s shows
  of_route (route.Transact s) shows = of_store s shows
  of_route (route.Invoke app rest) shows = of_breaker (bound_by config.policies (aim.app app)) shows
  of_route (route.Publish pubsub topic) shows = of_ledger pubsub shows
  of_route (route.Binding name) shows = of_breaker (bound_by config.policies (aim.outbound name)) shows
  of_route (route.ActorCall actor id) shows = turns_show seats count shows
  of_route (route.ActorGet actor id key) shows = of_site shows.place shows.site.bound shows.shown
  of_route (route.ActorChange actor id) shows = of_site shows.place shows.site.bound shows.shown
  of_route route.Health shows = absurd shows
  of_route route.Metadata shows = book_shows seats count shows
  of_route (route.SetMetadata name) shows = book_shows seats count shows
  of_route route.Shutdown shows = absurd shows

  -- then a seat of the pass shows it
  pub some_seat : (request : Request) → ShownFor config seats request count → Shows seats count
  some_seat request shows = of_route shows.asked shows.shown
