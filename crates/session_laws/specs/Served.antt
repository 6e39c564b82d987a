-- A request that was answered, with all that was done for it.
use Rattle.std.specs.Prelude.{◌≡◌, ℕ, List, Result, Err}
use Rattle.side_base.specs.declared.message.Request.{Request}
use Rattle.side_base.specs.declared.message.Response.{Response}
use Rattle.turn_cell.specs.declared.error.ApiErr.{ApiErr}
use Rattle.turn_cell.specs.declared.error.ApiErr.TheVariants as error
use Rattle.api_routes.specs.declared.route.Route.{Route}
use Rattle.api_routes.specs.Route.{Means}
use Rattle.sidecar_objects.specs.declared.doing.Doing.{Doing}
use Rattle.sidecar_objects.specs.Kind.{CellsAt, Kinds}
use Rattle.sidecar_objects.specs.Did.{Did, Standing}
use Rattle.sidecar_objects.specs.Shown.{Shows}
use Rattle.sidecar_core.specs.declared.config.Config.{Config}
use Rattle.sidecar_core.specs.Exchange.{Exchange}
use Rattle.sidecar_core.specs.Shown.{ShownFor}

-- what a pass and all that it works with showed before and after, what was done between, and what was answered
pub record Served (O : Type 0) : Type 0 where
  pub config : Config
  pub request : Request
  pub before : Standing O
  pub events : List Doing
  pub after : Standing O
  pub reply : Result Response ApiErr

-- Over these cells a request for this route was answered as the configuration says, and what is told as done was done. Where an exhausted cell is told, a seat of one that
-- the route calls shows it
pub record IsServed {O : Type 0} (kinds : Kinds O) (cells : CellsAt O) (asked : Route) (served : Served O) : Type 0 where
  pub means : Means served.request.method served.request.target asked
  pub exchange : Exchange served.config served.request served.events served.reply
  pub did : Did kinds cells served.before served.events served.after
  pub shows : (count : ℕ) → served.reply ≡ Err (error.Exhausted count) → ShownFor served.config served.after.seats served.request count

-- there was no memory: 503
abbrev pub HasNoMemory : {O : Type 0} → Served O → Type 0
HasNoMemory served = served.reply ≡ Err error.NoMemory

-- a cell that the request calls is exhausted
pub record HasExhausted {O : Type 0} (served : Served O) : Type 0 where
  pub count : ℕ
  pub told : served.reply ≡ Err (error.Exhausted count)
  pub shown : ShownFor served.config served.after.seats served.request count

-- no cell is exhausted: no seat of the pass shows a count
abbrev pub IsFresh : {O : Type 0} → Served O → Type 0
IsFresh served = (count : ℕ) → ¬ Shows served.after.seats count
