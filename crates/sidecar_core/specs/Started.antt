-- What the objects of a configuration begin with, and the room for their end.
use Rattle.std.specs.Prelude.{◌≡◌, ◌≤◌, ℕ, List, [], length, map}
use Rattle.std.specs.List.{All}
use Rattle.std.specs.Vec.{vec_capacity}
use Rattle.keeper_core.specs.declared.keeper.Keeper.{Ghosts}
use Rattle.state_core.specs.Store.{keeper_of}
use Rattle.ledger_core.specs.Ledger.{plans_of}
use Rattle.breaker_core.specs.Breaker.{policy_of}
use Rattle.meta_api.specs.Notes.{pairs_of}
use Rattle.cron_ticks.specs.Ticks.{schedule_of}
use Rattle.sidecar_core.specs.declared.config.Config.{Config}
use Rattle.sidecar_objects.specs.declared.objects.Objects.{Objects}
use Rattle.sidecar_objects.specs.declared.objects.Pass.{Pass}
use Rattle.sidecar_objects.specs.Passes.{AreRoots}
use Rattle.sidecar_objects.specs.Pass.{cells_of, seats_of}
use Rattle.sidecar_core.specs.declared.room.Room.{Room}
use Rattle.sidecar_core.specs.Plans.{plans_in}
use Rattle.sidecar_turns.specs.Brokers.{brokers_of}
use Rattle.sidecar_turns.specs.Crons.{periods_of}

-- the stores have the keepers, in order; each broker has a ledger with the plans of all subscriptions; the breakers have their policies, in order; the book is empty; the
-- ticks have the periods of the cron components, in order, from this moment on; and the pass is that of the root seats
pub record IsStarted {K : Type 0} {keeper : Ghosts K} (config : Config) (keepers : List K) (start : ℕ) (config' : Config) (objects : Objects K keeper) (pass : Pass K keeper) : Type 0 where
  pub same : config' ≡ config
  pub stores : map (λ cell. keeper_of cell.first) objects.stores.items ≡ keepers
  pub ledgers : length objects.ledgers.items ≡ length (brokers_of config.components)
  pub plans : All (λ cell. plans_of cell.first ≡ plans_in config) objects.ledgers.items
  pub breakers : map (λ cell. policy_of cell.first) objects.breakers.items ≡ config.policies.breakers
  pub notes : pairs_of objects.notes.first ≡ []
  pub ticks : schedule_of objects.ticks.first ≡ record { periods = periods_of config.components; start = start }
  pub roots : AreRoots (cells_of objects) (seats_of pass)

-- room for so many stores and their keepers
pub record IsRoomFor {K : Type 0} {keeper : Ghosts K} (stores : ℕ) (room : Room K keeper) : Type 0 where
  pub no_store : room.closed.items ≡ []
  pub no_keeper : room.kept.items ≡ []
  pub for_stores : stores ≤ vec_capacity room.closed
  pub for_keepers : stores ≤ vec_capacity room.kept
