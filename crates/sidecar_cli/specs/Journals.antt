-- What the stores of a run have saved, and what their journals hold of it.
use Rattle.std.specs.Prelude.{◌≡◌, ℕ, List, [], ◌∷◌, Some}
use Rattle.side_world.specs.declared.disk.Disk.{Ghosts as Keeps}
use Rattle.side_world.specs.Outside.{Disks}
use Rattle.keeper_core.specs.declared.changes.Changes.{Changes}
use Rattle.keeper_core.specs.declared.keeper.Keeper.{Ghosts}
use Rattle.keeper_journal.specs.declared.any_keeper.AnyKeeper.{AnyKeeper}
use Rattle.turn_cell.specs.Sitting.{Begun, Sitting}
use Rattle.state_core.specs.declared.command.Cmd.{Cmd}
use Rattle.state_core.specs.declared.reply.Reply.{Reply}
use Rattle.state_core.specs.declared.store.Store.{Store}
use Rattle.state_core.specs.Store.{held_by}
use Rattle.state_core.specs.History.{commits_in}
use Rattle.sidecar_keepers.specs.Runs.{AreApart, IsHeldAfter, TellAlways}
use Rattle.sidecar_keepers.specs.Stores.{paths_of, stores_of}
use Rattle.sidecar_core.specs.declared.config.Config.{Config}
use Rattle.sidecar_objects.specs.declared.objects.Objects.{Objects}
use Rattle.sidecar_objects.specs.declared.objects.Pass.{Pass}
use Rattle.sidecar_objects.specs.Kind.{Kinds}
use Rattle.sidecar_cli.specs.Play.{IsClosed, IsUp}
use Rattle.sidecar_cli.specs.World.{OutsideAt}

-- the commits of each store's history, as its seat has seen it
abbrev pub saved_by : {K : Type 0} (keeping : Ghosts K) → List (Begun (Store K keeping)) → List (Sitting (Store K keeping) Cmd Reply) → List (List Changes)
saved_by keeping [] seats = []
saved_by keeping (cell ∷ cells) [] = []
saved_by keeping (cell ∷ cells) (seat ∷ seats) = commits_in (held_by keeping cell.first) seat.seen ∷ saved_by keeping cells seats

module _ {D : Type 0} {disking : Keeps D} {keeping : Ghosts (AnyKeeper D disking)} (kinds : Kinds (Store (AnyKeeper D disking) keeping)) where
  -- Where objects were started over journals with paths of their own, and were closed by this pass over the disks that the start left, and the disks tell what a read
  -- gives: the file of each journal holds what it said before, then the commits of its store's history as that pass has seen it, and then at most one more; at
  -- other paths all is as it was
  abbrev pub JournalsHaveWhatWasSaved : Type 0
  JournalsHaveWhatWasSaved =
      (config : Config) (objects : Objects (AnyKeeper D disking) keeping) (pass last : Pass (AnyKeeper D disking) keeping) (begins : ℕ) (outside started over outside' : OutsideAt)
      → IsUp kinds config begins outside started objects pass → over.disks ≡ started.disks → IsClosed kinds config objects last over outside'
      → AreApart (paths_of (stores_of config.components)) → TellAlways disking → (held' : Disks) → outside'.disks ≡ Some held'
      → (held : Disks) × (outside.disks ≡ Some held) × IsHeldAfter (stores_of config.components) held held' (saved_by keeping objects.stores.items last.stores.items)
