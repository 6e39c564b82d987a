-- A run: what the words mean, and what is done for it.
use Rattle.std.specs.Prelude.{◌≡◌, ℕ, List}
use Rattle.side_world.specs.declared.disk.Disk.{Ghosts as Keeps}
use Rattle.rand_core.specs.Stream.{Stream}
use Rattle.keeper_core.specs.declared.keeper.Keeper.{Ghosts}
use Rattle.keeper_journal.specs.declared.any_keeper.AnyKeeper.{AnyKeeper}
use Rattle.state_core.specs.declared.store.Store.{Store}
use Rattle.sidecar_objects.specs.Kind.{Kinds}
use Rattle.sidecar_words.specs.declared.given.Words.{Words}
use Rattle.sidecar_words.specs.declared.given.Mode.{Mode}
use Rattle.sidecar_words.specs.declared.given.Mode.TheVariants as mode
use Rattle.sidecar_words.specs.Meaning.{Means}
use Rattle.sidecar_cli.specs.Check.{IsCheck}
use Rattle.sidecar_cli.specs.Drill.{IsDrill}
use Rattle.sidecar_cli.specs.Note.{IsNoted}
use Rattle.sidecar_cli.specs.Play.{IsPlay}
use Rattle.sidecar_cli.specs.Serve.{IsServe}
use Rattle.sidecar_cli.specs.Status.{text_of}
use Rattle.sidecar_cli.specs.World.{WorldAt}
use Rattle.sidecar_cli.specs.declared.status.Status.{Status}
use Rattle.sidecar_cli.specs.declared.status.Status.TheVariants.{Usage, NoMemory}

-- what words that mean this come to
pub data IsCommand {D : Type 0} {disking : Keeps D} {keeping : Ghosts (AnyKeeper D disking)} (kinds : Kinds (Store (AnyKeeper D disking) keeping)) (words_of : ℕ → Stream) (given : Words) (world world' : WorldAt) (status : Status) : Type 0 where
  played : given.mode ≡ mode.Stdio → IsPlay kinds words_of given world world' status → IsCommand kinds words_of given world world' status
  checked : given.mode ≡ mode.Check → IsCheck given world world' status → IsCommand kinds words_of given world world' status
  drilled : (start requests : ℕ) → given.mode ≡ mode.Drill start requests → IsDrill kinds words_of given.app start requests world world' status → IsCommand kinds words_of given world world' status
  served : given.mode ≡ mode.Serve → IsServe kinds words_of given world world' status → IsCommand kinds words_of given world world' status

-- words that mean nothing are refused, and nothing is touched; nor is anything where there is no memory to read them
pub data IsRun {D : Type 0} {disking : Keeps D} {keeping : Ghosts (AnyKeeper D disking)} (kinds : Kinds (Store (AnyKeeper D disking) keeping)) (words_of : ℕ → Stream) (words : List (List ℕ)) (world world' : WorldAt) (status : Status) : Type 0 where
  meant : (given : Words) → Means words given → IsCommand kinds words_of given world world' status → IsRun kinds words_of words world world' status
  meaningless : ((given : Words) → ¬ Means words given) → status ≡ Usage → world' ≡ world → IsRun kinds words_of words world world' status
  lacks : status ≡ NoMemory → world' ≡ world → IsRun kinds words_of words world world' status

-- a run, and then the note got the text of its status, unless it failed
pub record IsMain {D : Type 0} {disking : Keeps D} {keeping : Ghosts (AnyKeeper D disking)} (kinds : Kinds (Store (AnyKeeper D disking) keeping)) (words_of : ℕ → Stream) (words : List (List ℕ)) (world world' : WorldAt) (status : Status) : Type 0 where
  pub between : WorldAt
  pub run : IsRun kinds words_of words world between status
  pub noted : IsNoted between.note world'.note (text_of status)
  pub rest : world' ≡ record between { note = world'.note }

module _ {D : Type 0} {disking : Keeps D} {keeping : Ghosts (AnyKeeper D disking)} (kinds : Kinds (Store (AnyKeeper D disking) keeping)) where
  -- of each run by words that ask for this: what is said of what the words mean, of the world before the run, of the world before the note got the text of the status, and
  -- of the status
  abbrev pub OfEachRun : Mode → (Words → WorldAt → WorldAt → Status → Type 0) → Type 0
  OfEachRun asked P =
      (words_of : ℕ → Stream) (words : List (List ℕ)) (given : Words) (world world' : WorldAt) (status : Status) → Means words given → given.mode ≡ asked
      → (main : IsMain kinds words_of words world world' status) → P given world main.between status
