-- What the program promises of each run by itself, whatever its words mean.
use Rattle.std.specs.Prelude.{◌≡◌, ◌⊎◌, ℕ, List}
use Rattle.side_world.specs.declared.disk.Disk.{Ghosts as Keeps}
use Rattle.keeper_core.specs.declared.keeper.Keeper.{Ghosts}
use Rattle.keeper_journal.specs.declared.any_keeper.AnyKeeper.{AnyKeeper}
use Rattle.state_core.specs.declared.store.Store.{Store}
use Rattle.sidecar_objects.specs.Kind.{Kinds}
use Rattle.sidecar_words.specs.declared.given.Words.{Words}
use Rattle.sidecar_words.specs.declared.given.Mode.{Mode}
use Rattle.sidecar_words.specs.declared.given.Mode.TheVariants as mode
use Rattle.sidecar_words.specs.Meaning.{Means}
use Rattle.sidecar_cli.specs.Causes.{ChecksWellWhereAllIsWell, EndsWellWhereAllIsWell, IsWhy, IsWhyOfCheck}
use Rattle.sidecar_cli.specs.DrillCauses.{IsWhyOfDrill}
use Rattle.sidecar_cli.specs.Note.{IsNoted}
use Rattle.sidecar_cli.specs.ServeCauses.{IsWhyOfServing, ServesWellWhereAllIsWell}
use Rattle.sidecar_cli.specs.Status.{text_of}
use Rattle.sidecar_cli.specs.World.{WorldAt}
use Rattle.sidecar_cli.specs.declared.status.Status.{Status}
use Rattle.sidecar_cli.specs.declared.status.Status.TheVariants.{Usage, NoMemory}

-- Words are refused only where they mean nothing. Where they mean nothing they are refused, or there was no memory to read them, and nothing is touched but the note
pub record RefusesWords (words : List (List ℕ)) (world world' : WorldAt) (end : Status) : Type 0 where
  pub only : end ≡ Usage → (given : Words) → ¬ Means words given
  pub always : ((given : Words) → ¬ Means words given) → (end ≡ Usage) ⊎ (end ≡ NoMemory)
  pub untouched : ((given : Words) → ¬ Means words given) → world' ≡ record world { note = world'.note }

-- behind all else the note got the text of the status, or a front of it and failed, and this is said of the world before that
pub record BeforeItsLine (world' : WorldAt) (end : Status) (P : WorldAt → Type 0) : Type 0 where
  pub before : WorldAt
  pub noted : IsNoted before.note world'.note (text_of end)
  pub rest : world' ≡ record before { note = world'.note }
  pub holds : P before

module _ {D : Type 0} {disking : Keeps D} {keeping : Ghosts (AnyKeeper D disking)} (kinds : Kinds (Store (AnyKeeper D disking) keeping)) where
  -- why a run by words that ask for this ends so
  abbrev pub IsWhyIn : Mode → Words → WorldAt → WorldAt → Status → Type 0
  IsWhyIn mode.Stdio given world world' end = IsWhy kinds given world world' end
  IsWhyIn mode.Check given world world' end = IsWhyOfCheck given world world' end
  IsWhyIn (mode.Drill start requests) given world world' end = IsWhyOfDrill kinds start requests given world world' end
  IsWhyIn mode.Serve given world world' end = IsWhyOfServing kinds given world world' end

  -- it ends with 0, or for want of memory, where all is well; of a drill nothing is said
  abbrev pub EndsWellIn : Mode → Words → WorldAt → WorldAt → Status → Type 0
  EndsWellIn mode.Stdio given world world' end = EndsWellWhereAllIsWell kinds given world world' end
  EndsWellIn mode.Check given world world' end = ChecksWellWhereAllIsWell given world world' end
  EndsWellIn (mode.Drill start requests) given world world' end = Unit {0}
  EndsWellIn mode.Serve given world world' end = ServesWellWhereAllIsWell kinds given world world' end

  -- whatever the words mean, the status has its cause in what was done
  abbrev pub HasItsCause : List (List ℕ) → WorldAt → WorldAt → Status → Type 0
  HasItsCause words world world' end = BeforeItsLine world' end (λ before. (given : Words) → Means words given → IsWhyIn given.mode given world before end)

  -- whatever the words mean, the run ends well where all is well
  abbrev pub EndsWellWhereItMay : List (List ℕ) → WorldAt → WorldAt → Status → Type 0
  EndsWellWhereItMay words world world' end = BeforeItsLine world' end (λ before. (given : Words) → Means words given → EndsWellIn given.mode given world before end)
