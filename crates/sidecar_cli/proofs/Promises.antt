-- What the program promises of each run by itself.
use Rattle.std.specs.Prelude.{◌≡◌, ◌⊎◌, ℕ, List, refl}
use Rattle.std.proofs.Common.{inl, inr, subst}
use Rattle.side_world.specs.declared.disk.Disk.{Ghosts as Keeps}
use Rattle.rand_core.specs.Stream.{Stream}
use Rattle.keeper_core.specs.declared.keeper.Keeper.{Ghosts}
use Rattle.keeper_journal.specs.declared.any_keeper.AnyKeeper.{AnyKeeper}
use Rattle.state_core.specs.declared.store.Store.{Store}
use Rattle.sidecar_objects.specs.Kind.{Kinds}
use Rattle.sidecar_words.specs.declared.given.Words.{Words}
use Rattle.sidecar_words.specs.declared.given.Mode.{Mode}
use Rattle.sidecar_words.specs.declared.given.Mode.TheVariants as mode
use Rattle.sidecar_words.specs.Meaning.{Means}
use Rattle.sidecar_cli.specs.Note.{IsNoted}
use Rattle.sidecar_cli.specs.Promises.{EndsWellIn, EndsWellWhereItMay, HasItsCause, IsWhyIn, RefusesWords}
use Rattle.sidecar_cli.specs.Run.{IsRun}
use Rattle.sidecar_cli.specs.Run as run
use Rattle.sidecar_cli.specs.Status.{text_of}
use Rattle.sidecar_cli.specs.World.{WorldAt}
use Rattle.sidecar_cli.specs.declared.status.Status.{Status}
use Rattle.sidecar_cli.specs.declared.status.Status.TheVariants.{Usage, NoMemory}
use Rattle.sidecar_cli.proofs.Causes.{OneStream, SomeStream, check_run, check_well, ends_well, stdio_run}
use Rattle.sidecar_cli.proofs.DrillCauses.{drill_run}
use Rattle.sidecar_cli.proofs.ServeCauses.{serve_run, serve_well}

module _ {D : Type 0} {disking : Keeps D} {keeping : Ghosts (AnyKeeper D disking)} (kinds : Kinds (Store (AnyKeeper D disking) keeping)) where
  -- no run of words that mean something is told that they are refused
  never_usage : (m : Mode) (given : Words) (world before : WorldAt) → IsWhyIn kinds m given world before Usage → ⊥
  never_usage mode.Stdio given world before why = why
  never_usage mode.Check given world before why = why
  never_usage (mode.Drill start requests) given world before why = why
  never_usage mode.Serve given world before why = why

  -- what is why it ends so shows that it ends well
  well_in : OneStream → SomeStream → (m : Mode) (given : Words) (world before : WorldAt) (end : Status) → IsWhyIn kinds m given world before end → EndsWellIn kinds m given world before end
  well_in single exists mode.Stdio given world before end why = λ well. ends_well kinds given world before single exists end why well
  well_in single exists mode.Check given world before end why = λ well. check_well given world before end why well
  well_in single exists (mode.Drill start requests) given world before end why = tt
  well_in single exists mode.Serve given world before end why = λ well. serve_well kinds given world before end why well

  module _ (words_of : ℕ → Stream) (words : List (List ℕ)) (world before : WorldAt) (end : Status) where
    why_in : IsRun kinds words_of words world before end → (given : Words) → Means words given → (m : Mode) → given.mode ≡ m → IsWhyIn kinds m given world before end
    why_in ran given means mode.Stdio is = stdio_run kinds given world before words_of words means end is ran
    why_in ran given means mode.Check is = check_run kinds given world before words_of words means end is ran
    why_in ran given means (mode.Drill start requests) is = drill_run kinds start requests given world before words_of words means end is ran
    why_in ran given means mode.Serve is = serve_run kinds given world before words_of words means end is ran

    refused_always : IsRun kinds words_of words world before end → ((given : Words) → ¬ Means words given) → (end ≡ Usage) ⊎ (end ≡ NoMemory)
    refused_always (run.meant given means command) nothing = absurd (nothing given means)
    refused_always (run.meaningless still same left) nothing = inl same
    refused_always (run.lacks same left) nothing = inr same

    left_alone : IsRun kinds words_of words world before end → ((given : Words) → ¬ Means words given) → before ≡ world
    left_alone (run.meant given means command) nothing = absurd (nothing given means)
    left_alone (run.meaningless still same left) nothing = left
    left_alone (run.lacks same left) nothing = left

    module _ (world' : WorldAt) (ran : IsRun kinds words_of words world before end) (noted : IsNoted before.note world'.note (text_of end)) (rest : world' ≡ record before { note = world'.note }) where
      pub refuses_words : RefusesWords words world world' end
      refuses_words = record {
        only = λ is given means. never_usage given.mode given world before (subst (λ (e : Status). IsWhyIn kinds given.mode given world before e) is (why_in ran given means given.mode refl));
        always = refused_always ran;
        untouched = λ nothing. subst (λ (w : WorldAt). world' ≡ record w { note = world'.note }) (left_alone ran nothing) rest;
      }

      pub has_its_cause : HasItsCause kinds words world world' end
      has_its_cause = record { before = before; noted = noted; rest = rest; holds = λ given means. why_in ran given means given.mode refl }

      pub ends_well_where_it_may : OneStream → SomeStream → EndsWellWhereItMay kinds words world world' end
      ends_well_where_it_may single exists = record { before = before; noted = noted; rest = rest; holds = λ given means. well_in single exists given.mode given world before end (why_in ran given means given.mode refl) }
