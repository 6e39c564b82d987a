-- Serving on a port, part after part.
use Rattle.std.specs.Prelude.{◌≡◌, ◌≤◌, ℕ, List, [], ◌∷◌, Option, None, Some, refl}
use Rattle.std.proofs.Common.{sym, subst, arith}
use Rattle.side_world.specs.declared.disk.Disk.{Ghosts as Keeps}
use Rattle.side_world.specs.declared.outside.OutsideCall.{OutsideCall}
use Rattle.rand_core.specs.Stream.{Stream}
use Rattle.keeper_core.specs.declared.keeper.Keeper.{Ghosts}
use Rattle.keeper_journal.specs.declared.any_keeper.AnyKeeper.{AnyKeeper}
use Rattle.state_core.specs.declared.store.Store.{Store}
use Rattle.conn_serve.specs.Ends.{SinkAt}
use Rattle.sidecar_core.specs.declared.config.Config.{Config}
use Rattle.sidecar_objects.specs.declared.objects.Objects.{Objects}
use Rattle.sidecar_objects.specs.declared.objects.Pass.{Pass}
use Rattle.sidecar_objects.specs.Kind.{CellsAt, Kinds}
use Rattle.sidecar_objects.specs.Passes.{IsSoundPass}
use Rattle.sidecar_serving.specs.declared.end.End.{End}
use Rattle.sidecar_serving.specs.Met.{AreMet, HubAt, nobody, one}
use Rattle.sidecar_serving.specs.Opened.{WorkerAt}
use Rattle.sidecar_serving.specs.Passes.{root_pass}
use Rattle.sidecar_serving.specs.Served.{IsServed, WereMet, unopened, went}
use Rattle.sidecar_words.specs.declared.given.Words.{Words}
use Rattle.sidecar_words.specs.Meaning.{Means}
use Rattle.sidecar_words.specs.Value.{IsNumberOr}
use Rattle.sidecar_cli.specs.Serve.{IsBegunServing, IsServing}
use Rattle.sidecar_cli.specs.World.{OutsideAt, WorldAt}
use Rattle.sidecar_cli.specs.declared.status.Status.{Status}

module _ {O : Type 0} (kinds : Kinds O) (cells : CellsAt O) where
  -- where nobody was met, all is as it was
  pub met_nobody : (workers : List (WorkerAt O)) (hub after : HubAt O) → workers ≡ [] → AreMet kinds cells workers hub after → after ≡ hub
  met_nobody _ _ _ none (nobody hub) = refl
  met_nobody _ _ _ none (one w workers at between after behind met) = absurd (cc)

  -- the seats are sound in the end
  sound_met : (config : Config) (words : List Stream) (workers : List (WorkerAt O)) (at after : HubAt O) → IsSoundPass kinds cells (root_pass 0 cells) → WereMet config kinds cells words workers at after → IsSoundPass kinds cells after.seats
  sound_met config words [] at after sound met = subst (λ hub. IsSoundPass kinds cells hub.seats) (sym (met_nobody [] (record at { seats = root_pass 0 cells }) after refl met.met)) sound
  sound_met config words (w ∷ workers) at after sound met = met.sound (omega arith)

  pub served_sound : (config : Config) (port : ℕ) (words : List Stream) (calls calls' : Option (List OutsideCall)) (at after : HubAt O) (end : End) → at.seats ≡ root_pass 0 cells → IsSoundPass kinds cells at.seats → IsServed config kinds cells port words calls calls' at after end → IsSoundPass kinds cells after.seats
  served_sound config port words calls calls' at after end root sound (went workers wide met ended stopped told ends) = sound_met config words workers at after (subst (λ s. IsSoundPass kinds cells s) root sound) met
  served_sound config port words calls calls' at after end root sound (unopened workers asked between few low met waits told failed ends) = sound_met config words workers between after (subst (λ s. IsSoundPass kinds cells s) root sound) met

module _ {D : Type 0} {disking : Keeps D} {keeping : Ghosts (AnyKeeper D disking)} {kinds : Kinds (Store (AnyKeeper D disking) keeping)} where
  -- a run with the same random words
  pub begun_serving_by : {given : Words} {words words' : List Stream} {world world' : WorldAt} {status : Status} → words ≡ words' → IsBegunServing kinds given words world world' status → IsBegunServing kinds given words' world world' status
  begun_serving_by {given} {world = world} {world' = world'} {status = status} same begun = subst (λ w. IsBegunServing kinds given w world world' status) same begun

-- the outside is as it was
pub as_before : (world : WorldAt) (after : OutsideAt) → after.disks ≡ world.outside.disks → after.calls ≡ world.outside.calls → after.backs ≡ world.outside.backs → after.numbers ≡ world.outside.numbers → after.faults ≡ world.outside.faults → record world { outside = after } ≡ world
as_before world after disks calls backs numbers faults = λ i. record world { outside = record { disks = disks i; calls = calls i; backs = backs i; numbers = numbers i; faults = faults i } }

-- there are at most 64 workers
pub few_workers : (words : List (List ℕ)) (given : Words) → Means words given → given.workers ≤ 64
few_workers words given means = within _ given.workers means.3.workers_are
  where
    within : (value : Option (List ℕ)) (n : ℕ) → IsNumberOr 64 4 value n → n ≤ 64
    within None n is = omega (arith, is)
    within (Some text) n is = is.limit
