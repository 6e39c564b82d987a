-- How a run begins: what it is configured as, and how it ends where its objects are not started.
use Rattle.std.specs.Prelude.{◌≡◌, Bool, ℕ, List, Option, Result, Ok, Err, IfOk, IfErr, OnOk, is_some, refl}
use Rattle.std.proofs.Common.{◌∙◌, ap, sym, subst}
use Rattle.side_world.specs.declared.disk.Disk.{Ghosts as Keeps}
use Rattle.policy_run.specs.Effects.{Clocked, ReadsNow}
use Rattle.link_call.specs.LinkAt.{LinkAt}
use Rattle.keeper_core.specs.declared.keeper.Keeper.{Ghosts}
use Rattle.keeper_journal.specs.declared.any_keeper.AnyKeeper.{AnyKeeper}
use Rattle.state_core.specs.declared.store.Store.{Store}
use Rattle.resource_files.specs.declared.resources.Resources.{Resources}
use Rattle.resource_files.specs.declared.resources.ResourcesErr.{ResourcesErr}
use Rattle.sidecar_core.specs.declared.config.Config.{Config}
use Rattle.sidecar_core.specs.Started.{IsStarted}
use Rattle.sidecar_objects.specs.declared.objects.Objects.{Objects}
use Rattle.sidecar_objects.specs.declared.objects.Pass.{Pass}
use Rattle.sidecar_objects.specs.Kind.{Kinds}
use Rattle.sidecar_objects.specs.Pass.{cells_of, seats_of}
use Rattle.sidecar_objects.specs.Passes.{IsSoundPass}
use Rattle.topic_spec.specs.declared.sub.Sub.{Sub}
use Rattle.sidecar_words.specs.declared.given.Words.{Words}
use Rattle.sidecar_cli.specs.Configured.{IsConfigured, config_of}
use Rattle.sidecar_cli.specs.Play.{AreKept, IsConfiguredBy, IsDownBeside, IsDownOver, IsStartedNow, IsUpNow, kept, lacks}
use Rattle.sidecar_cli.specs.Subscribed.{IsSubscribed}
use Rattle.sidecar_cli.specs.World.{BesideAt, FilesAt, OutsideAt}
use Rattle.sidecar_cli.specs.declared.status.Status.{Status}
use Rattle.sidecar_cli.specs.declared.status.Status.TheVariants as ends

-- files that are read the same way
pub read_as : (folder : Option (List ℕ)) (app : List ℕ) {one other : Bool} (files files' : FilesAt) (result : Result Resources ResourcesErr) → one ≡ other → IsConfigured folder app one files files' result → IsConfigured folder app other files files' result
read_as folder app files files' result same read = subst (λ (b : Bool). IsConfigured folder app b files files' result) same read

module _ {D : Type 0} {disking : Keeps D} {keeping : Ghosts (AnyKeeper D disking)} {X : Type 0} (config : X → Config) (objects : X → Objects (AnyKeeper D disking) keeping) (pass : X → Pass (AnyKeeper D disking) keeping) where
  module _ (given : Words) (resources : Resources) (keepers : List (AnyKeeper D disking)) (beside beside' : BesideAt) (between : OutsideAt) (are_kept : AreKept disking resources.components keepers beside.outside between) where
    -- what was started over keepers that were just made
    pub up_over : (kinds : Kinds (Store (AnyKeeper D disking) keeping)) (result : Result X Status) → IfOk result (λ up. IsConfiguredBy given resources beside.link beside'.link (config up)) → IfOk result (λ up. IsStartedNow (config up) keepers beside.clock beside'.clock (objects up) (pass up)) → OnOk result (beside'.outside ≡ between)
        → IfOk result (λ up. IsSoundPass kinds (cells_of (objects up)) (seats_of (pass up))) → IfOk result (λ up. IsUpNow kinds (config up) beside beside' (objects up) (pass up))
    up_over kinds (Ok up) configured started same sound = record {
      start = started.start;
      reads = started.reads;
      up = record {
        keepers = keepers;
        kept = subst (λ cs. AreKept disking cs keepers beside.outside beside'.outside) (sym (ap (λ (c : Config). c.components) configured.same)) (subst (λ (o : OutsideAt). AreKept disking resources.components keepers beside.outside o) (sym same) are_kept);
        started = started.started;
        sound = sound;
      };
    }
    up_over kinds (Err status) configured started same sound = tt

    -- what was not started over them
    pub down_over : (result : Result X Status) → IfErr result (λ status. IsDownOver disking given resources keepers (record beside { outside = between }) beside' status) → IfErr result (λ status. IsDownBeside disking given resources beside beside' status)
    down_over (Ok up) down = tt
    down_over (Err status) down = kept keepers between are_kept down

  module _ (keepers : List (AnyKeeper D disking)) (made : Config) where
    -- what was started as this is, at the moment that the clock told, is configured so
    pub started_as : (start : ℕ) (clock clock' : Clocked) → ReadsNow clock start clock' → (result : Result X Status) → IfOk result (λ up. config up ≡ made) → IfOk result (λ up. IsStarted made keepers start made (objects up) (pass up))
        → IfOk result (λ up. IsStartedNow (config up) keepers clock clock' (objects up) (pass up))
    started_as start clock clock' reads (Ok up) same started = record { start = start; reads = reads; started = subst (λ (c : Config). IsStarted c keepers start c (objects up) (pass up)) (sym same) started }
    started_as start clock clock' reads (Err status) same started = tt

    module _ (given : Words) (resources : Resources) (link link' : LinkAt) (subs : List Sub) (subscribed : IsSubscribed given.app_port resources.subscriptions link link' (Ok subs)) (is : made ≡ config_of given resources subs) where
      pub configured_as : (result : Result X Status) → IfOk result (λ up. config up ≡ made) → IfOk result (λ up. IsConfiguredBy given resources link link' (config up))
      configured_as (Ok up) same = record { subs = subs; subscribed = subscribed; same = same ∙ is }
      configured_as (Err status) same = tt

      -- there was no memory for the objects
      pub lacking_as : (start : ℕ) (clock clock' : Clocked) → ReadsNow clock start clock' → (outside : OutsideAt) (result : Result X Status) → IfErr result (λ status. status ≡ ends.NoMemory)
          → IfErr result (λ status. IsDownOver disking given resources keepers (record { link = link; clock = clock; outside = outside }) (record { link = link'; clock = clock'; outside = outside }) status)
      lacking_as start clock clock' reads outside (Ok up) lacking = tt
      lacking_as start clock clock' reads outside (Err status) lacking = lacks made start (record { subs = subs; subscribed = subscribed; same = is }) reads refl lacking
