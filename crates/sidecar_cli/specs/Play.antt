-- A run on standard input: the random numbers, the resources, the keepers, the list of the app, the start, one session, and the ticks and deliveries behind it.
use Rattle.std.specs.Prelude.{◌≡◌, ℕ, List, [], ◌∷◌, ◌++◌, ◌⊎◌, Option, map, Ok, Err, codes, decimal}
use Rattle.std.specs.Option.{option_or}
use Rattle.side_world.specs.declared.disk.Disk.{Ghosts as Keeps}
use Rattle.side_world.specs.Faults.{RoseWith}
use Rattle.side_world.specs.Told.{Tells}
use Rattle.policy_run.specs.Effects.{Clocked, ReadsNow}
use Rattle.link_call.specs.LinkAt.{LinkAt}
use Rattle.rand_core.specs.Stream.{Stream}
use Rattle.keeper_core.specs.declared.keeper.Keeper.{Ghosts}
use Rattle.keeper_journal.specs.declared.any_keeper.AnyKeeper.{AnyKeeper}
use Rattle.turn_pass.specs.Pass.{AreClosed}
use Rattle.state_core.specs.declared.store.Store.{Store}
use Rattle.state_core.specs.Store.{keeper_of}
use Rattle.conn_serve.specs.declared.ended.Ended.{Ended}
use Rattle.conn_serve.specs.Ends.{SinkAt}
use Rattle.conn_serve.specs.Served.{Served}
use Rattle.resource_spec.specs.Component.{Loaded}
use Rattle.resource_files.specs.declared.resources.Resources.{Resources}
use Rattle.resource_files.specs.declared.resources.ResourcesErr.{ResourcesErr}
use Rattle.sidecar_keepers.specs.declared.starting.KeepersErr.{KeepersErr}
use Rattle.sidecar_keepers.specs.declared.starting.KeepersErr.TheVariants as lack
use Rattle.sidecar_keepers.specs.Stores.{stores_of, takes_of}
use Rattle.sidecar_keepers.specs.Made.{AreMade}
use Rattle.sidecar_keepers.specs.Given.{AreBack, faults_on_disks}
use Rattle.sidecar_keepers.specs.Refused.{Counts, IsRefused}
use Rattle.sidecar_core.specs.declared.config.Config.{Config}
use Rattle.sidecar_objects.specs.declared.objects.Objects.{Objects}
use Rattle.sidecar_objects.specs.declared.objects.Pass.{Pass}
use Rattle.sidecar_core.specs.declared.shared.Shared.{Shared}
use Rattle.sidecar_objects.specs.Passes.{IsSoundPass}
use Rattle.sidecar_objects.specs.Kind.{Kinds}
use Rattle.sidecar_objects.specs.Kind as kind
use Rattle.sidecar_objects.specs.Did.{Did, Does, Standing}
use Rattle.sidecar_objects.specs.declared.doing.Doing.{Doing}
use Rattle.sidecar_objects.specs.declared.doing.Doing.TheVariants.{Timed}
use Rattle.sidecar_objects.specs.Shown.{spent_of}
use Rattle.sidecar_core.specs.Delivery.{DrainsIn, TakesTicksIn}
use Rattle.sidecar_core.specs.Exchange.{Exchange}
use Rattle.sidecar_objects.specs.Pass.{cells_of, seats_of}
use Rattle.sidecar_core.specs.Shown.{ShownFor}
use Rattle.sidecar_core.specs.Started.{IsStarted}
use Rattle.sidecar_turns.specs.declared.draining.Drained.{Drained}
use Rattle.topic_spec.specs.declared.sub.Sub.{Sub}
use Rattle.sidecar_words.specs.declared.given.Words.{Words}
use Rattle.sidecar_cli.specs.Configured.{IsConfiguredFor, Says, config_of}
use Rattle.sidecar_cli.specs.Counting.{IsTold}
use Rattle.sidecar_cli.specs.Status.{held_over, status_after, together}
use Rattle.sidecar_cli.specs.Subscribed.{IsSubscribed}
use Rattle.sidecar_cli.specs.World.{BesideAt, OutsideAt, WorldAt, beside_of}
use Rattle.sidecar_cli.specs.declared.status.Status.{Status}
use Rattle.sidecar_cli.specs.declared.status.Status.TheVariants as ends
use Rattle.sidecar_cli.specs.declared.status.Device.TheVariants.{Disk, Outside}

-- how a run ends that has no keepers: the component and the place in its journal are told, where there is memory for it
abbrev pub SaysOfKeepers : KeepersErr → Status → Type 0
SaysOfKeepers (lack.NotAJournal component at) status = (status ≡ ends.BadResources (component ++ (codes ": " ++ (codes "NotAJournal at " ++ decimal at)))) ⊎ (status ≡ ends.NoMemory)
SaysOfKeepers lack.OutsideFailed status = status ≡ ends.OutsideFailed Outside
SaysOfKeepers lack.DiskFailed status = status ≡ ends.OutsideFailed Disk
SaysOfKeepers lack.NoMemory status = status ≡ ends.NoMemory

-- a keeper was made for each store of these components, each disk taken once
pub record AreKept {D : Type 0} (disking : Keeps D) (components : List Loaded) (keepers : List (AnyKeeper D disking)) (outside outside' : OutsideAt) : Type 0 where
  pub made : AreMade disking (stores_of components) keepers outside.disks outside'.disks
  pub takes : Tells outside.calls outside'.calls (takes_of components)
  pub no_fault : outside'.faults ≡ outside.faults
  pub numbers : outside'.numbers ≡ outside.numbers

-- a keeper was refused, and this ends the run
pub record AreUnkept {D : Type 0} (disking : Keeps D) (components : List Loaded) (outside outside' : OutsideAt) (status : Status) : Type 0 where
  pub error : KeepersErr
  pub refused : IsRefused disking components error outside.disks outside'.disks outside.calls outside'.calls
  pub counts : Counts error outside.faults outside'.faults
  pub numbers : outside'.numbers ≡ outside.numbers
  pub says : SaysOfKeepers error status

-- the disks of the keepers of these components' stores went back
pub record WentBack {D : Type 0} (disking : Keeps D) (components : List Loaded) (keepers : List (AnyKeeper D disking)) (outside outside' : OutsideAt) : Type 0 where
  pub back : AreBack disking (stores_of components) keepers outside.disks outside'.disks
  pub faults : RoseWith (faults_on_disks disking keepers) outside.faults outside'.faults
  pub calls : outside'.calls ≡ outside.calls
  pub numbers : outside'.numbers ≡ outside.numbers

-- the objects were started over a keeper for each store, with ticks from this moment on; what holds of every seat holds of those of the pass
pub record IsUp {D : Type 0} {disking : Keeps D} {keeping : Ghosts (AnyKeeper D disking)} (kinds : Kinds (Store (AnyKeeper D disking) keeping)) (config : Config) (start : ℕ) (outside outside' : OutsideAt) (objects : Objects (AnyKeeper D disking) keeping) (pass : Pass (AnyKeeper D disking) keeping) : Type 0 where
  pub keepers : List (AnyKeeper D disking)
  pub kept : AreKept disking config.components keepers outside outside'
  pub started : IsStarted config keepers start config objects pass
  pub sound : IsSoundPass kinds (cells_of objects) (seats_of pass)

-- the clock was read, and the objects were started over these keepers at the moment that it told
pub record IsStartedNow {K : Type 0} {keeping : Ghosts K} (config : Config) (keepers : List K) (clock clock' : Clocked) (objects : Objects K keeping) (pass : Pass K keeping) : Type 0 where
  pub start : ℕ
  pub reads : ReadsNow clock start clock'
  pub started : IsStarted config keepers start config objects pass

-- the same of objects that were started over a keeper for each store
pub record IsUpNow {D : Type 0} {disking : Keeps D} {keeping : Ghosts (AnyKeeper D disking)} (kinds : Kinds (Store (AnyKeeper D disking) keeping)) (config : Config) (beside beside' : BesideAt) (objects : Objects (AnyKeeper D disking) keeping) (pass : Pass (AnyKeeper D disking) keeping) : Type 0 where
  pub start : ℕ
  pub reads : ReadsNow beside.clock start beside'.clock
  pub up : IsUp kinds config start beside.outside beside'.outside objects pass

-- a keeper was refused; or there was a keeper for each store, and no memory for the objects
pub data IsDown {D : Type 0} (disking : Keeps D) (components : List Loaded) (outside outside' : OutsideAt) (status : Status) : Type 0 where
  refused : AreUnkept disking components outside outside' status → IsDown disking components outside outside' status
  lacks : (keepers : List (AnyKeeper D disking)) → AreKept disking components keepers outside outside' → status ≡ ends.NoMemory → IsDown disking components outside outside' status

-- the subscriptions were had, and a run by these words over these resources is configured so
pub record IsConfiguredBy (given : Words) (resources : Resources) (link link' : LinkAt) (config : Config) : Type 0 where
  pub subs : List Sub
  pub subscribed : IsSubscribed given.app_port resources.subscriptions link link' (Ok subs)
  pub same : config ≡ config_of given resources subs

-- How a run ends that has a keeper for each store, and whose objects were not started: the subscriptions were not had, and the disks went back; or the clock was read behind them, and there was no
-- memory for the objects
pub data IsDownOver {D : Type 0} (disking : Keeps D) (given : Words) (resources : Resources) (keepers : List (AnyKeeper D disking)) (beside beside' : BesideAt) (status : Status) : Type 0 where
  unlisted : IsSubscribed given.app_port resources.subscriptions beside.link beside'.link (Err status) → beside'.clock ≡ beside.clock → WentBack disking resources.components keepers beside.outside beside'.outside
      → IsDownOver disking given resources keepers beside beside' status
  lacks : (config : Config) (start : ℕ) → IsConfiguredBy given resources beside.link beside'.link config → ReadsNow beside.clock start beside'.clock → beside'.outside ≡ beside.outside → status ≡ ends.NoMemory
      → IsDownOver disking given resources keepers beside beside' status

-- the same of a run that begins: or a keeper was refused, and neither the app nor the clock was asked
pub data IsDownBeside {D : Type 0} (disking : Keeps D) (given : Words) (resources : Resources) (beside beside' : BesideAt) (status : Status) : Type 0 where
  unkept : AreUnkept disking resources.components beside.outside beside'.outside status → beside'.link ≡ beside.link → beside'.clock ≡ beside.clock → IsDownBeside disking given resources beside beside' status
  kept : (keepers : List (AnyKeeper D disking)) (between : OutsideAt) → AreKept disking resources.components keepers beside.outside between → IsDownOver disking given resources keepers (record beside { outside = between }) beside' status
      → IsDownBeside disking given resources beside beside' status

-- What was done behind a session: a moment was read, and then the ticks that were due were taken; and behind them, whatever they came to, what was due from that moment on was delivered
pub record DrainsFromNow (config : Config) (events : List Doing) (how : Drained) : Type 0 where
  pub began : ℕ
  pub ticks : List Doing
  pub ticked : Drained
  pub turns : List Doing
  pub delivered : Drained
  pub whole : events ≡ Timed began ∷ (ticks ++ turns)
  pub takes : TakesTicksIn config ticks ticked
  pub drains : DrainsIn config began turns delivered
  pub how_is : how ≡ together ticked delivered

module _ {D : Type 0} {disking : Keeps D} {keeping : Ghosts (AnyKeeper D disking)} (kinds : Kinds (Store (AnyKeeper D disking) keeping)) where
  -- what a pass and all that it works with show
  abbrev pub standing_at : Pass (AnyKeeper D disking) keeping → WorldAt → Stream → Standing (Store (AnyKeeper D disking) keeping)
  standing_at pass world words = record { seats = seats_of pass; clock = world.clock; link = world.link; words = words }

  -- one session over these objects was served by this pass, with random words from here on, of which these are left; files, the outside and the note were not asked
  pub record IsServed (config : Config) (objects : Objects (AnyKeeper D disking) keeping) (pass after : Pass (AnyKeeper D disking) keeping) (words rest : Stream) (world world' : WorldAt) (ended : Ended) : Type 0 where
    pub served : Served (Exchange config) (λ events. Did kinds (cells_of objects) (standing_at pass world words) events (standing_at after world' rest)) (ShownFor config (seats_of after)) world.source world'.source world.sink world'.sink ended
    pub files : world'.files ≡ world.files
    pub outside : world'.outside ≡ world.outside
    pub note : world'.note ≡ world.note

  -- one session over what all passes share was
  abbrev pub IsServedBy : Shared (AnyKeeper D disking) keeping → Pass (AnyKeeper D disking) keeping → Pass (AnyKeeper D disking) keeping → Stream → Stream → WorldAt → WorldAt → Ended → Type 0
  IsServedBy shared = IsServed shared.config shared.objects

  -- the ticks that were due behind a session were taken, and what was due was delivered, by this pass, with the random words from here on; nothing was read or written by the source, the sink and the note, and
  -- neither files nor the outside were asked
  pub record IsDrained (config : Config) (objects : Objects (AnyKeeper D disking) keeping) (pass after : Pass (AnyKeeper D disking) keeping) (words : Stream) (world world' : WorldAt) (how : Drained) : Type 0 where
    pub rest : Stream
    pub does : Does kinds (cells_of objects) (standing_at pass world words) (standing_at after world' rest) (λ events. DrainsFromNow config events how)
    pub only : world' ≡ record world { link = world'.link; clock = world'.clock }

  -- the cells were closed by this pass, and the disks of the stores' keepers went back
  pub record IsClosed (config : Config) (objects : Objects (AnyKeeper D disking) keeping) (pass : Pass (AnyKeeper D disking) keeping) (outside outside' : OutsideAt) : Type 0 where
    pub stores : List (Store (AnyKeeper D disking) keeping)
    pub closed : AreClosed (kinds kind.stores).stands objects.stores.items pass.stores.items stores
    pub back : AreBack disking (stores_of config.components) (map keeper_of stores) outside.disks outside'.disks
    pub faults : RoseWith (faults_on_disks disking (map keeper_of stores)) outside.faults outside'.faults
    pub calls : outside'.calls ≡ outside.calls
    pub numbers : outside'.numbers ≡ outside.numbers

  -- By this pass, which is alone, the ledgers were counted and told; then the cells were closed, and the disks went back. The histories are legal, and have what the seats did.
  -- What is spent is the first count that a seat of the pass shows, or else what was read of the first exhausted cell of a ledger
  pub record IsFinished (config : Config) (objects : Objects (AnyKeeper D disking) keeping) (pass : Pass (AnyKeeper D disking) keeping) (note note' : SinkAt) (outside outside' : OutsideAt) (spent : Option ℕ) : Type 0 where
    pub last : Pass (AnyKeeper D disking) keeping
    pub counted : Option ℕ
    pub told : IsTold kinds (cells_of objects) config.components (seats_of pass) (seats_of last) note note' counted
    pub spent_is : spent ≡ option_or (spent_of (seats_of pass)) counted
    pub sound : IsSoundPass kinds (cells_of objects) (seats_of last)
    pub closed : IsClosed config objects last outside outside'

  -- One session over objects that were just started, by their pass; then ticks were taken, and what was due was delivered; and then all was counted, told and closed
  pub record IsSession (config : Config) (objects : Objects (AnyKeeper D disking) keeping) (pass : Pass (AnyKeeper D disking) keeping) (words : Stream) (world world' : WorldAt) (status : Status) : Type 0 where
    pub after : Pass (AnyKeeper D disking) keeping
    pub between : WorldAt
    pub ended : Ended
    pub more : Stream
    pub served : IsServed config objects pass after words more world between ended
    pub idle : Pass (AnyKeeper D disking) keeping
    pub later : WorldAt
    pub how : Drained
    pub drained : IsDrained config objects after idle more between later how
    pub spent : Option ℕ
    pub finished : IsFinished config objects idle later.note world'.note later.outside world'.outside spent
    pub rest : world' ≡ record later { note = world'.note; outside = world'.outside }
    pub ends : status ≡ held_over how (status_after ended spent)

  -- all objects were started, and then the session was played; or they were not, and nothing was read
  pub data IsKept (given : Words) (resources : Resources) (words : Stream) (world world' : WorldAt) (status : Status) : Type 0 where
    down : IsDownBeside disking given resources (beside_of world) (beside_of world') status → world' ≡ record world { outside = world'.outside; link = world'.link; clock = world'.clock } → IsKept given resources words world world' status
    up : (config : Config) (objects : Objects (AnyKeeper D disking) keeping) (pass : Pass (AnyKeeper D disking) keeping) (between : WorldAt) → IsConfiguredBy given resources world.link between.link config → IsUpNow kinds config (beside_of world) (beside_of between) objects pass
        → between ≡ record world { outside = between.outside; link = between.link; clock = between.clock } → IsSession config objects pass words between world' status → IsKept given resources words world world' status

  -- the resources were read, and then all objects were started; or they were refused, and nothing else was done
  pub data IsBegun (given : Words) (words : Stream) (world world' : WorldAt) (status : Status) : Type 0 where
    refused : (e : ResourcesErr) → IsConfiguredFor given world.files world'.files (Err e) → Says e status → world' ≡ record world { files = world'.files } → IsBegun given words world world' status
    read : (resources : Resources) (between : WorldAt) → IsConfiguredFor given world.files between.files (Ok resources) → between ≡ record world { files = between.files }
        → IsKept given resources words between world' status → IsBegun given words world world' status

  -- three numbers were asked for: that of the random words, and two for the secret bytes
  pub record IsPlay (words_of : ℕ → Stream) (given : Words) (world world' : WorldAt) (status : Status) : Type 0 where
    pub seed : ℕ
    pub one : ℕ
    pub other : ℕ
    pub between : WorldAt
    pub asked : Tells world.outside.numbers between.outside.numbers (seed ∷ one ∷ other ∷ [])
    pub only : between ≡ record world { outside = record world.outside { numbers = between.outside.numbers } }
    pub begun : IsBegun given (words_of seed) between world' status
