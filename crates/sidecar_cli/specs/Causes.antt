-- Why a run on standard input, or a check, ended with its status.
use Rattle.std.specs.Prelude.{◌≡◌, ◌≢◌, ◌⊎◌, ℕ, Bool, true, ◌<◌, ◌^◌, List, [], ◌++◌, length, Option, Some, None, Ok, codes, decimal, is_some}
use Rattle.std.specs.Option.{option_or}
use mathlib.Core.Option.{some}
use lib.ListN.{get_elem?}
use Rattle.side_world.specs.declared.disk.Disk.{Ghosts as Keeps}
use Rattle.side_base.specs.declared.message.Response.{Response}
use Rattle.side_world.specs.Faults.{Rose}
use Rattle.rand_core.specs.Stream.{Stream}
use Rattle.keeper_core.specs.declared.keeper.Keeper.{Ghosts}
use Rattle.keeper_journal.specs.declared.any_keeper.AnyKeeper.{AnyKeeper}
use Rattle.turn_cell.specs.Sitting.{Sitting}
use Rattle.state_core.specs.declared.store.Store.{Store}
use Rattle.conn_serve.specs.declared.ended.Ended.{Ended}
use Rattle.conn_serve.specs.declared.ended.Ended.TheVariants as ends
use Rattle.http_frames.specs.Requests.{IsAccepted}
use Rattle.http_frames.specs.Streams.{IsStream, Whole}
use Rattle.resource_files.specs.declared.resources.Resources.{Resources}
use Rattle.resource_files.specs.declared.resources.Refusal.{Refusal}
use Rattle.resource_files.specs.Added.{reading_for}
use Rattle.resource_files.specs.Read.{IsRefusedAt}
use Rattle.resource_files.specs.Refusals.{told_as}
use Rattle.sidecar_keepers.specs.declared.starting.KeepersErr.TheVariants.{NotAJournal}
use Rattle.sidecar_keepers.specs.Refused.{IsRefusedAtOne}
use Rattle.sidecar_core.specs.declared.config.Config.{Config}
use Rattle.sidecar_objects.specs.declared.objects.Objects.{Objects}
use Rattle.sidecar_objects.specs.declared.objects.Pass.{Pass}
use Rattle.sidecar_objects.specs.Passes.{IsLone, IsSoundPass}
use Rattle.sidecar_objects.specs.Kind.{Kind, Kinds, SeatsAt, seats_in}
use Rattle.sidecar_objects.specs.Shown.{spent_of}
use Rattle.sidecar_objects.specs.Pass.{cells_of, seats_of}
use Rattle.sidecar_turns.specs.declared.draining.Drained.{Drained}
use Rattle.sidecar_turns.specs.declared.draining.Drained.TheVariants.{Held}
use Rattle.sidecar_words.specs.declared.given.Words.{Words}
use Rattle.sidecar_cli.specs.Configured.{IsConfiguredFor}
use Rattle.sidecar_cli.specs.Counting.{IsTold}
use Rattle.sidecar_cli.specs.Play.{IsDrained, IsServed}
use Rattle.sidecar_cli.specs.Subscribed.{AsksForList, IsListRefusedBy}
use Rattle.sidecar_cli.specs.World.{FilesAt, WorldAt}
use Rattle.sidecar_cli.specs.declared.status.Status.{Status}
use Rattle.sidecar_cli.specs.declared.status.Status.TheVariants as status
use Rattle.sidecar_cli.specs.declared.status.Input.TheVariants.{Cut, Refused}
use Rattle.sidecar_cli.specs.declared.status.Device.{Device}
use Rattle.sidecar_cli.specs.declared.status.Device.TheVariants.{Source, Sink, Files, Disk, Acceptor, Outside, Link}

-- nothing was read from the source, and nothing written to the sink
pub record IsUntouched (world world' : WorldAt) : Type 0 where
  pub source : world'.source ≡ world.source
  pub sink : world'.sink ≡ world.sink

-- A fault of this device was counted, or of the link that a call expired. What isn't the source or the sink fails before anything is read or written; a disk that comes back with a
-- fault is counted by the outside. No acceptor is asked
abbrev pub HasFault : Device → WorldAt → WorldAt → Type 0
HasFault Source world world' = Rose world.source.faults world'.source.faults
HasFault Sink world world' = Rose world.sink.faults world'.sink.faults
HasFault Files world world' = Rose world.files.faults world'.files.faults × IsUntouched world world'
HasFault Disk world world' = Rose world.outside.faults world'.outside.faults × IsUntouched world world'
HasFault Acceptor world world' = ⊥
HasFault Outside world world' = Rose world.outside.faults world'.outside.faults × IsUntouched world world'
HasFault Link world world' = (Rose world.link.faults world'.link.faults ⊎ Rose world.link.expiries world'.link.expiries) × IsUntouched world world'

-- a resource file is refused, of which subscriptions are read or passed over, and this tells which one, and why
pub record IsFileRefusedBy (given : Words) (subscribing : Bool) (files files' : FilesAt) (text : List ℕ) : Type 0 where
  pub folder : List ℕ
  pub named : given.resources ≡ Some folder
  pub file : List ℕ
  pub refusal : Refusal
  pub refused : IsRefusedAt files.folders files.calls files'.calls folder (reading_for given.app subscribing) file refusal
  pub tells : text ≡ file ++ (codes ": " ++ told_as refusal)

-- the same of a run, which reads subscriptions where the app has a port, and of a check, which does so always
abbrev pub IsFileRefused : Words → FilesAt → FilesAt → List ℕ → Type 0
IsFileRefused given = IsFileRefusedBy given (is_some given.app_port)

abbrev pub IsFileRefusedOfCheck : Words → FilesAt → FilesAt → List ℕ → Type 0
IsFileRefusedOfCheck given = IsFileRefusedBy given true

-- the files are read, and a journal of a component that they name is refused; this tells which one, and where
pub record IsJournalRefused {D : Type 0} (disking : Keeps D) (given : Words) (world world' : WorldAt) (text : List ℕ) : Type 0 where
  pub resources : Resources
  pub configured : IsConfiguredFor given world.files world'.files (Ok resources)
  pub component : List ℕ
  pub at : ℕ
  pub refused : IsRefusedAtOne disking resources.components (NotAJournal component at) world.outside.disks world'.outside.disks world.outside.calls world'.outside.calls
  pub tells : text ≡ component ++ (codes ": " ++ (codes "NotAJournal at " ++ decimal at))

-- the files are read, and the list that the app answers is refused; this tells why
pub record IsListRefused (given : Words) (world world' : WorldAt) (text : List ℕ) : Type 0 where
  pub resources : Resources
  pub configured : IsConfiguredFor given world.files world'.files (Ok resources)
  pub port : ℕ
  pub beside : given.app_port ≡ Some port
  pub response : Response
  pub asked : AsksForList port (Ok response) world.link world'.link
  pub refused : IsListRefusedBy resources.subscriptions response text

-- the bytes are fewer than 100,000 whole requests, with nothing behind them
pub record AreRequests (bytes : List ℕ) : Type 0 where
  pub wholes : List Whole
  pub stream : IsStream bytes wholes []
  pub accepted : IsAccepted []
  pub few : length wholes < 100000

-- the seat at this place shows this count, and has seen a history of 2^62 entries
pub record IsFullAt {O C R : Type 0} (k count : ℕ) (seats : List (Sitting O C R)) : Type 0 where
  pub seat : Sitting O C R
  pub there : get_elem? seats k ≡ some seat
  pub shows : seat.count ≡ Some count
  pub long : length seat.seen ≡ 2 ^ 62

-- a seat of the pass does
pub record IsFull {O : Type 0} (seats : SeatsAt O) (count : ℕ) : Type 0 where
  pub kind : Kind
  pub place : ℕ
  pub full : IsFullAt place count (seats_in seats kind)

module _ {D : Type 0} {disking : Keeps D} {keeping : Ghosts (AnyKeeper D disking)} (kinds : Kinds (Store (AnyKeeper D disking) keeping)) where
  -- A session was served, over objects that had just begun, ticks were taken and what was due was delivered behind it, and the ledgers were counted behind that: the session, and the ticks and deliveries, ended so,
  -- and this is the first count that a seat of the pass shows behind them, or else what was read of the first exhausted cell of a ledger, if there is one. Nothing was read or
  -- written but by the session
  pub record HasSession (world world' : WorldAt) (ended : Ended) (how : Drained) (spent : Option ℕ) : Type 0 where
    pub config : Config
    pub objects : Objects (AnyKeeper D disking) keeping
    pub pass : Pass (AnyKeeper D disking) keeping
    pub after : Pass (AnyKeeper D disking) keeping
    pub idle : Pass (AnyKeeper D disking) keeping
    pub last : Pass (AnyKeeper D disking) keeping
    pub words : Stream
    pub more : Stream
    pub started : WorldAt
    pub over : WorldAt
    pub later : WorldAt
    pub lone : IsLone (cells_of objects) (seats_of pass)
    pub sound : IsSoundPass kinds (cells_of objects) (seats_of pass)
    pub served : IsServed kinds config objects pass after words more started over ended
    pub drained : IsDrained kinds config objects after idle more over later how
    pub counted : Option ℕ
    pub told : IsTold kinds (cells_of objects) config.components (seats_of idle) (seats_of last) later.note world'.note counted
    pub spent_is : spent ≡ option_or (spent_of (seats_of idle)) counted
    pub before : IsUntouched world started
    pub behind : IsUntouched later world'

  -- the session, each tick, each delivery and each count behind it met no exhausted cell
  abbrev pub EndsWith : WorldAt → WorldAt → Ended → Type 0
  EndsWith world world' ended = (how : Drained) × HasSession world world' ended how None

  -- the same, and neither ticks nor deliveries ended for want of memory
  abbrev pub EndsFine : WorldAt → WorldAt → Ended → Type 0
  EndsFine world world' ended = (how : Drained) × (how ≢ Held) × HasSession world world' ended how None

  -- the session ended between two requests, or with one that asked for it
  pub data EndsWell (world world' : WorldAt) : Type 0 where
    done : EndsFine world world' ends.Done → EndsWell world world'
    closed : EndsFine world world' ends.Closed → EndsWell world world'
    asked : EndsFine world world' ends.Asked → EndsWell world world'

  -- a cell was exhausted: the seats of the session's pass, at a moment of the run, are sound and alone, and one of them shows this count and has seen 2^62 entries
  pub record IsSpent (world world' : WorldAt) (count : ℕ) : Type 0 where
    pub ended : Ended
    pub how : Drained
    pub spent : Option ℕ
    pub session : HasSession world world' ended how spent
    pub seats : SeatsAt (Store (AnyKeeper D disking) keeping)
    pub lone : IsLone (cells_of session.objects) seats
    pub sound : IsSoundPass kinds (cells_of session.objects) seats
    pub full : IsFull seats count

  -- Why a run on standard input ends so. Words that mean it are never refused, and for want of memory there is no cause
  abbrev pub IsWhy : Words → WorldAt → WorldAt → Status → Type 0
  IsWhy given world world' status.Ok = EndsWell world world'
  IsWhy given world world' (status.BadInput Cut) = EndsWith world world' ends.ClosedByPeer
  IsWhy given world world' (status.BadInput (Refused why)) = EndsWith world world' (ends.Refused why)
  IsWhy given world world' status.Usage = ⊥
  IsWhy given world world' (status.BadResources text) = IsFileRefused given world.files world'.files text ⊎ (IsJournalRefused disking given world world' text ⊎ IsListRefused given world world' text)
  IsWhy given world world' (status.OutsideFailed device) = HasFault device world world'
  IsWhy given world world' status.NoMemory = Unit {0}
  IsWhy given world world' status.Limit = EndsWith world world' ends.Limit
  IsWhy given world world' (status.Spent count) = IsSpent world world' count

  -- Nothing is refused and no device fails; the bytes that were read are fewer than 100,000 whole requests, with nothing behind them; and no cell is exhausted
  pub record AllIsWell (given : Words) (world world' : WorldAt) : Type 0 where
    pub files : (text : List ℕ) → ¬ IsFileRefused given world.files world'.files text
    pub journals : (text : List ℕ) → ¬ IsJournalRefused disking given world world' text
    pub lists : (text : List ℕ) → ¬ IsListRefused given world world' text
    pub devices : (device : Device) → ¬ HasFault device world world'
    pub bytes : (ended : Ended) (how : Drained) (spent : Option ℕ) (session : HasSession world world' ended how spent) → AreRequests session.served.served.bytes
    pub fresh : (count : ℕ) → ¬ IsSpent world world' count

  -- the session ended between two requests or with one that asked for it, and the status is 0; or there was no memory
  abbrev pub EndsAsItShould : WorldAt → WorldAt → Status → Type 0
  EndsAsItShould world world' end = ((end ≡ status.Ok) × EndsWell world world') ⊎ (end ≡ status.NoMemory)

  -- it does where all is well
  abbrev pub EndsWellWhereAllIsWell : Words → WorldAt → WorldAt → Status → Type 0
  EndsWellWhereAllIsWell given world world' end = AllIsWell given world world' → EndsAsItShould world world' end

-- why a check ends so
abbrev pub IsWhyOfCheck : Words → WorldAt → WorldAt → Status → Type 0
IsWhyOfCheck given world world' status.Ok = Unit {0}
IsWhyOfCheck given world world' (status.BadResources text) = IsFileRefusedOfCheck given world.files world'.files text
IsWhyOfCheck given world world' (status.OutsideFailed Sink) = HasFault Sink world world'
IsWhyOfCheck given world world' (status.OutsideFailed Files) = HasFault Files world world'
IsWhyOfCheck given world world' status.NoMemory = Unit {0}
IsWhyOfCheck given world world' _ = ⊥

-- no resource file is refused, and neither the files nor the sink fails
pub record AllIsWellOfCheck (given : Words) (world world' : WorldAt) : Type 0 where
  pub files : (text : List ℕ) → ¬ IsFileRefusedOfCheck given world.files world'.files text
  pub read : ¬ HasFault Files world world'
  pub wrote : ¬ HasFault Sink world world'

-- where this is so the status of a check is 0, or there was no memory
abbrev pub ChecksWellWhereAllIsWell : Words → WorldAt → WorldAt → Status → Type 0
ChecksWellWhereAllIsWell given world world' end = AllIsWellOfCheck given world world' → (end ≡ status.Ok) ⊎ (end ≡ status.NoMemory)
