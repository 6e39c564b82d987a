-- A drill: generated requests are answered over a store in memory, by devices of its own, and the sink gets how many responses had which status.
use Rattle.std.specs.Prelude.{◌≡◌, ℕ, List, [], ◌∷◌, ◌++◌, All, false, map, Option, Some, None, Result, Ok, Err, codes, decimal}
use Rattle.std.specs.List.{flat_map}
use Rattle.side_world.specs.declared.disk.Disk.{Ghosts as Keeps}
use Rattle.side_world.specs.Faults.{Rose}
use Rattle.side_world.specs.Told.{Told, Tells, SentSome}
use Rattle.rand_core.specs.Stream.{Stream}
use Rattle.keeper_core.specs.declared.keeper.Keeper.{Ghosts}
use Rattle.keeper_journal.specs.declared.any_keeper.AnyKeeper.{AnyKeeper}
use Rattle.state_core.specs.declared.store.Store.{Store}
use Rattle.http_frames.specs.Printed.{AreWhole}
use Rattle.conn_serve.specs.declared.ended.Ended.{Ended}
use Rattle.conn_serve.specs.Ends.{SinkAt, SourceAt}
use Rattle.conn_serve.specs.Served.{Served}
use Rattle.policy_run.specs.Effects.{Clocked}
use Rattle.link_call.specs.LinkAt.{LinkAt}
use Rattle.drill.specs.Answers.{Answer, MayBeCounted, status_of, tally_of, texts_of}
use Rattle.drill.specs.Devices.{Written}
use Rattle.drill.specs.Requests.{request_of, request_text}
use Rattle.drill.specs.Requests.{words_of as first_words}
use Rattle.drill.specs.declared.tallying.Tally.{Tally}
use Rattle.resource_files.specs.Usual.{usual}
use Rattle.sidecar_core.specs.declared.config.Config.{Config}
use Rattle.sidecar_core.specs.Exchange.{Exchange}
use Rattle.sidecar_core.specs.Shown.{ShownFor}
use Rattle.sidecar_objects.specs.declared.objects.Objects.{Objects}
use Rattle.sidecar_objects.specs.declared.objects.Pass.{Pass}
use Rattle.sidecar_objects.specs.Kind.{Kinds}
use Rattle.sidecar_objects.specs.Did.{Did}
use Rattle.sidecar_objects.specs.Pass.{cells_of, seats_of}
use Rattle.sidecar_objects.specs.Shown.{spent_of}
use Rattle.sidecar_cli.specs.Play.{IsClosed, IsDown, IsUp}
use Rattle.sidecar_cli.specs.Status.{status_after}
use Rattle.sidecar_cli.specs.World.{OutsideAt, WorldAt}
use Rattle.sidecar_cli.specs.declared.status.Status.{Status}
use Rattle.sidecar_cli.specs.declared.status.Status.TheVariants as ends
use Rattle.sidecar_cli.specs.declared.status.Device.TheVariants.{Source, Sink, Files, Disk, Acceptor, Outside, Link}

-- ---- what it begins with

-- a store and a broker in memory, without a port of the app
abbrev pub drill_config : List ℕ → Config
drill_config app = record { app = app; app_port = None; peers = []; components = usual.components; subs = []; policies = usual.policies }

-- the words from which the requests are generated: so many of the first that come from this number
abbrev pub drill_words : (ℕ → Stream) → ℕ → ℕ → List ℕ
drill_words words_of start count = first_words count (words_of start)

-- the configuration is that, and the bytes are the requests of these words, each of them whole
pub record IsPrepared (words_of : ℕ → Stream) (app : List ℕ) (start count : ℕ) (config : Config) (bytes : List ℕ) : Type 0 where
  pub config_is : config ≡ drill_config app
  pub bytes_are : bytes ≡ flat_map request_text (drill_words words_of start count)
  pub whole : AreWhole bytes (map request_of (drill_words words_of start count))

-- ---- its devices

-- a source of these bytes, of which none was read
abbrev pub drill_source : List ℕ → SourceAt
drill_source bytes = record { left = Some bytes; taken = Some []; earlier = Some []; ended = false; faults = 0 }

-- a clock that stands at the first moment, and a link that was never called
abbrev pub drill_clock : Clocked
drill_clock = record { last = 0; paused = 0; ticks = None }

abbrev pub drill_link : LinkAt
drill_link = record { calls = None; faults = 0; expiries = 0 }

-- ---- the line

-- so many requests, and so many responses of each status
unfoldable pub drill_line : ℕ → Tally → List ℕ
drill_line count tally =
    (((((codes "requests " ++ decimal count) ++ (codes " 200 " ++ decimal tally.ok)) ++ (codes " 204 " ++ decimal tally.no_content)) ++ (codes " 409 " ++ decimal tally.conflict))
    ++ (codes " other " ++ decimal tally.other)) ++ codes "\n"

-- a line was sent, or the sink failed and a front of it was sent, or there was no memory for it
pub data IsSaid (line : List ℕ) (sink sink' : SinkAt) (status : Status) : Type 0 where
  sent : status ≡ ends.Ok → Told sink.contents sink'.contents line → sink'.faults ≡ sink.faults → IsSaid line sink sink' status
  failed : status ≡ ends.OutsideFailed Sink → SentSome sink.contents sink'.contents line → Rose sink.faults sink'.faults → IsSaid line sink sink' status
  lacks : status ≡ ends.NoMemory → sink' ≡ sink → IsSaid line sink sink' status

-- the line of the responses that these bytes are was said
pub record IsToldOf (count : ℕ) (out : List ℕ) (sink sink' : SinkAt) (status : Status) : Type 0 where
  pub tally : Tally
  pub counts : (answers : List Answer) → All MayBeCounted answers → out ≡ texts_of answers → tally ≡ tally_of (map status_of answers)
  pub said : IsSaid (drill_line count tally) sink sink' status

-- how the end of its session ends a drill; none where its responses are counted. Its sink fails only for want of memory
abbrev pub stop_of : Status → Option Status
stop_of ends.Ok = None
stop_of (ends.BadInput input) = Some (ends.BadInput input)
stop_of ends.Usage = Some ends.Usage
stop_of (ends.BadResources text) = Some (ends.BadResources text)
stop_of (ends.OutsideFailed Source) = Some (ends.OutsideFailed Source)
stop_of (ends.OutsideFailed Sink) = Some ends.NoMemory
stop_of (ends.OutsideFailed Files) = Some (ends.OutsideFailed Files)
stop_of (ends.OutsideFailed Disk) = Some (ends.OutsideFailed Disk)
stop_of (ends.OutsideFailed Acceptor) = Some (ends.OutsideFailed Acceptor)
stop_of (ends.OutsideFailed Outside) = Some (ends.OutsideFailed Outside)
stop_of (ends.OutsideFailed Link) = Some (ends.OutsideFailed Link)
stop_of ends.NoMemory = Some ends.NoMemory
stop_of ends.Limit = Some ends.Limit
stop_of (ends.Spent count) = Some (ends.Spent count)

-- what was written, or the status
abbrev pub EndsBy : Option Status → List ℕ → Result Written Status → Type 0
EndsBy None out (Ok kept) = kept.contents ≡ out
EndsBy None out (Err status) = ⊥
EndsBy (Some end) out (Ok kept) = ⊥
EndsBy (Some end) out (Err status) = status ≡ end

-- ---- the run

module _ {D : Type 0} {disking : Keeps D} {keeping : Ghosts (AnyKeeper D disking)} (kinds : Kinds (Store (AnyKeeper D disking) keeping)) where
  -- one session over these objects was served by this pass, of these bytes, by the drill's own devices
  pub record IsServedByDrill (config : Config) (objects : Objects (AnyKeeper D disking) keeping) (pass after : Pass (AnyKeeper D disking) keeping) (bytes : List ℕ) (words : Stream) (sink sink' : SinkAt) (ended : Ended) : Type 0 where
    pub source' : SourceAt
    pub clock' : Clocked
    pub link' : LinkAt
    pub rest : Stream
    pub no_fault : source'.faults ≡ 0
    pub served : Served (Exchange config)
        (λ events. Did kinds (cells_of objects) (record { seats = seats_of pass; clock = drill_clock; link = drill_link; words = words }) events (record { seats = seats_of after; clock = clock'; link = link'; words = rest }))
        (ShownFor config (seats_of after)) (drill_source bytes) source' sink sink' ended

  -- the session was served, and all cells were closed: what was written comes of it, or how it ends the run
  pub record IsDrillSession (config : Config) (objects : Objects (AnyKeeper D disking) keeping) (pass : Pass (AnyKeeper D disking) keeping) (bytes : List ℕ) (words : Stream) (outside outside' : OutsideAt) (result : Result Written Status) : Type 0 where
    pub after : Pass (AnyKeeper D disking) keeping
    pub out : List ℕ
    pub faults : ℕ
    pub ended : Ended
    pub served : IsServedByDrill config objects pass after bytes words (record { contents = Some []; faults = 0 }) (record { contents = Some out; faults = faults }) ended
    pub closed : IsClosed kinds config objects after outside outside'
    pub ends : EndsBy (stop_of (status_after ended (spent_of (seats_of after)))) out result

  -- all objects were started, at the moment at which its clock stands, and then the session was served; or they were not
  pub data IsDrilled (config : Config) (bytes : List ℕ) (words : Stream) (outside outside' : OutsideAt) (result : Result Written Status) : Type 0 where
    down : (status : Status) → IsDown disking config.components outside outside' status → result ≡ Err status → IsDrilled config bytes words outside outside' result
    up : (objects : Objects (AnyKeeper D disking) keeping) (pass : Pass (AnyKeeper D disking) keeping) (between : OutsideAt) → IsUp kinds config drill_clock.last outside between objects pass
        → IsDrillSession config objects pass bytes words between outside' result → IsDrilled config bytes words outside outside' result

  -- and then the line was said, where the session came to its end
  pub data AreAllAnswered (config : Config) (bytes : List ℕ) (count : ℕ) (words : Stream) (world world' : WorldAt) (status : Status) : Type 0 where
    stopped : IsDrilled config bytes words world.outside world'.outside (Err status) → world' ≡ record world { outside = world'.outside } → AreAllAnswered config bytes count words world world' status
    told : (kept : Written) → IsDrilled config bytes words world.outside world'.outside (Ok kept) → IsToldOf count kept.contents world.sink world'.sink status
        → world' ≡ record world { sink = world'.sink; outside = world'.outside } → AreAllAnswered config bytes count words world world' status

  -- there was memory for the requests, or nothing was done
  pub data IsReady (words_of : ℕ → Stream) (app : List ℕ) (start count : ℕ) (words : Stream) (world world' : WorldAt) (status : Status) : Type 0 where
    lacks : status ≡ ends.NoMemory → world' ≡ world → IsReady words_of app start count words world world' status
    ready : (config : Config) (bytes : List ℕ) → IsPrepared words_of app start count config bytes → AreAllAnswered config bytes count words world world' status → IsReady words_of app start count words world world' status

  -- three numbers were asked for, as on standard input; no file was read, and neither source nor link nor clock nor note was touched
  pub record IsDrill (words_of : ℕ → Stream) (app : List ℕ) (start count : ℕ) (world world' : WorldAt) (status : Status) : Type 0 where
    pub seed : ℕ
    pub one : ℕ
    pub other : ℕ
    pub between : WorldAt
    pub asked : Tells world.outside.numbers between.outside.numbers (seed ∷ one ∷ other ∷ [])
    pub only : between ≡ record world { outside = record world.outside { numbers = between.outside.numbers } }
    pub ran : IsReady words_of app start count (words_of seed) between world' status
