-- The session of a drill, by its own devices.
use Rattle.std.proofs.Common.{◌≡◌, ◌∙◌, ℕ, List, Option, Some, None, Result, Ok, Err, refl, sym, subst}
use Rattle.side_world.specs.declared.disk.Disk.{Ghosts as Keeps}
use Rattle.rand_core.specs.Stream.{Stream}
use Rattle.keeper_core.specs.declared.keeper.Keeper.{Ghosts}
use Rattle.keeper_journal.specs.declared.any_keeper.AnyKeeper.{AnyKeeper}
use Rattle.state_core.specs.declared.store.Store.{Store}
use Rattle.conn_serve.specs.declared.ended.Ended.{Ended}
use Rattle.conn_serve.specs.Ends.{SinkAt, SourceAt}
use Rattle.conn_serve.specs.Served.{Served}
use Rattle.policy_run.specs.Effects.{Clocked}
use Rattle.link_call.specs.LinkAt.{LinkAt}
use Rattle.drill.specs.Devices.{Written}
use Rattle.sidecar_core.specs.declared.config.Config.{Config}
use Rattle.sidecar_core.specs.Exchange.{Exchange}
use Rattle.sidecar_core.specs.Shown.{ShownFor}
use Rattle.sidecar_objects.specs.Composed.{lone_stays}
use Rattle.sidecar_objects.specs.declared.objects.Objects.{Objects}
use Rattle.sidecar_objects.specs.declared.objects.Pass.{Pass}
use Rattle.sidecar_objects.specs.Did.{Did}
use Rattle.sidecar_objects.specs.Kind.{Kinds}
use Rattle.sidecar_objects.specs.Pass.{cells_of, seats_of}
use Rattle.sidecar_objects.specs.Passes.{IsLone}
use Rattle.sidecar_cli.specs.Drill.{EndsBy, IsDrillSession, IsReady, IsServedByDrill, drill_clock, drill_link, drill_source}
use Rattle.sidecar_cli.specs.Play.{IsUp}
use Rattle.sidecar_cli.specs.World.{OutsideAt, WorldAt}
use Rattle.sidecar_cli.specs.declared.status.Status.{Status}

module _ {D : Type 0} {disking : Keeps D} {keeping : Ghosts (AnyKeeper D disking)} {kinds : Kinds (Store (AnyKeeper D disking) keeping)} {config : Config} {objects : Objects (AnyKeeper D disking) keeping} {pass after : Pass (AnyKeeper D disking) keeping} {bytes : List ℕ} {words : Stream} {ended : Ended} where
  -- a session by devices that are as those of a drill
  pub by_drill : {source source' : SourceAt} {sink sink' : SinkAt} {clock clock' : Clocked} {link link' : LinkAt} {rest : Stream} → source ≡ drill_source bytes → clock ≡ drill_clock → link ≡ drill_link → source'.faults ≡ 0
      → Served (Exchange config)
      (λ events. Did kinds (cells_of objects) (record { seats = seats_of pass; clock = clock; link = link; words = words }) events (record { seats = seats_of after; clock = clock'; link = link'; words = rest }))
      (ShownFor config (seats_of after)) source source' sink sink' ended
      → IsServedByDrill kinds config objects pass after bytes words sink sink' ended
  by_drill {source} {source'} {sink} {sink'} {clock} {clock'} {link} {link'} {rest} one two three none served = record {
    source' = source';
    clock' = clock';
    link' = link';
    rest = rest;
    no_fault = none;
    served = subst (λ (s : SourceAt). Served (Exchange config)
        (λ events. Did kinds (cells_of objects) (record { seats = seats_of pass; clock = drill_clock; link = drill_link; words = words }) events (record { seats = seats_of after; clock = clock'; link = link'; words = rest }))
        (ShownFor config (seats_of after)) s source' sink sink' ended) one
        (subst (λ (c : Clocked). Served (Exchange config)
        (λ events. Did kinds (cells_of objects) (record { seats = seats_of pass; clock = c; link = drill_link; words = words }) events (record { seats = seats_of after; clock = clock'; link = link'; words = rest }))
        (ShownFor config (seats_of after)) source source' sink sink' ended) two
        (subst (λ (l : LinkAt). Served (Exchange config)
        (λ events. Did kinds (cells_of objects) (record { seats = seats_of pass; clock = clock; link = l; words = words }) events (record { seats = seats_of after; clock = clock'; link = link'; words = rest }))
        (ShownFor config (seats_of after)) source source' sink sink' ended) three served));
  }

  -- into a sink that is as another one
  pub into_sink : {sink sink' other : SinkAt} → sink ≡ other → IsServedByDrill kinds config objects pass after bytes words sink sink' ended → IsServedByDrill kinds config objects pass after bytes words other sink' ended
  into_sink {sink} {sink'} {other} same served = subst (λ (s : SinkAt). IsServedByDrill kinds config objects pass after bytes words s sink' ended) same served

  -- a pass that is alone stays so
  pub lone_drilled : {sink sink' : SinkAt} → IsServedByDrill kinds config objects pass after bytes words sink sink' ended → IsLone (cells_of objects) (seats_of pass) → IsLone (cells_of objects) (seats_of after)
  lone_drilled served lone = lone_stays kinds (cells_of objects) (record { seats = seats_of pass; clock = drill_clock; link = drill_link; words = words }) _
      (record { seats = seats_of after; clock = served.clock'; link = served.link'; words = served.rest }) served.served.acted lone

-- objects that were started at a moment were started at the same
pub up_from : {D : Type 0} {disking : Keeps D} {keeping : Ghosts (AnyKeeper D disking)} {kinds : Kinds (Store (AnyKeeper D disking) keeping)} {config : Config} {start other : ℕ} {outside outside' : OutsideAt} {objects : Objects (AnyKeeper D disking) keeping} {pass : Pass (AnyKeeper D disking) keeping}
    → start ≡ other → IsUp kinds config start outside outside' objects pass → IsUp kinds config other outside outside' objects pass
up_from {kinds = kinds} {config = config} {outside = outside} {outside' = outside'} {objects = objects} {pass = pass} same up = subst (λ (s : ℕ). IsUp kinds config s outside outside' objects pass) same up

-- a session over a configuration is one over the same
pub session_over : {D : Type 0} {disking : Keeps D} {keeping : Ghosts (AnyKeeper D disking)} {kinds : Kinds (Store (AnyKeeper D disking) keeping)} {config other : Config} {objects : Objects (AnyKeeper D disking) keeping} {pass : Pass (AnyKeeper D disking) keeping} {bytes : List ℕ} {words : Stream} {outside outside' : OutsideAt} {result : Result Written Status}
    → config ≡ other → IsDrillSession kinds config objects pass bytes words outside outside' result → IsDrillSession kinds other objects pass bytes words outside outside' result
session_over {kinds = kinds} {objects = objects} {pass = pass} {bytes = bytes} {words = words} {outside = outside} {outside' = outside'} {result = result} same session = subst (λ (c : Config). IsDrillSession kinds c objects pass bytes words outside outside' result) same session

-- a run with the same random words
pub ready_by : {D : Type 0} {disking : Keeps D} {keeping : Ghosts (AnyKeeper D disking)} {kinds : Kinds (Store (AnyKeeper D disking) keeping)} {words_of : ℕ → Stream} {app : List ℕ} {start count : ℕ} {words words' : Stream} {world world' : WorldAt} {status : Status}
    → words ≡ words' → IsReady kinds words_of app start count words world world' status → IsReady kinds words_of app start count words' world world' status
ready_by {disking = disking} {keeping = keeping} {kinds = kinds} {words_of = words_of} {app = app} {start = start} {count = count} {world = world} {world' = world'} {status = status} same run = subst (λ w. IsReady kinds words_of app start count w world world' status) same run

-- what was written comes of a session that doesn't stop the run, and the status of one that does
pub writes : (stop other : Option Status) (kept : Written) → other ≡ stop → other ≡ None → EndsBy stop kept.contents (Ok kept)
writes stop other kept same none = subst (λ (s : Option Status). EndsBy s kept.contents (Ok kept)) (sym none ∙ same) refl

pub stops : (stop other : Option Status) (out : List ℕ) (status : Status) → other ≡ stop → other ≡ Some status → EndsBy stop out (Err status)
stops stop other out status same some = subst (λ (s : Option Status). EndsBy s out (Err status)) (sym some ∙ same) refl
