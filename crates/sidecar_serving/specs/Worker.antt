-- What one worker does: its connections and its turns, by the answers of its acceptor.
use Rattle.std.specs.Prelude.{◌≡◌, ◌≢◌, ◌≤◌, ℕ, true, List, [], ◌∷◌, ◌++◌, length, take, Option, Some, None}
use Rattle.side_world.specs.declared.source.Source.{Ghosts as Reads}
use Rattle.side_world.specs.declared.sink.Sink.{Ghosts as Writes}
use Rattle.side_world.specs.Answer.{Answer, Back, IsNew, conn, idle, closed, failed}
use Rattle.conn_serve.specs.declared.ended.Ended.{Ended}
use Rattle.conn_serve.specs.declared.ended.Ended.TheVariants as ends
use Rattle.conn_serve.specs.Exchanged.{Exchanged, Unanswered}
use Rattle.conn_serve.specs.Session.{Session, trace_of}
use Rattle.sidecar_core.specs.declared.config.Config.{Config}
use Rattle.sidecar_turns.specs.declared.idling.IdleTurn.{IdleTurn}
use Rattle.sidecar_objects.specs.declared.doing.Doing.{Doing}
use Rattle.sidecar_core.specs.Delivery.{IdlesIn}
use Rattle.sidecar_objects.specs.Kind.{CellsAt, Kinds}
use Rattle.sidecar_objects.specs.Shown.{Shows}
use Rattle.sidecar_objects.specs.Did.{Did, Standing}
use Rattle.sidecar_core.specs.Exchange.{Exchange}
use Rattle.sidecar_workers.specs.declared.exit.Exit.{Exit}
use Rattle.sidecar_workers.specs.declared.exit.Exit.TheVariants as exits
use Rattle.sidecar_workers.specs.declared.work.Owed.{Owed}
use Rattle.sidecar_workers.specs.declared.work.Owed.TheVariants as owed
use Rattle.sidecar_workers.specs.Works.{exit_of_served, exit_of_turned}
use Rattle.sidecar_serving.specs.declared.due.Due.{Due}
use Rattle.sidecar_serving.specs.declared.due.Due.TheVariants as dues
use Rattle.sidecar_serving.specs.Ending.{served_of, turned_of}

-- no read and no write of the connection failed
abbrev pub HasNoFault : Back → Type 0
HasNoFault back = (back.faults ≡ 0) × (back.sink_faults ≡ 0)

-- why a connection may have ended so, by what came back of it
abbrev pub IsCause : Back → Ended → Type 0
IsCause back ends.Done = HasNoFault back × (back.ended ≡ true)
IsCause back ends.ClosedByPeer = HasNoFault back × (back.ended ≡ true)
IsCause back ends.SourceFailed = (back.faults ≢ 0) × (back.sink_faults ≡ 0)
IsCause back ends.SinkFailed = (back.sink_faults ≢ 0) × (back.faults ≡ 0)
IsCause back ends.Closed = HasNoFault back
IsCause back ends.Asked = HasNoFault back
IsCause back ends.Limit = HasNoFault back
IsCause back (ends.Refused why) = HasNoFault back
IsCause back (ends.Spent count) = HasNoFault back
IsCause back ends.NoMemory = HasNoFault back

-- one connection: a session of the bytes that were read from it, whose responses are what was written to it, and what was done for its requests
pub record Connected (config : Config) (back : Back) (events : List Doing) (exit : Option Exit) : Type 0 where
  pub done : List (Exchanged Doing)
  pub more : Option (Unanswered Doing)
  pub ended : Ended
  pub session : Session (Exchange config) back.read done more (λ out. back.written ≡ out) (λ out. (k : ℕ) × (k ≤ length out) × (back.written ≡ take k out)) ended
  pub whole : events ≡ trace_of done more
  pub cause : IsCause back ended
  pub exit_is : exit ≡ exit_of_served (served_of ended)

-- one turn of what a worker does when no connection came
pub record Turned (config : Config) (events : List Doing) (exit : Option Exit) : Type 0 where
  pub turn : IdleTurn
  pub idles : IdlesIn config events turn
  pub exit_is : exit ≡ exit_of_turned (turned_of turn)

-- what one answer of the acceptor adds to what the worker has done, and how the worker ends by it, if it does; a connection that hasn't come back has added nothing yet
abbrev pub Adds : Config → Answer → List Doing → Option Exit → Type 0
Adds config (conn (Some back)) events exit = Connected config back events exit
Adds config (conn None) events exit = ⊥
Adds config idle events exit = Turned config events exit
Adds config closed events exit = (events ≡ []) × (exit ≡ None)
Adds config failed events exit = (events ≡ []) × (exit ≡ None)

-- All that a worker has done by these answers: nothing is answered and nothing done; or one more answer to a worker that goes on adds to what was done. So a
-- connection that asked for the end, and one that met an exhausted cell, is the last
pub data Worked (config : Config) : List Answer → List Doing → Option Exit → Type 0 where
  nothing : Worked config [] [] None
  further : (answers : List Answer) (events added : List Doing) (answer : Answer) (exit : Option Exit) → Worked config answers events None → Adds config answer added exit → Worked config (answers ++ answer ∷ []) (events ++ added) exit

-- the same while it owes a `serve` for its last answer, a connection that is out, or a turn
abbrev pub WorkedSoFar : Config → Owed → List Answer → List Doing → Option Exit → Type 0
WorkedSoFar config owed.Nothing answers events exit = Worked config answers events exit
WorkedSoFar config owed.Serve answers events exit = (before : List Answer) × (answers ≡ before ++ conn None ∷ []) × (exit ≡ None) × Worked config before events None
WorkedSoFar config owed.Turn answers events exit = (before : List Answer) × (answers ≡ before ++ idle ∷ []) × (exit ≡ None) × Worked config before events None

-- what a worker has come to: its pass and all that it works with, the answers of its acceptor where they are told, and how it has ended, if it has
pub record Reached (O : Type 0) : Type 0 where
  pub at : Standing O
  pub told : Option (List Answer)
  pub exit : Option Exit

-- what a worker owes
abbrev pub owed_of : {S N : Type 0} → Due S N → Owed
owed_of dues.Nothing = owed.Nothing
owed_of (dues.Serve source sink) = owed.Serve
owed_of dues.Turn = owed.Turn

-- a connection that is to be served is new
abbrev pub IsNewDue : {S N : Type 0} → Reads S → Writes N → Due S N → Type 0
IsNewDue reads writes dues.Nothing = Unit {0}
IsNewDue reads writes (dues.Serve source sink) = IsNew reads writes source sink
IsNewDue reads writes dues.Turn = Unit {0}

-- where the answers are told, this one came last
abbrev pub EndsWith : Answer → Option (List Answer) → Type 0
EndsWith answer told = (answers : List Answer) → told ≡ Some answers → (before : List Answer) × (answers ≡ before ++ answer ∷ [])

-- why a worker has ended so: by its last connection or turn; by the last answer of its acceptor, whose count of faults has risen where that was a fault; or since others did
abbrev pub HasExit : Exit → Option (List Answer) → ℕ → Option Exit → Type 0
HasExit exits.Asked told faults exit = exit ≡ Some exits.Asked
HasExit (exits.Spent count) told faults exit = exit ≡ Some (exits.Spent count)
HasExit exits.Closed told faults exit = EndsWith closed told
HasExit exits.Failed told faults exit = EndsWith failed told × (faults ≢ 0)
HasExit exits.Stopped told faults exit = Unit {0}

-- From this beginning the worker has done exactly what the answers of its acceptor say, where they are told; and where it ended on an exhausted cell, a seat of its pass
-- shows the count
pub record HasDone {O : Type 0} (config : Config) (kinds : Kinds O) (cells : CellsAt O) (start : Standing O) (owes : Owed) (fresh : Type 0) (reached : Reached O) : Type 0 where
  pub events : List Doing
  pub went : Did kinds cells start events reached.at
  pub worked : (answers : List Answer) → reached.told ≡ Some answers → WorkedSoFar config owes answers events reached.exit
  pub new : fresh
  pub shown : (count : ℕ) → reached.exit ≡ Some (exits.Spent count) → Shows reached.at.seats count
