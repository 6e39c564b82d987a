-- What serving a connection does: a session, and what it was to the source, the sink and the handler of requests.
use Rattle.std.specs.Prelude.{◌≡◌, ℕ, true, List, Option, Some, Result}
use Rattle.side_base.specs.declared.message.Request.{Request}
use Rattle.side_base.specs.declared.message.Response.{Response}
use Rattle.side_world.specs.Told.{Told, Took, SentSome, IsDrained}
use Rattle.side_world.specs.Faults.{Rose}
use Rattle.turn_cell.specs.declared.error.ApiErr.{ApiErr}
use Rattle.turn_cell.specs.declared.error.ApiErr.TheVariants as error
use Rattle.conn_serve.specs.declared.ended.Ended.{Ended}
use Rattle.conn_serve.specs.declared.ended.Ended.TheVariants.{Done, Closed, Asked, ClosedByPeer, Refused, Limit, Spent, SourceFailed, SinkFailed, NoMemory}
use Rattle.conn_serve.specs.Exchanged.{Exchanged, Unanswered, request_in}
use Rattle.conn_serve.specs.Session.{Session, trace_of}
use Rattle.conn_serve.specs.Ends.{SinkAt, SourceAt}
use Rattle.conn_serve.specs.Sending.{SentBeforeRead, GathersFew}

-- no read and no write failed
pub record NoFault (source source' : SourceAt) (sink sink' : SinkAt) : Type 0 where
  pub read : source'.faults ≡ source.faults
  pub wrote : sink'.faults ≡ sink.faults

-- the source has ended, and where it tells what is left, that is nothing
pub record IsOver (source source' : SourceAt) (sink sink' : SinkAt) : Type 0 where
  pub no_fault : NoFault source source' sink sink'
  pub ended : source'.ended ≡ true
  pub drained : IsDrained source'.left

-- why a session ended so: of a fault the count rose, and otherwise none did
abbrev pub HasCause : SourceAt → SourceAt → SinkAt → SinkAt → Ended → Type 0
HasCause source source' sink sink' Done = IsOver source source' sink sink'
HasCause source source' sink sink' ClosedByPeer = IsOver source source' sink sink'
HasCause source source' sink sink' (Spent count) = NoFault source source' sink sink'
HasCause source source' sink sink' SourceFailed = Rose source.faults source'.faults × (sink'.faults ≡ sink.faults)
HasCause source source' sink sink' SinkFailed = Rose sink.faults sink'.faults × (source'.faults ≡ source.faults)
HasCause source source' sink sink' Closed = NoFault source source' sink sink'
HasCause source source' sink sink' Asked = NoFault source source' sink sink'
HasCause source source' sink sink' Limit = NoFault source source' sink sink'
HasCause source source' sink sink' (Refused why) = NoFault source source' sink sink'
HasCause source source' sink sink' NoMemory = NoFault source source' sink sink'

-- where the request that ended early met an exhausted cell, the seat of a cell that this request calls shows its count, however the session ended
abbrev pub IsShown : {E : Type 0} → (Request → ℕ → Type 0) → Option (Unanswered E) → Type 0
IsShown {E} shows more = (next : Unanswered E) (count : ℕ) → more ≡ Some next → next.error ≡ error.Exhausted count → shows (request_in next.whole) count

-- A connection was served: these bytes were read, and their session was written. `did` is what was done for requests, `shows` what the handler's seats show of the cells that a request calls
pub record Served {E : Type 0} (exchange : Request → List E → Result Response ApiErr → Type 0) (did : List E → Type 0) (shows : Request → ℕ → Type 0) (source source' : SourceAt) (sink sink' : SinkAt) (ended : Ended) : Type 0 where
  pub bytes : List ℕ
  pub done : List (Exchanged E)
  pub more : Option (Unanswered E)
  pub session : Session exchange bytes done more (λ out. Told sink.contents sink'.contents out) (λ out. SentSome sink.contents sink'.contents out) ended
  pub took : Took source.left source'.left bytes
  pub taken : Told source.taken source'.taken bytes
  pub before_read : SentBeforeRead bytes done source source' sink sink'
  pub gathered : GathersFew done sink sink'
  pub acted : did (trace_of done more)
  pub shown : IsShown shows more
  pub cause : HasCause source source' sink sink' ended
