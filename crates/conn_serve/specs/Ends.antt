-- What the calls of a session do to its sink and to its source.
use Rattle.std.specs.Prelude.{◌≡◌, ℕ, Bool, true, List, [], ◌++◌, Option}
use Rattle.side_world.specs.declared.sink.Sink.{Ghosts as Takes}
use Rattle.side_world.specs.declared.source.Source.{Ghosts as Gives}
use Rattle.side_world.specs.Told.{Told, Took, SentSome, IsDrained}
use Rattle.side_world.specs.Faults.{Rose}
use Rattle.conn_serve.specs.declared.ended.Ended.{Ended}
use Rattle.conn_serve.specs.declared.ended.Ended.TheVariants.{SinkFailed}

-- what a sink shows: its bytes, where it tells them, and its count of faults
pub record SinkAt : Type 0 where
  pub contents : Option (List ℕ)
  pub faults : ℕ

abbrev pub sink_at : {N : Type 0} → Takes N → N → SinkAt
sink_at takes sink = record { contents = takes.contents sink; faults = takes.faults sink }

-- what a source shows: the bytes that are left, those that were read, and those that all reads but the last gave, where it tells them; whether it has ended; its
-- count of faults
pub record SourceAt : Type 0 where
  pub left : Option (List ℕ)
  pub taken : Option (List ℕ)
  pub earlier : Option (List ℕ)
  pub ended : Bool
  pub faults : ℕ

abbrev pub source_at : {S : Type 0} → Gives S → S → SourceAt
source_at gives source = record { left = gives.left source; taken = gives.taken source; earlier = gives.earlier source; ended = gives.ended source; faults = gives.faults source }

-- these bytes were sent, without a fault
pub record Sent (bytes : List ℕ) (sink sink' : SinkAt) : Type 0 where
  pub told : Told sink.contents sink'.contents bytes
  pub no_fault : sink'.faults ≡ sink.faults

-- these bytes were sent, and maybe more behind them
abbrev pub SentFirst : List ℕ → SinkAt → SinkAt → Type 0
SentFirst bytes sink sink' = (more : List ℕ) × Told sink.contents sink'.contents (bytes ++ more)

-- a front of these bytes was sent, and then the sink failed
pub record Cut (bytes : List ℕ) (sink sink' : SinkAt) : Type 0 where
  pub front : SentSome sink.contents sink'.contents bytes
  pub failed : Rose sink.faults sink'.faults

-- of these bytes some were sent, and the others are kept
pub record Passed (bytes kept : List ℕ) (sink sink' : SinkAt) : Type 0 where
  pub sent : List ℕ
  pub went : Sent sent sink sink'
  pub whole : sent ++ kept ≡ bytes

-- the session ends so once these bytes are sent, or as its sink fails
pub data IsFinish (ended : Ended) (bytes : List ℕ) (sink sink' : SinkAt) (result : Ended) : Type 0 where
  wrote : result ≡ ended → Sent bytes sink sink' → IsFinish ended bytes sink sink' result
  failed : result ≡ SinkFailed → Cut bytes sink sink' → IsFinish ended bytes sink sink' result

-- these bytes were read, without a fault
pub record Read (bytes : List ℕ) (source source' : SourceAt) : Type 0 where
  pub took : Took source.left source'.left bytes
  pub taken : Told source.taken source'.taken bytes
  pub no_fault : source'.faults ≡ source.faults

-- the same by one read, which is the last one so far
pub record ReadOnce (bytes : List ℕ) (source source' : SourceAt) : Type 0 where
  pub read : Read bytes source source'
  pub last : source'.earlier ≡ source.taken

-- the source has ended
pub record HasEnded (source source' : SourceAt) : Type 0 where
  pub once : ReadOnce [] source source'
  pub ended : source'.ended ≡ true
  pub drained : IsDrained source'.left

-- a read failed
pub record HasFailed (source source' : SourceAt) : Type 0 where
  pub left : source'.left ≡ source.left
  pub taken : source'.taken ≡ source.taken
  pub earlier : source'.earlier ≡ source.earlier
  pub failed : Rose source.faults source'.faults
