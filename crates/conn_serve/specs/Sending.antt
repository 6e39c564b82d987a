-- What a sink has of the answers. A read may wait for a peer that waits for an answer: so whatever is due is sent before it.
use Rattle.std.specs.Prelude.{◌≡◌, ℕ, ◌<◌, ◌≤◌, List, [], ◌++◌, length}
use Rattle.side_world.specs.Told.{Told}
use Rattle.http_frames.specs.Streams.{IsStream}
use Rattle.conn_serve.specs.Exchanged.{Exchanged, IsMark, out_of, responses_of, wholes_of}
use Rattle.conn_serve.specs.Ends.{SinkAt, SourceAt, SentFirst}

-- these are the bytes that the session had read before its last read: the reads before it gave them, or there was none
pub data HadRead (source source' : SourceAt) (before : List ℕ) : Type 0 where
  reads : Told source.taken source'.earlier before → HadRead source source' before
  no_read : before ≡ [] → source'.taken ≡ source.taken → source'.earlier ≡ source.earlier → HadRead source source' before

-- However the session ended, what was due before its last read had been sent: all requests that were whole by then were answered, and the sink had these answers, and `Continue` where
-- what stood behind them asked for it. A write may fail at any call, so that this binds each read and not the last alone: no answer is held back while more is read.
-- A read gives 16,384 bytes at most
pub record SentBeforeRead {E : Type 0} (bytes : List ℕ) (done : List (Exchanged E)) (source source' : SourceAt) (sink sink' : SinkAt) : Type 0 where
  pub before : List ℕ
  pub piece : List ℕ
  pub had : HadRead source source' before
  pub read : bytes ≡ before ++ piece
  pub short : length piece ≤ 16384
  pub old : List (Exchanged E)
  pub new : List (Exchanged E)
  pub whole : done ≡ old ++ new
  pub rest : List ℕ
  pub stream : IsStream before (wholes_of old) rest
  pub mark : List ℕ
  pub marked : IsMark rest mark
  pub sent : SentFirst (out_of old ++ mark) sink sink'

-- The answers to the earlier requests were sent. Of those to the others one may be of any length, and all before it have fewer than 65,536 bytes of responses
pub record GathersFew {E : Type 0} (done : List (Exchanged E)) (sink sink' : SinkAt) : Type 0 where
  pub earlier : List (Exchanged E)
  pub late : List (Exchanged E)
  pub last : List (Exchanged E)
  pub whole : done ≡ earlier ++ late ++ last
  pub sent : SentFirst (out_of earlier) sink sink'
  pub few : length (responses_of late) < 65536
  pub one : length last ≤ 1
