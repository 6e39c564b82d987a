-- What the parts of a session do: one request is answered, and more bytes are wanted.
use Rattle.std.specs.Prelude.{◌≡◌, ◌≢◌, ◌⊎◌, ℕ, ◌<◌, ◌≤◌, false, List, [], ◌++◌, length, Option, Some, None, is_some, Result, Ok, Err}
use Rattle.side_base.specs.declared.message.Request.{Request}
use Rattle.side_base.specs.declared.message.Response.{Response}
use Rattle.turn_cell.specs.declared.error.ApiErr.{ApiErr}
use Rattle.turn_cell.specs.declared.error.ApiErr.TheVariants as error
use Rattle.api_error.specs.NoMemory.{no_memory_response}
use Rattle.http_frames.specs.declared.refusal.FrameErr.{FrameErr}
use Rattle.http_frames.specs.Framing.{State, Kept, Stands, waiting, fed}
use Rattle.http_frames.specs.Written.{written}
use Rattle.conn_serve.specs.declared.ended.Ended.{Ended}
use Rattle.conn_serve.specs.declared.ended.Ended.TheVariants.{Done, ClosedByPeer, Refused, Spent, SourceFailed, SinkFailed, NoMemory}
use Rattle.conn_serve.specs.Exchanged.{IsStop, is_head}
use Rattle.conn_serve.specs.Session.{IsSpentAnswer, refused_bytes}
use Rattle.conn_serve.specs.Ends.{SinkAt, SourceAt, Sent, Cut, IsFinish, ReadOnce, HasEnded, HasFailed}

-- the session is over, and ended so
abbrev pub Finishes : Ended → List ℕ → SinkAt → SinkAt → Option Ended → Type 0
Finishes ended bytes sink sink' result = (e : Ended) × (result ≡ Some e) × IsFinish ended bytes sink sink' e

-- after a response with which the session goes on: what was gathered is kept where it has fewer than 65,536 bytes, or was sent, or the sink fails
pub data MakesRoom (bytes kept : List ℕ) (sink sink' : SinkAt) (result : Option Ended) : Type 0 where
  keeps : result ≡ None → kept ≡ bytes → length bytes < 65536 → sink' ≡ sink → MakesRoom bytes kept sink sink' result
  sends : result ≡ None → kept ≡ [] → Sent bytes sink sink' → MakesRoom bytes kept sink sink' result
  breaks : result ≡ Some SinkFailed → Cut bytes sink sink' → MakesRoom bytes kept sink sink' result

-- after a response: the session ends with it, or goes on
abbrev pub Went : Option Ended → List ℕ → List ℕ → SinkAt → SinkAt → Option Ended → Type 0
Went (Some ended) bytes kept sink sink' result = Finishes ended bytes sink sink' result
Went None bytes kept sink sink' result = MakesRoom bytes kept sink sink' result

-- there was no memory, and the response that takes none was sent behind what was gathered
abbrev pub LacksRoom : List ℕ → SinkAt → SinkAt → Option Ended → Type 0
LacksRoom out sink sink' result = Finishes NoMemory (out ++ no_memory_response) sink sink' result

-- the response to the request of this number was gathered behind `out`, and says whether the session ends with it
pub record IsSaid (number : ℕ) (request : Request) (response : Response) (out out' : List ℕ) (sink sink' : SinkAt) (result : Option Ended) : Type 0 where
  pub stop : Option Ended
  pub stops : IsStop number request stop
  pub went : Went stop (out ++ written response (is_head request.method) (is_some stop)) out' sink sink' result

-- what an exchange makes of the session
abbrev pub Answers : ℕ → Request → List ℕ → List ℕ → SinkAt → SinkAt → Result Response ApiErr → Option Ended → Type 0
Answers number request out out' sink sink' (Ok response) result = IsSaid number request response out out' sink sink' result
Answers number request out out' sink sink' (Err error.NoMemory) result = LacksRoom out sink sink' result
Answers number request out out' sink sink' (Err (error.Exhausted count)) result =
    (answer : List ℕ) × IsSpentAnswer (is_head request.method) count answer × Finishes (Spent count) (out ++ answer) sink sink' result

-- More bytes are wanted: what was gathered is sent, and then the source is read, whose bytes the framer takes, 16,384 at most
pub data Wants (state : State) (out out' : List ℕ) (kept : Kept) (source source' : SourceAt) (sink sink' : SinkAt) (result : Option Ended) : Type 0 where
  more : (piece : List ℕ) → result ≡ None → out' ≡ [] → Sent out sink sink' → ReadOnce piece source source' → length piece ≤ 16384 → Stands (fed state piece) kept → Wants state out out' kept source source' sink sink' result
  lacks : (piece : List ℕ) (between : SinkAt) → Sent out sink between → ReadOnce piece source source' → length piece ≤ 16384 → LacksRoom [] between sink' result → Wants state out out' kept source source' sink sink' result
  cut : result ≡ Some SinkFailed → Cut out sink sink' → source' ≡ source → Wants state out out' kept source source' sink sink' result
  done : result ≡ Some Done → state ≡ waiting [] false → Sent out sink sink' → HasEnded source source' → Wants state out out' kept source source' sink sink' result
  closed : result ≡ Some ClosedByPeer → state ≢ waiting [] false → Sent out sink sink' → HasEnded source source' → Wants state out out' kept source source' sink sink' result
  failed : result ≡ Some SourceFailed → Sent out sink sink' → HasFailed source source' → Wants state out out' kept source source' sink sink' result

-- how a session ends whose source has ended: between two requests, or inside one
abbrev pub IsEnd : State → Ended → Type 0
IsEnd state Done = state ≡ waiting [] false
IsEnd state ClosedByPeer = state ≢ waiting [] false
IsEnd state _ = ⊥

-- the session ends with the response to bytes that are refused so, or for want of memory
abbrev pub FinishesRefused : FrameErr → List ℕ → SinkAt → SinkAt → Ended → Type 0
FinishesRefused why out sink sink' result = IsFinish (Refused why) (out ++ refused_bytes why) sink sink' result ⊎ IsFinish NoMemory (out ++ no_memory_response) sink sink' result

-- A request was answered by a handler, which went on through what was done for it: `answers` is what the reply made of the session. Where the request met an exhausted cell, a seat
-- of the handler shows its count
abbrev pub Responded : {H E : Type 0} → (H → Request → List E → Result Response ApiErr → Type 0) → (H → List E → H → Type 0) → (H → Request → ℕ → Type 0) → H → H → Request → (Result Response ApiErr → Type 0) → Type 0
Responded {H} {E} exchange did shows handler handler' request answers =
    (events : List E) × (reply : Result Response ApiErr) × exchange handler request events reply × did handler events handler' × answers reply × ((count : ℕ) → reply ≡ Err (error.Exhausted count) → shows handler' request count)
