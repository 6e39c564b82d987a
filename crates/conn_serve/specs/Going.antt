-- A session that goes on, and one turn of it: what the bytes that were read hold next.
use Rattle.std.specs.Prelude.{◌≡◌, ◌⊎◌, ℕ, ◌<◌, ◌≤◌, Bool, true, false, List, [], ◌++◌, length, flat_map, Option, Some, None, Result, Ok}
use Rattle.side_world.specs.declared.sink.Sink.{Ghosts as Takes}
use Rattle.side_world.specs.declared.source.Source.{Ghosts as Gives}
use Rattle.side_base.specs.declared.message.Request.{Request}
use Rattle.side_base.specs.declared.message.Response.{Response}
use Rattle.turn_cell.specs.declared.error.ApiErr.{ApiErr}
use Rattle.api_error.specs.NoMemory.{no_memory_response}
use Rattle.http_frames.specs.declared.refusal.FrameErr.{FrameErr}
use Rattle.http_frames.specs.declared.refusal.FrameErr.TheVariants as refusal
use Rattle.http_frames.specs.Framing.{IsNext, State, Kept, Stands}
use Rattle.http_frames.specs.Written.{continue_bytes}
use Rattle.http_frames.specs.declared.step.Step.{Step}
use Rattle.http_frames.specs.Streams.{Midway}
use Rattle.conn_serve.specs.declared.ended.Ended.{Ended}
use Rattle.conn_serve.specs.declared.ended.Ended.TheVariants.{NoMemory}
use Rattle.conn_serve.specs.Exchanged.{Exchanged, AreAnswered, GoesOn, out_of, responses_of, wholes_of}
use Rattle.conn_serve.specs.Ends.{SinkAt, SourceAt, Passed, Read, IsFinish, SentFirst, sink_at, source_at}
use Rattle.conn_serve.specs.declared.serving.Progress.{Progress}
use Rattle.conn_serve.specs.Sending.{SentBeforeRead}
use Rattle.conn_serve.specs.Answering.{FinishesRefused, LacksRoom}
use Rattle.conn_serve.specs.Served.{Served}

-- `Continue` where it was given for what comes next
abbrev pub mark_at : Bool → List ℕ
mark_at true = continue_bytes
mark_at false = []

-- what is gathered has the responses to the late requests, of fewer than 65,536 bytes; the answers to the earlier ones were sent
pub record Gathering {E : Type 0} (done : List (Exchanged E)) (out : List ℕ) (sink sink' : SinkAt) : Type 0 where
  pub earlier : List (Exchanged E)
  pub late : List (Exchanged E)
  pub whole : done ≡ earlier ++ late
  pub sent : SentFirst (out_of earlier) sink sink'
  pub within : length (responses_of late) ≤ length out
  pub few : length (responses_of late) < 65536

-- so far: these bytes were read, and these requests answered, whose responses were sent or are kept in `out`
pub record Going {E : Type 0} (exchange : Request → List E → Result Response ApiErr → Type 0) (did : List E → Type 0) (source source' : SourceAt) (sink sink' : SinkAt) (state : State) (number : ℕ) (out : List ℕ) : Type 0 where
  pub bytes : List ℕ
  pub done : List (Exchanged E)
  pub midway : Midway bytes (wholes_of done) state
  pub answered : AreAnswered exchange 1 done
  pub going : GoesOn done
  pub count : length done ≡ number
  pub below : number < 100000
  pub acted : did (flat_map (λ x. x.trace) done)
  pub passed : Passed (out_of done ++ mark_at state.continued) out sink sink'
  pub before_read : SentBeforeRead bytes done source source' sink sink'
  pub gathering : Gathering done out sink sink'
  pub read : Read bytes source source'

-- what a turn leaves: the session goes on, or it is over
abbrev pub After : {E : Type 0} → (Request → List E → Result Response ApiErr → Type 0) → (List E → Type 0) → (Request → ℕ → Type 0) → SourceAt → SourceAt → SinkAt → SinkAt → Kept → ℕ → List ℕ → Option Ended → Type 0
After exchange did shows source source' sink sink' kept number out None = (state : State) × Stands state kept × Going exchange did source source' sink sink' state number out
After exchange did shows source source' sink sink' kept number out (Some ended) = Served exchange did shows source source' sink sink' ended

-- `Continue` was gathered, or there was no room for it
abbrev pub Continues : List ℕ → List ℕ → SinkAt → SinkAt → Option Ended → Type 0
Continues out out' sink sink' result = ((result ≡ None) × (out' ≡ out ++ continue_bytes) × (sink' ≡ sink)) ⊎ LacksRoom out sink sink' result

-- how a session ends with bytes that are refused, or for want of memory
abbrev pub EndsBy : FrameErr → List ℕ → SinkAt → SinkAt → Ended → Type 0
EndsBy refusal.NoMemory out sink sink' result = IsFinish NoMemory (out ++ no_memory_response) sink sink' result
EndsBy why out sink sink' result = FinishesRefused why out sink sink' result

-- what a session shows between two steps: what its framer keeps, how many requests were answered, what is gathered, its source, and its sink
pub record Stage : Type 0 where
  pub kept : Kept
  pub number : ℕ
  pub out : List ℕ
  pub source : SourceAt
  pub sink : SinkAt

abbrev pub stage : {S N : Type 0} → Gives S → Takes N → Progress → List ℕ → S → N → Stage
stage gives takes progress out source sink = record { kept = progress.framer; number = progress.answered; out = out; source = source_at gives source; sink = sink_at takes sink }

module _ {H E : Type 0} (exchange : H → Request → List E → Result Response ApiErr → Type 0) (did : H → List E → H → Type 0) (shows : H → Request → ℕ → Type 0) (handler handler' : H) (at after : Stage) (result : Option Ended) where
  -- what went on from its beginning goes on to this stage in this state; and from there the handler has led it to the later one
  abbrev pub Leads : H → SourceAt → SinkAt → State → Type 0
  Leads first source sink state = Going (exchange first) (λ events. did first events handler) source at.source sink at.sink state at.number at.out
      → After (exchange first) (λ events. did first events handler') (shows handler') source after.source sink after.sink after.kept after.number after.out result

  -- from wherever the framer stands
  abbrev pub TurnLeads : Type 0
  TurnLeads = (first : H) (source : SourceAt) (sink : SinkAt) (state : State) → Stands state at.kept → Leads first source sink state

  -- the same behind this step of the stream
  abbrev pub TakeLeads : Step → Type 0
  TakeLeads step = (first : H) (source : SourceAt) (sink : SinkAt) (state new : State) → Stands new at.kept → IsNext state (Ok step) new → Leads first source sink state
