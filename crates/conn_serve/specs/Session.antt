-- The session of a connection: the bytes that were read, the requests that were answered, what was written, and how it ended.
use Rattle.std.specs.Prelude.{◌≡◌, ◌≢◌, ◌⊎◌, ℕ, Bool, true, false, List, [], ◌∷◌, ◌++◌, flat_map, codes, decimal, Option, Some, None, Result, Err}
use Rattle.side_base.specs.declared.message.Request.{Request}
use Rattle.side_base.specs.declared.message.Response.{Response}
use Rattle.turn_cell.specs.declared.error.ApiErr.{ApiErr}
use Rattle.turn_cell.specs.declared.error.ApiErr.TheVariants as error
use Rattle.api_error.specs.declared.code.Code.TheVariants as code
use Rattle.api_error.specs.Body.{error_response}
use Rattle.api_error.specs.NoMemory.{no_memory_response}
use Rattle.http_frames.specs.declared.refusal.FrameErr.{FrameErr}
use Rattle.http_frames.specs.Refusals.{refused_status, refused_name}
use Rattle.http_frames.specs.Requests.{IsRefused, IsAccepted}
use Rattle.http_frames.specs.Streams.{Begins, IsStream}
use Rattle.http_frames.specs.Written.{written}
use Rattle.conn_serve.specs.declared.ended.Ended.{Ended}
use Rattle.conn_serve.specs.declared.ended.Ended.TheVariants.{Done, Closed, Asked, ClosedByPeer, Refused, Limit, Spent, SourceFailed, SinkFailed, NoMemory}
use Rattle.conn_serve.specs.Exchanged.{Exchanged, Unanswered, AreAnswered, GoesOn, StopsWith, IsMark, request_in, is_head, mark_of, out_of, wholes_of}

-- ---- responses that the connection gives by itself

-- to a request that was refused; its body is sent whatever its method
abbrev pub refused_bytes : FrameErr → List ℕ
refused_bytes why = written (error_response (refused_status why) code.BadRequest (refused_name why)) false true

-- to one that met an exhausted cell
abbrev pub spent_bytes : Bool → ℕ → List ℕ
spent_bytes head count = written (error_response 500 code.Spent (codes "calls " ++ decimal count)) head true

-- ---- how it ends

-- the request that comes next ended early, and is the last whole one that was read
pub record IsNext {E : Type 0} (exchange : Request → List E → Result Response ApiErr → Type 0) (bytes : List ℕ) (done : List (Exchanged E)) (next : Unanswered E) : Type 0 where
  pub left : List ℕ
  pub begins : Begins bytes (wholes_of done ++ next.whole ∷ []) left
  pub ran : exchange (request_in next.whole) next.trace (Err next.error)

-- all requests of the stream were answered, and this rest is left
pub record AllAnswered {E : Type 0} (bytes : List ℕ) (done : List (Exchanged E)) (rest : List ℕ) : Type 0 where
  pub going : GoesOn done
  pub stream : IsStream bytes (wholes_of done) rest
  pub accepted : IsAccepted rest

-- there was no memory: for the request that comes next, or beside any
abbrev pub LacksMemory : {E : Type 0} → (Request → List E → Result Response ApiErr → Type 0) → List ℕ → List (Exchanged E) → Option (Unanswered E) → Type 0
LacksMemory exchange bytes done None = (left : List ℕ) × Begins bytes (wholes_of done) left
LacksMemory exchange bytes done (Some next) = IsNext exchange bytes done next × (next.error ≡ error.NoMemory)

-- what is sent for an exhausted cell, or in its place where there is no memory for that
abbrev pub IsSpentAnswer : Bool → ℕ → List ℕ → Type 0
IsSpentAnswer head count answer = (answer ≡ spent_bytes head count) ⊎ (answer ≡ no_memory_response)

module _ {E : Type 0} (exchange : Request → List E → Result Response ApiErr → Type 0) (bytes : List ℕ) (done : List (Exchanged E)) (more : Option (Unanswered E)) (sent : List ℕ → Type 0) where
  -- the last answered request ends it so
  pub record EndsAfter (ended : Ended) : Type 0 where
    pub left : List ℕ
    pub begins : Begins bytes (wholes_of done) left
    pub stops : StopsWith done ended
    pub no-more : more ≡ None
    pub wrote : sent (out_of done)

  -- the source has ended between two requests
  pub record EndsBetween : Type 0 where
    pub all : AllAnswered bytes done []
    pub no-more : more ≡ None
    pub wrote : sent (out_of done)

  -- the source has ended, or failed, and this rest is not a whole request
  pub record EndsWith (rest : List ℕ) : Type 0 where
    pub all : AllAnswered bytes done rest
    pub mark : List ℕ
    pub marked : IsMark rest mark
    pub no-more : more ≡ None
    pub wrote : sent (out_of done ++ mark)

  -- what comes next is refused
  pub record EndsRefused (why : FrameErr) : Type 0 where
    pub going : GoesOn done
    pub rest : List ℕ
    pub stream : IsStream bytes (wholes_of done) rest
    pub refused : IsRefused rest why
    pub mark : List ℕ
    pub marked : IsMark rest mark
    pub no-more : more ≡ None
    pub wrote : sent (out_of done ++ mark ++ refused_bytes why)

  -- the request that comes next met an exhausted cell
  pub record EndsSpent (count : ℕ) : Type 0 where
    pub going : GoesOn done
    pub next : Unanswered E
    pub is-next : IsNext exchange bytes done next
    pub why : next.error ≡ error.Exhausted count
    pub this : more ≡ Some next
    pub answer : List ℕ
    pub answers : IsSpentAnswer (is_head (request_in next.whole).method) count answer
    pub wrote : sent (out_of done ++ mark_of next.whole ++ answer)

  -- there is no memory; whether `Continue` was sent for what comes next is left open
  pub record EndsWithoutMemory : Type 0 where
    pub going : GoesOn done
    pub lacks : LacksMemory exchange bytes done more
    pub mark : List ℕ
    pub rest : List ℕ
    pub begins : Begins bytes (wholes_of done) rest
    pub marked : (mark ≡ []) ⊎ IsMark rest mark
    pub wrote : sent (out_of done ++ mark ++ no_memory_response)

  -- the sink failed while the answered requests, or `Continue` for what comes next, were being sent
  pub record CutWhileGoing : Type 0 where
    pub going : GoesOn done
    pub rest : List ℕ
    pub begins : Begins bytes (wholes_of done) rest
    pub mark : List ℕ
    pub marked : (mark ≡ []) ⊎ IsMark rest mark
    pub no-more : more ≡ None
    pub wrote : sent (out_of done ++ mark)

  -- of the ends that send a response by which the session is over
  abbrev pub EndsSending : Ended → Type 0
  EndsSending Closed = EndsAfter Closed
  EndsSending Asked = EndsAfter Asked
  EndsSending Limit = EndsAfter Limit
  EndsSending (Refused why) = EndsRefused why
  EndsSending (Spent count) = EndsSpent count
  EndsSending NoMemory = EndsWithoutMemory
  EndsSending other = ⊥

  -- the sink failed in the course of such an end, or before
  abbrev pub EndsCut : Type 0
  EndsCut = CutWhileGoing ⊎ ((ended : Ended) × EndsSending ended)

  abbrev pub Ends : Ended → Type 0
  Ends Done = EndsBetween
  Ends ClosedByPeer = (rest : List ℕ) × (rest ≢ []) × EndsWith rest
  Ends SourceFailed = (rest : List ℕ) × EndsWith rest
  Ends SinkFailed = EndsCut
  Ends Closed = EndsSending Closed
  Ends Asked = EndsSending Asked
  Ends Limit = EndsSending Limit
  Ends (Refused why) = EndsSending (Refused why)
  Ends (Spent count) = EndsSending (Spent count)
  Ends NoMemory = EndsSending NoMemory

-- what was done for the requests, in order
abbrev pub trace_of_more : {E : Type 0} → Option (Unanswered E) → List E
trace_of_more None = []
trace_of_more (Some next) = next.trace

abbrev pub trace_of : {E : Type 0} → List (Exchanged E) → Option (Unanswered E) → List E
trace_of done more = flat_map (λ x. x.trace) done ++ trace_of_more more

-- what is known of what was sent: all of it, but where the sink failed a front
abbrev pub sent_at : Ended → (List ℕ → Type 0) → (List ℕ → Type 0) → List ℕ → Type 0
sent_at SinkFailed all front = front
sent_at other all front = all

-- Of the bytes that were read these requests were answered, in order and each by its exchange, and one more may have ended early; `all` says that these bytes
-- were written and no others, and `front` that a front of them was
pub record Session {E : Type 0} (exchange : Request → List E → Result Response ApiErr → Type 0) (bytes : List ℕ) (done : List (Exchanged E)) (more : Option (Unanswered E)) (all front : List ℕ → Type 0) (ended : Ended) : Type 0 where
  pub answered : AreAnswered exchange 1 done
  pub ends : Ends exchange bytes done more (sent_at ended all front) ended
