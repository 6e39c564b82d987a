-- Requests of a connection and what came of them.
use Rattle.std.specs.Prelude.{◌≡◌, ◌≢◌, ◌⊎◌, ℕ, suc, Bool, true, false, List, [], ◌∷◌, ◌++◌, map, flat_map, All, if◌then◌else◌, Option, Some, None, is_some, Result, Ok}
use Rattle.side_base.specs.declared.method.Method.{Method}
use Rattle.side_base.specs.declared.method.Method.TheVariants as method
use Rattle.side_base.specs.declared.message.Request.{Request}
use Rattle.side_base.specs.declared.message.Response.{Response}
use Rattle.turn_cell.specs.declared.error.ApiErr.{ApiErr}
use Rattle.http_frames.specs.HeadRules.{request_of}
use Rattle.http_frames.specs.Closes.{closes_after}
use Rattle.http_frames.specs.Streams.{Whole, asks, IsAsking}
use Rattle.http_frames.specs.Written.{written, continue_bytes}
use Rattle.api_routes.specs.declared.route.Route.TheVariants.{Shutdown}
use Rattle.api_routes.specs.Route.{Means}
use Rattle.conn_serve.specs.declared.ended.Ended.{Ended}
use Rattle.conn_serve.specs.declared.ended.Ended.TheVariants.{Asked, Closed, Limit}

-- a request that was answered: what was done for it, the response, and how the session ends with it, if it does
pub record Exchanged (E : Type 0) : Type 0 where
  pub whole : Whole
  pub trace : List E
  pub response : Response
  pub stop : Option Ended

-- a request for which there is no response of its own, since it ended early
pub record Unanswered (E : Type 0) : Type 0 where
  pub whole : Whole
  pub trace : List E
  pub error : ApiErr

abbrev pub request_in : Whole → Request
request_in whole = request_of whole.head whole.body

-- the request means a shutdown
abbrev pub IsShutdown : Request → Type 0
IsShutdown request = Means request.method request.target Shutdown

-- How the session ends with the request of this number, counted from 1: a shutdown comes first, then a request that closes the connection, and then the
-- 100,000th
abbrev pub IsStop : ℕ → Request → Option Ended → Type 0
IsStop number request None = (¬ IsShutdown request) × (closes_after request ≡ false) × (number ≢ 100000)
IsStop number request (Some Asked) = IsShutdown request
IsStop number request (Some Closed) = (¬ IsShutdown request) × (closes_after request ≡ true)
IsStop number request (Some Limit) = (¬ IsShutdown request) × (closes_after request ≡ false) × (number ≡ 100000)
IsStop number request (Some other) = ⊥

-- the answered requests in order, the first of which has this number
abbrev pub AreAnswered : {E : Type 0} → (Request → List E → Result Response ApiErr → Type 0) → ℕ → List (Exchanged E) → Type 0
AreAnswered exchange number [] = Unit {0}
AreAnswered exchange number (x ∷ xs) = exchange (request_in x.whole) x.trace (Ok x.response) × IsStop number (request_in x.whole) x.stop × AreAnswered exchange (suc number) xs

-- ---- what is written

-- before the response to a request that asks for it
abbrev pub mark_of : Whole → List ℕ
mark_of whole = if asks whole.head then continue_bytes else []

-- before what is not whole yet, where its head asks for it
abbrev pub IsMark : List ℕ → List ℕ → Type 0
IsMark rest mark = (IsAsking rest × (mark ≡ continue_bytes)) ⊎ ((¬ IsAsking rest) × (mark ≡ []))

-- only the head of the response to a HEAD is sent
abbrev pub is_head : Method → Bool
is_head method.Head = true
is_head _ = false

-- the response to an answered request; one with which the session ends says so
abbrev pub response_bytes : {E : Type 0} → Exchanged E → List ℕ
response_bytes x = written x.response (is_head (request_in x.whole).method) (is_some x.stop)

-- an answered request
abbrev pub answer_bytes : {E : Type 0} → Exchanged E → List ℕ
answer_bytes x = mark_of x.whole ++ response_bytes x

abbrev pub out_of : {E : Type 0} → List (Exchanged E) → List ℕ
out_of done = flat_map answer_bytes done

-- of answered requests the responses alone
abbrev pub responses_of : {E : Type 0} → List (Exchanged E) → List ℕ
responses_of done = flat_map response_bytes done

abbrev pub wholes_of : {E : Type 0} → List (Exchanged E) → List Whole
wholes_of done = map (λ x. x.whole) done

-- the session goes on after all of these
abbrev pub GoesOn : {E : Type 0} → List (Exchanged E) → Type 0
GoesOn done = All (λ x. x.stop ≡ None) done

-- the session ends so with the last of these
pub record StopsWith {E : Type 0} (done : List (Exchanged E)) (ended : Ended) : Type 0 where
  pub before : List (Exchanged E)
  pub last : Exchanged E
  pub going : GoesOn before
  pub stop : last.stop ≡ Some ended
  pub whole : done ≡ before ++ last ∷ []
