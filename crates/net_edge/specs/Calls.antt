-- What is said of a connection that a call uses, and of those that are kept.
use Rattle.std.specs.Prelude.{◌≡◌, ◌≢◌, ◌<◌, ◌-◌, ◌++◌, ◌∷◌, [], ⊤, ℕ, List, length, All, Bool, true, nat_lt, if◌then◌else◌, Option, Result, Ok, Err, IsOk, IfSome, slice_index_or}
use Rattle.std.specs.List.{AllPairs, filter, remove}
use Rattle.side_base.specs.declared.message.LinkRequest.{LinkRequest}
use Rattle.side_base.specs.declared.message.Response.{Response}
use Rattle.side_world.specs.declared.link.LinkErr.{LinkErr}
use Rattle.side_world.specs.declared.link.LinkErr.TheVariants.{Failed, NoMemory as Lacks}
use Rattle.http_client.specs.declared.reply.Reply.{Reply}
use Rattle.http_client.specs.declared.asking.AskErr.{AskErr}
use Rattle.http_client.specs.declared.asking.AskErr.TheVariants.{Unsent, Unanswered}
use Rattle.http_client.specs.declared.incoming.ReplyErr.TheVariants.{Bad, SourceFailed, NoMemory}
use Rattle.net_edge.specs.CallTimes.{KeepsWhere}
use Rattle.net_edge.specs.declared.call_connection.CallConnection.{CallConnection}

-- the connection goes to the host and port that the request asks for
pub record IsTo (request : LinkRequest) (it : CallConnection) : Type 0 where
  pub host : it.host ≡ request.host
  pub port : it.port ≡ request.port

-- the connection goes elsewhere
abbrev pub IsElsewhere : List ℕ → ℕ → CallConnection → Type 0
IsElsewhere host port it = it.host ≡ host → it.port ≢ port

-- a connection that a call to the request's target may use, which begins now and is over at that moment: it has idled for less than a second
pub record IsReady (request : LinkRequest) (now end : ℕ) (it : CallConnection) : Type 0 where
  pub host : it.host ≡ request.host
  pub port : it.port ≡ request.port
  pub young : now - it.since < 1000
  pub reads : it.source.end ≡ end
  pub writes : it.sink.end ≡ end

-- the two go to different targets
abbrev pub AreApart : CallConnection → CallConnection → Type 0
AreApart one other = IsElsewhere one.host one.port other

-- of each target there is one at most
abbrev pub AreSingle : List CallConnection → Type 0
AreSingle kept = AllPairs AreApart kept

-- it has idled for less than a second
abbrev pub is_young : ℕ → CallConnection → Bool
is_young now it = nat_lt (now - it.since) 1000

-- those that have idled for less than a second
unfoldable pub young : ℕ → List CallConnection → List CallConnection
young now kept = filter (is_young now) kept

-- where there are eight, without the one that was used first
unfoldable pub with_room : List CallConnection → List CallConnection
with_room kept = if nat_lt (length kept) 8 then kept else remove kept 0

-- with one more, whose call ends now
abbrev pub with_one_more : CallConnection → ℕ → List CallConnection → List CallConnection
with_one_more it now kept = with_room kept ++ record it { since = now } ∷ []

-- each of those after was among those before: what all of these pass, all of those do
abbrev pub AreAmong : List CallConnection → List CallConnection → Type 0
AreAmong before after =
    (test : CallConnection → Bool) → All (λ it. test it ≡ true) before → All (λ it. test it ≡ true) after

-- what a call keeps: besides those before, a connection to its target where it was answered
abbrev pub KeepsOwn : LinkRequest → Result Response LinkErr → List CallConnection → List CallConnection → Type 0
KeepsOwn request answer before after =
    (test : CallConnection → Bool) → All (λ it. test it ≡ true) before
    → (IsOk answer → (it : CallConnection) → IsTo request it → test it ≡ true)
    → All (λ it. test it ≡ true) after

-- why a call over this connection has no answer: what its last write failed by where that failed, or its last read; a reply that is none, or want of memory
abbrev pub unanswered : CallConnection → AskErr → LinkErr
unanswered connection Unsent = connection.sink.cause
unanswered connection (Unanswered Bad) = Failed
unanswered connection (Unanswered SourceFailed) = connection.source.cause
unanswered connection (Unanswered NoMemory) = Lacks

-- what a call over this connection answers where the reply is this
abbrev pub Answers : CallConnection → Result Reply AskErr → Result Response LinkErr → Type 0
Answers connection (Ok reply) answer = answer ≡ Ok reply.response
Answers connection (Err why) answer = answer ≡ Err (unanswered connection why)

-- what comes of a call over a connection: its answer, and the connection where its reply says that it may be used again
pub record IsOutcome (request : LinkRequest) (answer : Result Response LinkErr) (left : Option CallConnection) : Type 0 where
  pub reply : Result Reply AskErr
  pub connection : CallConnection
  pub target : IsTo request connection
  pub answers : Answers connection reply answer
  pub keeps : KeepsWhere reply connection left
