-- The call of the own app for a tick of a binding.
use Rattle.std.specs.Prelude.{◌≡◌, ◌<◌, ℕ, Bool, ◌||◌, ◌==◌, if◌then◌else◌, List, [], ◌∷◌, codes, Result, Ok, Err}
use Rattle.std.specs.List.{flat_map}
use Rattle.std.specs.Char.{is_ascii_alphanumeric}
use Rattle.percent_encoding.specs.Percent.{percent_encode_byte}
use Rattle.side_base.specs.declared.message.LinkRequest.{LinkRequest}
use Rattle.side_base.specs.declared.method.Method.TheVariants as method
use Rattle.side_base.specs.declared.message.Response.{Response}
use Rattle.side_world.specs.declared.link.LinkCall.{LinkCall}
use Rattle.turn_cell.specs.declared.error.ApiErr.{ApiErr}
use Rattle.turn_cell.specs.declared.error.ApiErr.TheVariants as error
use Rattle.retry_core.specs.declared.policy.Bound.{Bound}
use Rattle.policy_run.specs.declared.outcome.Outcome.{Outcome}
use Rattle.policy_run.specs.declared.outcome.Outcome.TheVariants.{Good, Bad, Refused, Exhausted, NoMemory}
use Rattle.policy_run.specs.Effects.{Clocked, Times}
use Rattle.policy_run.specs.Event.{Event}
use Rattle.link_call.specs.declared.miss.Miss.{Miss}
use Rattle.link_call.specs.Came.{Came}
use Rattle.link_call.specs.Cause.{IsMissed}
use Rattle.link_call.specs.LinkAt.{LinkAt, Links}
use Rattle.cron_bind.specs.declared.posting.Posted.{Posted}
use Rattle.cron_bind.specs.declared.posting.Posted.TheVariants as posted

-- ---- what is asked

-- a byte that a URI leaves as it is: a letter, a digit, `-`, `.`, `_` or `~` (RFC 3986, section 2.3)
abbrev pub is_unreserved : ℕ → Bool
is_unreserved byte = is_ascii_alphanumeric byte || (byte == 45 || (byte == 46 || (byte == 95 || byte == 126)))

-- any other is `%` and two hexadecimal digits, in upper case (RFC 3986, section 2.1)
abbrev pub escaped_byte : ℕ → List ℕ
escaped_byte byte = if is_unreserved byte then byte ∷ [] else percent_encode_byte byte

unfoldable pub escaped : List ℕ → List ℕ
escaped name = flat_map escaped_byte name

-- a slash, and then the name
abbrev pub target_of : List ℕ → List ℕ
target_of name = 47 ∷ escaped name

abbrev pub request_to : ℕ → List ℕ → LinkRequest
request_to port name = record { host = codes "127.0.0.1"; port = port; method = method.Post; target = target_of name; fields = []; body = [] }

-- ---- what it comes to

abbrev pub told_of : Outcome Response Miss → Result Posted ApiErr
told_of (Good response) = Ok (posted.Good response.status)
told_of (Bad why) = Ok posted.Bad
told_of (Refused refusal) = Ok (posted.Refused refusal)
told_of (Exhausted count) = Err (error.Exhausted count)
told_of NoMemory = Err error.NoMemory

-- ---- all of it

-- The app is called by attempts, and what they come to is told; there may be no memory for the request before anything is done. `ran` says what attempts with an
-- outcome do
pub data Posts {E : Type 0} (ran : LinkRequest → List E → Outcome Response Miss → Type 0) (port : ℕ) (name : List ℕ) (events : List E) (came : Result Posted ApiErr) : Type 0 where
  lacks : events ≡ [] → came ≡ Err error.NoMemory → Posts ran port name events came
  called : (outcome : Outcome Response Miss) → ran (request_to port name) events outcome → came ≡ told_of outcome → Posts ran port name events came

-- the same by calls of a link, under what is bound to the binding
abbrev pub PostsBy : Bound → ℕ → List ℕ → Result Posted ApiErr → Links → Times → List (Event LinkCall) → Type 0
PostsBy bound port name came link clock events = Posts (Came bound link.before link.after clock) port name events came

-- a good call has a status below 500; of one that is told as failed some cause stands: a fault or an expiry of the link, a clock that moved by more than the limit, or a
-- reply's status
abbrev pub HasPosted : Bound → Result Posted ApiErr → LinkAt → LinkAt → Clocked → Clocked → Type 0
HasPosted bound (Ok (posted.Good status)) link link' clock clock' = status < 500
HasPosted bound (Ok posted.Bad) link link' clock clock' = (why : Miss) × IsMissed bound why link link' clock clock'
HasPosted bound (Ok (posted.Refused refusal)) link link' clock clock' = Unit {0}
HasPosted bound (Err e) link link' clock clock' = Unit {0}
