-- Requests of the state API: what they are answered, and why.
use Rattle.std.specs.Prelude.{◌≡◌, ◌≢◌, ◌⊎◌, ⊤, ℕ, List, [], ◌∷◌, ◌++◌, None, Ok, Err, flat_map, false, nat_lt}
use Rattle.side_world.specs.Faults.{Rose}
use Rattle.api_routes.specs.declared.route.Route.{Route}
use Rattle.policy_run.specs.declared.outcome.Refusal.{Refusal}
use Rattle.state_core.specs.declared.command.Cmd.{Cmd}
use Rattle.state_core.specs.declared.command.Cmd.TheVariants.{Bulk, Delete, Get, Save, Transact}
use Rattle.state_core.specs.declared.reply.Reply.{Reply}
use Rattle.state_core.specs.declared.reply.Reply.TheVariants as says
use Rattle.state_core.specs.History.{Step, course_of, held_in, last_mark, now_in}
use Rattle.state_core.specs.Reply.{Held, bulk_len, is_spent, judged, size_with, writes_of}
use Rattle.state_core.specs.Moved.{at_moment}
use Rattle.state_core.specs.Fits.{Fits}
use Rattle.state_api.specs.declared.what.What.{What}
use Rattle.state_api.specs.Asked.{Asks}
use Rattle.state_api.specs.declared.running.Ran.TheVariants.{Refused}
use Rattle.state_api.specs.Response.{malformed, response_of, response_to}
use Rattle.sidecar_objects.specs.Doing.{steps_at}
use Rattle.sidecar_objects.specs.Kind.{stores}
use Rattle.sidecar_core.specs.Site.{Site}
use Rattle.sidecar_core.specs.Sites.{IsSite, place_named, sites_of}
use Rattle.sidecar_core.specs.Responses.{no_store}
use Rattle.session_laws.specs.Served.{HasExhausted, HasNoMemory, IsFresh, Served}
use Rattle.session_laws.specs.Asking.{IsTurnedAway}

-- a reply that is a success: what was asked for was read, or done
abbrev pub IsGood : Reply → Type 0
IsGood (says.Value value version) = ⊤
IsGood says.Absent = ⊤
IsGood says.Saved = ⊤
IsGood says.Deleted = ⊤
IsGood (says.Rows rows) = ⊤
IsGood says.Committed = ⊤
IsGood other = ⊥

-- ---- by a store's history

-- what a store holds after these entries, where it held `opening` before them
abbrev pub held_after : Held → List Step → Held
held_after opening before = held_in opening (course_of opening before)

-- the moment of a command that is given then
abbrev pub moment_after : Held → List Step → Cmd → ℕ
moment_after opening before cmd = now_in (course_of opening before) cmd

-- each item of a command is current at its place, and there are versions and room for its writes
pub record MayWriteAll (h : Held) (moment : ℕ) (cmd : Cmd) : Type 0 where
  pub current : (judged h moment cmd).refused ≡ []
  pub versions : is_spent h.next (writes_of h moment cmd) ≡ false
  pub room : nat_lt h.limit (size_with h moment (writes_of h moment cmd)) ≡ false

-- what a store holds stands against nothing that a command asks for
abbrev pub MayBeDone : Held → ℕ → Cmd → Type 0
MayBeDone h moment (Get key now) = ⊤
MayBeDone h moment (Bulk keys skip now) = nat_lt 67108864 (bulk_len h.rows moment keys) ≡ false
MayBeDone h moment (Save items now) = MayWriteAll h moment (Save items now)
MayBeDone h moment (Delete key etag mode now) = MayWriteAll h moment (Delete key etag mode now)
MayBeDone h moment (Transact ops now) = MayWriteAll h moment (Transact ops now)

-- so the reply to a step behind these entries is a success, unless the keeper counted a fault in it, or there was no memory
abbrev pub SucceedsBehind : Held → ℕ → List Step → Step → Type 0
SucceedsBehind opening faults before step =
    MayBeDone (held_after opening before) (moment_after opening before step.cmd) step.cmd → ¬ Rose (last_mark faults before) step.mark → IsGood step.reply ⊎ (step.reply ≡ says.NoMemory)

-- ---- requests

module _ {O : Type 0} (asked : Route) (name : List ℕ) (served : Served O) where
  -- the request means this command at the store of the name, which stands at this place
  pub record IsCommand (place : ℕ) (site : Site) (cmd : Cmd) : Type 0 where
    pub named : IsSite served.config name place site
    pub asks : Asks site.prefix served.request asked (Ok cmd)

  -- the command was given to the store, the last time at this moment, and this is what the store replied then
  pub record HasStoreReplied (cmd : Cmd) (reply : Reply) : Type 0 where
    pub place : ℕ
    pub site : Site
    pub command : IsCommand place site cmd
    pub earlier : List Step
    pub now : ℕ
    pub step : Step
    pub given : step.cmd ≡ at_moment now cmd
    pub fits : Fits step.cmd step.reply
    pub says : step.reply ≡ reply
    pub last : flat_map (steps_at stores place) served.events ≡ earlier ++ step ∷ []

  -- the breaker that is bound to the store turned the command away
  pub record IsStoreGuarded (cmd : Cmd) (refusal : Refusal) : Type 0 where
    pub place : ℕ
    pub site : Site
    pub command : IsCommand place site cmd
    pub away : IsTurnedAway site.bound refusal served.events

  -- the body or the words of the request are malformed
  pub record IsMalformed (what : What) : Type 0 where
    pub place : ℕ
    pub site : Site
    pub named : IsSite served.config name place site
    pub asks : Asks site.prefix served.request asked (Err what)

  -- Why a request of the state API is answered so. For want of memory there is no cause
  pub data IsStateAnswered : Type 0 where
    unknown : place_named name (sites_of served.config) ≡ None → served.events ≡ [] → served.reply ≡ Ok (no_store name) → IsStateAnswered
    wrong : (what : What) → IsMalformed what → served.events ≡ [] → served.reply ≡ Ok (malformed what) → IsStateAnswered
    replied : (cmd : Cmd) (reply : Reply) → reply ≢ says.NoMemory → HasStoreReplied cmd reply → served.reply ≡ Ok (response_to cmd reply) → IsStateAnswered
    refused : (cmd : Cmd) (refusal : Refusal) → IsStoreGuarded cmd refusal → served.reply ≡ Ok (response_of cmd (Refused refusal)) → IsStateAnswered
    exhausted : HasExhausted served → IsStateAnswered
    lacks : HasNoMemory served → IsStateAnswered

  -- there is a store of the name, and the request is not malformed
  pub record IsStateAsked : Type 0 where
    pub place : ℕ
    pub site : Site
    pub there : IsSite served.config name place site
    pub well_formed : (what : What) → ¬ IsMalformed what

  -- Nothing stands against it: no breaker turns it away, no cell is exhausted, and the store's last reply is a success. It is one where the writes are current and the keeper
  -- neither fails nor is full, as the store's definition says
  pub record IsStateUnhindered : Type 0 where
    pub let_through : (cmd : Cmd) (refusal : Refusal) → ¬ IsStoreGuarded cmd refusal
    pub fresh : IsFresh served
    pub good : (cmd : Cmd) (reply : Reply) → HasStoreReplied cmd reply → reply ≢ says.NoMemory → IsGood reply

  -- the success is answered
  pub record IsSucceeded : Type 0 where
    pub cmd : Cmd
    pub reply : Reply
    pub good : IsGood reply
    pub replied : HasStoreReplied cmd reply
    pub said : served.reply ≡ Ok (response_to cmd reply)

  abbrev pub IsAnsweredWhereAllIsWell : Type 0
  IsAnsweredWhereAllIsWell = IsStateAsked → IsStateUnhindered → IsSucceeded ⊎ HasNoMemory served
