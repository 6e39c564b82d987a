-- The one post of a row, from a call of the link under what is bound to one attempt.
use Rattle.std.proofs.Common.{◌≡◌, ◌≤◌, ◌<◌, ◌+◌, refl, ap, sym, subst, ◌∙◌, arith, cond, ℕ, Bool, true, false, List, [], ◌∷◌, ◌++◌, inl, inr}
use Rattle.std.specs.Prelude.{nat_lt, None, Result, Ok, Err}
use Rattle.side_base.specs.declared.message.LinkRequest.{LinkRequest}
use Rattle.side_base.specs.declared.message.Response.{Response}
use Rattle.side_world.specs.declared.link.LinkCall.{LinkCall}
use Rattle.side_world.specs.declared.link.LinkErr.{LinkErr}
use Rattle.side_world.specs.declared.link.LinkErr.TheVariants as link
use Rattle.breaker_core.specs.declared.command.BreakerReply.{BreakerReply}
use Rattle.retry_core.specs.declared.policy.Bound.{Bound}
use Rattle.policy_run.specs.declared.operation.Attempt.{Attempt}
use Rattle.policy_run.specs.declared.operation.Attempt.TheVariants as attempt
use Rattle.policy_run.specs.declared.outcome.Outcome.{Outcome}
use Rattle.policy_run.specs.declared.outcome.Outcome.TheVariants as outcome
use Rattle.policy_run.specs.declared.outcome.Refusal.TheVariants as refusal
use Rattle.policy_run.specs.Event.{Event, moment}
use Rattle.policy_run.specs.Effects.{Clocked, Times}
use Rattle.policy_run.specs.Attempts.{Ends, Tried as TriedBefore, limit_of}
use Rattle.policy_run.specs.Turn.{Turn as Attempted, CutOff, unasked, unreported, Asks, LetsThrough, IsReported, is_good as is_good_attempt, reply_of}
use Rattle.link_call.specs.declared.miss.Miss.{Miss}
use Rattle.link_call.specs.declared.miss.Miss.TheVariants as miss
use Rattle.link_call.specs.Linked.{Tries, free, timed, heard as heard_by}
use Rattle.link_call.specs.LinkAt.{LinkAt}
use Rattle.link_call.specs.Cause.{HasCause}
use Rattle.link_call.specs.Came.{Came}
use Rattle.delivery_turn.specs.declared.row.Row.{Row}
use Rattle.delivery_turn.specs.Settling.{Own}
use Rattle.delivery_turn.specs.Posting.{Heard, replied, missed, lacked, heard, is_good, request_of, Posts}
use Rattle.delivery_turn.specs.Posting as posting
use Rattle.delivery_turn.specs.Delivery.{Setting, guarded, Sent, Tried}
use Rattle.delivery_turn.specs.Turning.{PostsBy, once}
use Rattle.delivery_turn.proofs.Raised.{raised, raised_append}

-- ---- what is heard

abbrev what_of : Attempt Response Miss → Heard
what_of (attempt.Good response) = replied response
what_of (attempt.Bad miss.Failed) = missed
what_of (attempt.Bad miss.Expired) = missed
what_of (attempt.Bad (miss.Replied response)) = replied response
what_of attempt.NoMemory = lacked

by_either : (response : Response) (b : Bool) → replied response ≡ what_of (cond b (attempt.Good response) (attempt.Bad (miss.Replied response)))
by_either response true = refl
by_either response false = refl

heard_so : (answer : Result Response LinkErr) (late : Bool) → what_of (heard_by answer late) ≡ heard answer late
heard_so (Err link.NoMemory) late = refl
heard_so (Err link.Failed) late = refl
heard_so (Err link.Expired) late = refl
heard_so (Ok response) true = refl
heard_so (Ok response) false = sym (by_either response (nat_lt response.status 500))

-- an attempt's cause: of a reply, that it is one
abbrev IsSound : Attempt Response Miss → Type 0
IsSound (attempt.Good response) = response.status < 500
IsSound (attempt.Bad (miss.Replied response)) = (500 ≤ response.status) × (response.status ≤ 599)
IsSound (attempt.Bad miss.Failed) = Unit {0}
IsSound (attempt.Bad miss.Expired) = Unit {0}
IsSound attempt.NoMemory = Unit {0}

same_good : (answer : Attempt Response Miss) → IsSound answer → is_good_attempt answer ≡ is_good (what_of answer)
same_good (attempt.Good response) sound = search (sound, arith)
same_good (attempt.Bad (miss.Replied response)) sound = search (sound, arith)
same_good (attempt.Bad miss.Failed) sound = refl
same_good (attempt.Bad miss.Expired) sound = refl
same_good attempt.NoMemory sound = refl

-- ---- the parts

lets_raised : (there : Bool) (generation : ℕ) (events : List (Event LinkCall)) → LetsThrough there generation events → LetsThrough there generation (raised events)
lets_raised false generation events none-there = ap raised none-there
lets_raised true generation events (half, asks) = (half, record { now = asks.now; step = asks.step; answers = asks.answers; whole = ap raised asks.whole })

asks_raised : (answer : BreakerReply) (events : List (Event LinkCall)) → Asks answer events → Asks answer (raised events)
asks_raised answer events asks = record { now = asks.now; step = asks.step; answers = asks.answers; whole = ap raised asks.whole }

report_raised : (there : Bool) (generation : ℕ) (good : Bool) (events : List (Event LinkCall)) → IsReported there generation good events → IsReported there generation good (raised events)
report_raised false generation good events none-there = ap raised none-there
report_raised true generation good events told = record { now = told.now; step = told.step; reply = told.reply; answers = told.answers; whole = ap raised told.whole }

-- an attempt, as the app was asked
record Asked (port limit : ℕ) (row : Row) (came : Attempt Response Miss) (events : List (Event Own)) : Type 0 where
  answer : Result Response LinkErr
  late : Bool
  posted : Posts port limit row answer late events
  is_heard : what_of came ≡ heard answer late

asked_by : (port limit : ℕ) (row : Row) (came : Attempt Response Miss) (events : List (Event LinkCall)) → Tries (request_of port row) limit came events → Asked port limit row came (raised events)
asked_by port limit row came events (free answer none-bound is whole) = record { answer = answer; late = false; posted = posting.free none-bound refl (ap raised whole); is_heard = ap what_of is ∙ heard_so answer false }
asked_by port limit row came events (timed before after answer bound is whole) =
    record { answer = answer; late = nat_lt (before + limit) after; posted = posting.timed before after bound refl (ap raised whole); is_heard = ap what_of is ∙ heard_so answer (nat_lt (before + limit) after) }

module _ (setting : Setting) (row : Row) where
  abbrev Makes : Attempt Response Miss → List (Event LinkCall) → Type 0
  Makes came events = Tries (request_of setting.port row) (limit_of setting.bound) came events

  sent_by : (generation : ℕ) (admission post : List (Event LinkCall)) (came : Attempt Response Miss) → LetsThrough (guarded setting) generation admission → Makes came post → Sent setting row generation (what_of came) (raised admission ++ raised post)
  sent_by generation admission post came admitted made =
      let asked = asked_by setting.port (limit_of setting.bound) row came post made in
      record {
        admission = raised admission;
        post = raised post;
        answer = asked.answer;
        late = asked.late;
        admitted = lets_raised (guarded setting) generation admission admitted;
        posted = asked.posted;
        is_heard = asked.is_heard;
        whole = refl;
      }

  pub tried_by : (came : Attempt Response Miss) (events : List (Event LinkCall)) → IsSound came → Attempted (guarded setting) Makes came events → Tried setting row (what_of came) (raised events)
  tried_by came events sound t = record {
    generation = t.generation;
    call = raised t.admission ++ raised t.attempt;
    report = raised t.report;
    sent = sent_by t.generation t.admission t.attempt came t.admitted t.made;
    reported = report_raised (guarded setting) t.generation (is_good (what_of came)) t.report (subst (λ good. IsReported (guarded setting) t.generation good t.report) (same_good came sound) t.reported);
    whole = ap raised t.whole ∙ raised_append (t.admission ++ t.attempt) t.report ∙ ap (λ l. l ++ raised t.report) (raised_append t.admission t.attempt);
  }

  untold_by : (events : List (Event LinkCall)) → guarded setting ≡ true → CutOff Makes events → PostsBy setting row (outcome.Exhausted 0) (raised events)
  untold_by events there (unasked now whole) = inl (there, (now, ap raised whole))
  untold_by events there (unreported admission post generation answer now admitted made whole) = inr (record {
    generation = generation;
    what = what_of answer;
    call = raised admission ++ raised post;
    stuck = moment now ∷ [];
    sent = sent_by generation admission post answer (subst (λ b. LetsThrough b generation admission) (sym there) admitted) made;
    unheard = (there, (now, refl));
    whole = ap raised whole ∙ raised_append (admission ++ post) (moment now ∷ []) ∙ ap (λ l. l ++ moment now ∷ []) (raised_append admission post);
  })

  -- ---- all

  ends_so : (came : Outcome Response Miss) (link link' : LinkAt) (clock clock' : Clocked) (events : List (Event LinkCall)) → HasCause (once setting.bound) came link link' clock clock' → Ends (guarded setting) Makes None [] came events → PostsBy setting row came (raised events)
  ends_so (outcome.Good response) link link' clock clock' events cause t = tried_by (attempt.Good response) events cause.1 t
  ends_so (outcome.Bad (miss.Replied response)) link link' clock clock' events cause t = tried_by (attempt.Bad (miss.Replied response)) events (cause.1, search (cause.0, arith)) t
  ends_so (outcome.Bad miss.Failed) link link' clock clock' events cause t = tried_by (attempt.Bad miss.Failed) events tt t
  ends_so (outcome.Bad miss.Expired) link link' clock clock' events cause t = tried_by (attempt.Bad miss.Expired) events tt t
  ends_so (outcome.Refused why) link link' clock clock' events cause t = (t.0, asks_raised (reply_of why) events t.1)
  ends_so (outcome.Exhausted count) link link' clock clock' events cause t = untold_by events t.0 t.1
  ends_so outcome.NoMemory link link' clock clock' events cause t = inr (tried_by attempt.NoMemory events tt t)

  none_before : (words : List ℕ) (came : Outcome Response Miss) (before last events : List (Event LinkCall)) → TriedBefore (guarded setting) Makes None words before → Ends (guarded setting) Makes None words came last → events ≡ before ++ last
      → Ends (guarded setting) Makes None [] came events
  none_before [] came before last events none-there ends whole = subst (Ends (guarded setting) Makes None [] came) (sym (whole ∙ ap (λ l. l ++ last) none-there)) ends
  none_before (w ∷ words) came before last events tried ends whole = absurd tried

  pub posts_by : (link link' : LinkAt) (clock : Times) (came : Outcome Response Miss) (events : List (Event LinkCall)) → Came (once setting.bound) link link' clock (request_of setting.port row) events came → PostsBy setting row came (raised events)
  posts_by link link' clock came events is =
      ends_so came link link' clock.before clock.after events is.cause (none_before is.attempts.words came is.attempts.before is.attempts.last events is.attempts.tried is.attempts.ends is.attempts.whole)

-- the same, where bound and request are those of the code
pub posts_from : (setting : Setting) (row : Row) (link link' : LinkAt) (clock : Times) (came : Outcome Response Miss) (events : List (Event LinkCall)) (bound : Bound) (request : LinkRequest) → bound ≡ once setting.bound → request ≡ request_of setting.port row
    → Came bound link link' clock request events came → PostsBy setting row came (raised events)
posts_from setting row link link' clock came events bound request its_bound its_request is =
    posts_by setting row link link' clock came events (subst (λ r. Came (once setting.bound) link link' clock r events came) its_request (subst (λ b. Came b link link' clock request events came) its_bound is))

-- a breaker's refusal says a moment within its bounds
pub refused_until : (setting : Setting) (row : Row) (came : Outcome Response Miss) (events : List (Event Own)) (until : ℕ) → PostsBy setting row came events → came ≡ outcome.Refused (refusal.Opened until) → until < 253402300800000 + 31536000000
refused_until setting row came events until posts is = let its = subst (λ o. PostsBy setting row o events) is posts in its.1.answers.fits
