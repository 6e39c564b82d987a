-- Why a call of a link came to what it came to: its last attempt made the last call.
use Rattle.std.proofs.Common.{◌≡◌, ◌≤◌, ◌<◌, ◌+◌, nat_lt, ℕ, Bool, true, false, List, [], ◌∷◌, ◌++◌, flat_map, Option, Some, None, Result, Ok, Err, inl, inr, refl, sym, ap, subst, ◌∙◌, append_assoc, append-nil, is_some, arith}
use Rattle.std.specs.Prelude.{IfOk, ◌⊎◌, if◌then◌else◌}
use Rattle.std.proofs.lemmas.Bool.Decides.{nat_tests}
use Rattle.std.proofs.lemmas.Grind.{flat_map-append}
use Rattle.side_base.specs.declared.message.LinkRequest.{LinkRequest}
use Rattle.side_base.specs.declared.message.Response.{Response}
use Rattle.side_world.specs.declared.link.LinkCall.{LinkCall}
use Rattle.side_world.specs.declared.link.LinkErr.{LinkErr}
use Rattle.side_world.specs.declared.link.LinkErr.TheVariants as link
use Rattle.side_world.specs.Faults.{Rose}
use Rattle.side_world.specs.Link.{CountsFault, CountsExpiry, IsReply}
use Rattle.side_world.specs.Moments.{Between}
use Rattle.side_world.proofs.Composed.{between_rises}
use Rattle.breaker_core.specs.Course.{Step}
use Rattle.retry_core.specs.declared.policy.Bound.{Bound}
use Rattle.retry_core.specs.declared.policy.RetryPolicy.{RetryPolicy}
use Rattle.policy_run.specs.declared.operation.Attempt.{Attempt}
use Rattle.policy_run.specs.declared.operation.Attempt.TheVariants as attempt
use Rattle.policy_run.specs.declared.outcome.Outcome.{Outcome}
use Rattle.policy_run.specs.declared.outcome.Outcome.TheVariants.{Good, Bad, Refused, Exhausted, NoMemory}
use Rattle.policy_run.specs.Event.{Event, own, moment, word, own_of, moment_in}
use Rattle.policy_run.specs.Effects.{Clocked, Effects, Times, Made}
use Rattle.policy_run.specs.Turn.{Turn, IsReported, is_good}
use Rattle.policy_run.specs.Attempts.{Attempted, Attempts, Ends, GivesUp, limit_of}
use Rattle.link_call.specs.declared.miss.Miss.{Miss}
use Rattle.link_call.specs.declared.miss.Miss.TheVariants.{Failed, Expired, Replied}
use Rattle.link_call.specs.Linked.{Tries, free, timed, by_status, call_of, heard}
use Rattle.link_call.specs.LinkAt.{AreReplies, Asks, Counted, LinkAt}
use Rattle.link_call.specs.Cause.{HasCause, IsLate, IsMissed}
use Rattle.link_call.specs.Came.{Came}

abbrev Events : Type 0
Events = List (Event LinkCall)

-- ---- the last call of some events

-- around it a moment was read right before and one right after, which are more than the limit apart
record Overlong (limit : ℕ) (front back : Events) : Type 0 where
  pub some : 0 < limit
  pub earlier : Events
  pub before : ℕ
  pub later : ℕ
  pub others : Events
  pub apart : before + limit < later
  pub front_is : front ≡ earlier ++ moment before ∷ []
  pub back_is : back ≡ moment later ∷ others

-- a call within this limit is the last of these events, and it is what came
record IsLast (limit : ℕ) (came : Attempt Response Miss) (events : Events) : Type 0 where
  pub front : Events
  pub call : LinkCall
  pub back : Events
  pub late : Bool
  pub whole : events ≡ front ++ own call ∷ back
  pub alone : flat_map own_of back ≡ []
  pub is : came ≡ heard call.answer late
  pub overlong : late ≡ true → Overlong limit front back

module _ (limit : ℕ) (came : Attempt Response Miss) where
  -- something before, and nothing of a link behind
  after : (before events : Events) → IsLast limit came events → IsLast limit came (before ++ events)
  after before events l = record {
    front = before ++ l.front;
    call = l.call;
    back = l.back;
    late = l.late;
    whole = ap (λ es. before ++ es) l.whole ∙ sym (append_assoc before l.front (own l.call ∷ l.back));
    alone = l.alone;
    is = l.is;
    overlong = λ late. let o = l.overlong late in record {
      some = o.some;
      earlier = before ++ o.earlier;
      before = o.before;
      later = o.later;
      others = o.others;
      apart = o.apart;
      front_is = ap (λ es. before ++ es) o.front_is ∙ sym (append_assoc before o.earlier (moment o.before ∷ []));
      back_is = o.back_is;
    };
  }

  followed_by : (events behind : Events) → flat_map own_of behind ≡ [] → IsLast limit came events → IsLast limit came (events ++ behind)
  followed_by events behind none l = record {
    front = l.front;
    call = l.call;
    back = l.back ++ behind;
    late = l.late;
    whole = ap (λ es. es ++ behind) l.whole ∙ append_assoc l.front (own l.call ∷ l.back) behind;
    alone = flat_map-append own_of l.back behind ∙ (ap (λ xs. xs ++ flat_map own_of behind) l.alone ∙ none);
    is = l.is;
    overlong = λ late. let o = l.overlong late in record {
      some = o.some;
      earlier = o.earlier;
      before = o.before;
      later = o.later;
      others = o.others ++ behind;
      apart = o.apart;
      front_is = o.front_is;
      back_is = ap (λ es. es ++ behind) o.back_is;
    };
  }

  same_events : (events others : Events) → others ≡ events → IsLast limit came events → IsLast limit came others
  same_events events others same l = subst (IsLast limit came) (sym same) l

  of_attempt : (request : LinkRequest) (events : Events) → Tries request limit came events → IsLast limit came events
  of_attempt request events (free answer none is whole) = record { front = []; call = call_of request limit answer; back = []; late = false; whole = whole; alone = refl; is = is; overlong = λ late. absurd (cc) }
  of_attempt request events (timed before later answer some is whole) = record {
    front = moment before ∷ [];
    call = call_of request limit answer;
    back = moment later ∷ [];
    late = nat_lt (before + limit) later;
    whole = whole;
    alone = refl;
    is = is;
    overlong = λ late. record { some = some; earlier = []; before = before; later = later; others = []; apart = grind (arith, nat_tests, late); front_is = refl; back_is = refl };
  }

  untold : (there : Bool) (generation : ℕ) (good : Bool) (events : Events) → IsReported there generation good events → flat_map own_of events ≡ []
  untold false generation good events none = ap (flat_map own_of) none
  untold true generation good events reports = ap (flat_map own_of) reports.whole

  of_turn : (request : LinkRequest) (there : Bool) (events : Events) → Turn there (Tries request limit) came events → IsLast limit came events
  of_turn request there events turn =
      same_events ((turn.admission ++ turn.attempt) ++ turn.report) events turn.whole
      (followed_by (turn.admission ++ turn.attempt) turn.report (untold there turn.generation (is_good came) turn.report turn.reported)
      (after turn.admission turn.attempt (of_attempt request turn.attempt turn.made)))

-- ---- what it says

-- the last of some calls, whose answer this is, rose the count so
counted_last : (counts : Result Response LinkErr → ℕ → ℕ → Type 0) (calls : List LinkCall) (call : LinkCall) (before later : ℕ) → Counted counts (calls ++ call ∷ []) before later → (between : ℕ) × (before ≤ between) × counts call.answer between later
counted_last counts [] call before later counted = (before, omega arith, subst (counts call.answer before) (sym counted.3) counted.1)
counted_last counts (first ∷ calls) call before later counted =
    let rest = counted_last counts calls call counted.0 later counted.3 in (rest.0, omega (arith, counted.2, rest.1), rest.2)

replied_last : (calls : List LinkCall) (call : LinkCall) → AreReplies (calls ++ call ∷ []) → IfOk call.answer IsReply
replied_last [] call replies = replies.0
replied_last (first ∷ calls) call replies = replied_last calls call replies.1

rose_from : (before between later : ℕ) → before ≤ between → Rose between later → Rose before later
rose_from before between later low (inl rose) = inl (omega (arith, low, rose))
rose_from before between later low (inr stopped) = inr stopped

-- moments in a row
two_moments : (first : ℕ) (earlier : List ℕ) (before later : ℕ) (others : List ℕ) (last : ℕ) → Between first (earlier ++ before ∷ later ∷ others) last → (first ≤ before) × (later ≤ last)
two_moments first [] before later others last between = (between.0, between_rises later others last between.1.1)
two_moments first (early ∷ earlier) before later others last between =
    let rest = two_moments early earlier before later others last between.1 in (omega (arith, between.0, rest.0), rest.1)

module _ (bound : Bound) (at at' : LinkAt) (held : List Step → Type 0) (clock clock' : Clocked) (drawn : List ℕ → Type 0) where
  abbrev Did : Events → Type 0
  Did events = Effects events (λ calls. Asks at calls at') held clock clock' drawn

  module _ (came : Attempt Response Miss) (events : Events) (effects : Did events) (l : IsLast (limit_of bound) came events) where
    calls_are : flat_map own_of events ≡ flat_map own_of l.front ++ l.call ∷ []
    calls_are = ap (flat_map own_of) l.whole ∙ (flat_map-append own_of l.front (own l.call ∷ l.back) ∙ ap (λ xs. flat_map own_of l.front ++ l.call ∷ xs) l.alone)

    asks : Asks at (flat_map own_of l.front ++ l.call ∷ []) at'
    asks = subst (λ calls. Asks at calls at') calls_are effects.owned

    fails_so : l.call.answer ≡ Err link.Failed → Rose at.faults at'.faults
    fails_so is =
        let last = counted_last CountsFault (flat_map own_of l.front) l.call at.faults at'.faults asks.faults in
        rose_from at.faults last.0 at'.faults last.1 (subst (λ (answer : Result Response LinkErr). CountsFault answer last.0 at'.faults) is last.2)

    expires_so : l.call.answer ≡ Err link.Expired → Rose at.expiries at'.expiries
    expires_so is =
        let last = counted_last CountsExpiry (flat_map own_of l.front) l.call at.expiries at'.expiries asks.expiries in
        rose_from at.expiries last.0 at'.expiries last.1 (subst (λ (answer : Result Response LinkErr). CountsExpiry answer last.0 at'.expiries) is last.2)

    replies_so : (response : Response) → l.call.answer ≡ Ok response → IsReply response
    replies_so response is = subst (λ (answer : Result Response LinkErr). IfOk answer IsReply) is (replied_last (flat_map own_of l.front) l.call asks.replies)

    is_late : l.late ≡ true → IsLate bound clock clock'
    is_late late =
        let o = l.overlong late in
        let moments : flat_map moment_in events ≡ flat_map moment_in o.earlier ++ o.before ∷ o.later ∷ flat_map moment_in o.others =
        ap (flat_map moment_in) (l.whole ∙ (ap (λ es. es ++ own l.call ∷ l.back) o.front_is ∙ (append_assoc o.earlier (moment o.before ∷ []) (own l.call ∷ l.back) ∙ ap (λ es. o.earlier ++ moment o.before ∷ own l.call ∷ es) o.back_is)))
        ∙ flat_map-append moment_in o.earlier (moment o.before ∷ own l.call ∷ moment o.later ∷ o.others) in
        let two = two_moments clock.last (flat_map moment_in o.earlier) o.before o.later (flat_map moment_in o.others) clock'.last (subst (λ ms. Between clock.last ms clock'.last) moments effects.times) in
        (o.some, omega (arith, two.0, two.1, o.apart))

    abbrev Cause : Attempt Response Miss → Type 0
    Cause (attempt.Good response) = IsReply response × (response.status < 500)
    Cause (attempt.Bad why) = IsMissed bound why at at' clock clock'
    Cause attempt.NoMemory = Unit {0}

    by_status_so : (response : Response) → l.call.answer ≡ Ok response → (low : Bool) → nat_lt response.status 500 ≡ low → Cause (if low then attempt.Good response else attempt.Bad (Replied response))
    by_status_so response is true low = (replies_so response is, grind (arith, nat_tests, low))
    by_status_so response is false low = (replies_so response is, grind (arith, nat_tests, low))

    heard_so : (answer : Result Response LinkErr) (late : Bool) → l.call.answer ≡ answer → l.late ≡ late → Cause (heard answer late)
    heard_so (Ok response) true is late = inr (is_late late)
    heard_so (Ok response) false is late = by_status_so response is (nat_lt response.status 500) refl
    heard_so (Err link.Failed) late is same = fails_so is
    heard_so (Err link.Expired) late is same = inl (expires_so is)
    heard_so (Err link.NoMemory) late is same = tt

    cause : Cause came
    cause = subst Cause (sym l.is) (heard_so l.call.answer l.late refl refl)

  module _ (request : LinkRequest) (there : Bool) where
    abbrev Makes : Attempt Response Miss → Events → Type 0
    Makes = Tries request (limit_of bound)

    gives_up_last : (retry : Option RetryPolicy) (words : List ℕ) (bad : Miss) (events : Events) → GivesUp there Makes retry words bad events → IsLast (limit_of bound) (attempt.Bad bad) events
    gives_up_last None words bad events turn = of_turn (limit_of bound) (attempt.Bad bad) request there events turn
    gives_up_last (Some policy) words bad events g = same_events (limit_of bound) (attempt.Bad bad) (g.0 ++ word g.1 ∷ []) events g.5 (followed_by (limit_of bound) (attempt.Bad bad) g.0 (word g.1 ∷ []) refl (of_turn (limit_of bound) (attempt.Bad bad) request there g.0 g.3))

    ended_so : (outcome : Outcome Response Miss) (retry : Option RetryPolicy) (words : List ℕ) (before last events : Events) → events ≡ before ++ last → Did events → Ends there Makes retry words outcome last → HasCause bound outcome at at' clock clock'
    ended_so (Good response) retry words before last events whole effects ends =
        cause (attempt.Good response) events effects (same_events (limit_of bound) (attempt.Good response) (before ++ last) events whole (after (limit_of bound) (attempt.Good response) before last (of_turn (limit_of bound) (attempt.Good response) request there last ends)))
    ended_so (Bad why) retry words before last events whole effects ends =
        cause (attempt.Bad why) events effects (same_events (limit_of bound) (attempt.Bad why) (before ++ last) events whole (after (limit_of bound) (attempt.Bad why) before last (gives_up_last retry words why last ends)))
    ended_so (Refused refusal) retry words before last events whole effects ends = tt
    ended_so (Exhausted count) retry words before last events whole effects ends = tt
    ended_so NoMemory retry words before last events whole effects ends = tt

  -- what a call came to has its cause in what the link counts, in the reply, or in the clock
  pub has_cause : (request : LinkRequest) (outcome : Outcome Response Miss) → ((events : Events) × Attempts bound (Tries request) outcome events × Did events) → HasCause bound outcome at at' clock clock'
  has_cause request outcome made = ended_so request (is_some bound.breaker) outcome bound.retry made.1.words made.1.before made.1.last made.0 made.1.whole made.2 made.1.ends

-- the same as one record
pub came_so : (bound : Bound) (at at' : LinkAt) (held : List Step → Type 0) (clock : Times) (drawn : List ℕ → Type 0) (request : LinkRequest) (outcome : Outcome Response Miss)
    → ((events : Events) × Attempts bound (Tries request) outcome events × Effects events (λ calls. Asks at calls at') held clock.before clock.after drawn)
    → (events : Events) × Came bound at at' clock request events outcome × Effects events (λ calls. Asks at calls at') held clock.before clock.after drawn
came_so bound at at' held clock drawn request outcome made = (made.0, record { attempts = made.1; cause = has_cause bound at at' held clock.before clock.after drawn request outcome made }, made.2)
