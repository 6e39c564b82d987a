-- What the last attempt of a call of the link made, and what that says of all that was done.
use Rattle.std.proofs.Common.{◌≡◌, ◌≤◌, ◌<◌, ◌+◌, nat_lt, ℕ, Bool, true, false, List, [], ◌∷◌, ◌++◌, map, flat_map, Option, Some, None, Result, Ok, Err, inl, inr, refl, sym, ap, subst, ◌∙◌, append_assoc, is_some, unwrap_or, arith}
use Rattle.std.specs.Prelude.{if◌then◌else◌}
use Rattle.std.proofs.lemmas.Bool.Decides.{nat_tests}
use Rattle.std.proofs.lemmas.Grind.{flat_map-append}
use Rattle.std.proofs.lemmas.List.{map-append}
use Rattle.side_base.specs.declared.message.LinkRequest.{LinkRequest}
use Rattle.side_base.specs.declared.message.Response.{Response}
use Rattle.side_world.specs.declared.link.LinkCall.{LinkCall}
use Rattle.side_world.specs.declared.link.LinkErr.{LinkErr}
use Rattle.side_world.specs.declared.link.LinkErr.TheVariants as link
use Rattle.side_world.specs.Faults.{Rose}
use Rattle.side_world.specs.Link.{CountsFault, CountsExpiry}
use Rattle.retry_core.specs.declared.policy.Bound.{Bound}
use Rattle.retry_core.specs.declared.policy.RetryPolicy.{RetryPolicy}
use Rattle.policy_run.specs.declared.operation.Attempt.{Attempt}
use Rattle.policy_run.specs.declared.operation.Attempt.TheVariants as attempt
use Rattle.policy_run.specs.declared.outcome.Outcome.{Outcome}
use Rattle.policy_run.specs.declared.outcome.Outcome.TheVariants.{Good, Bad, Refused, Exhausted, NoMemory}
use Rattle.policy_run.specs.declared.outcome.Refusal.{Refusal}
use Rattle.policy_run.specs.Event.{Event, own, guarded, moment, word, own_of, step_of}
use Rattle.policy_run.specs.Turn.{Asks as AsksGate, Turn, IsReported, is_good, reply_of}
use Rattle.policy_run.specs.Attempts.{Ends, GivesUp, limit_of}
use Rattle.link_call.specs.declared.miss.Miss.{Miss}
use Rattle.link_call.specs.declared.miss.Miss.TheVariants.{Failed, Expired, Replied}
use Rattle.link_call.specs.Linked.{Tries, free, timed, call_of, heard}
use Rattle.link_call.specs.LinkAt.{Asks, Counted}
use Rattle.sidecar_objects.specs.declared.doing.Doing.{Doing}
use Rattle.sidecar_objects.specs.declared.doing.Doing.TheVariants.{Asked}
use Rattle.sidecar_objects.specs.Doing.{asked_in, laid, steps_at}
use Rattle.sidecar_objects.specs.Did.{Did}
use Rattle.sidecar_objects.specs.Kind.{CellsAt, Kinds, breakers}
use Rattle.sidecar_objects.proofs.Laid.{all_here, laid_own, laid_steps}
use Rattle.sidecar_turns.specs.Ticking.{asked_under}
use Rattle.sidecar_core.specs.Called.{Tried}
use Rattle.session_laws.specs.Served.{Served}
use Rattle.session_laws.specs.Asking.{HasExpiry, HasFault, HasReply, IsLastCall, IsTurnedAway}

abbrev Events : Type 0
Events = List (Event LinkCall)

-- ---- the last call of an attempt

-- around it moments were read that are more than the limit apart
record IsSlow (limit : ℕ) (front back : Events) : Type 0 where
  pub limited : 0 < limit
  pub earlier : Events
  pub begun : ℕ
  pub ended : ℕ
  pub later : Events
  pub apart : begun + limit < ended
  pub front_is : front ≡ earlier ++ moment begun ∷ []
  pub back_is : back ≡ moment ended ∷ later

-- a call of this request is the last of these events, and what was heard of it is what came
record IsLastTry (request : LinkRequest) (limit : ℕ) (came : Attempt Response Miss) (events : Events) : Type 0 where
  pub front : Events
  pub answer : Result Response LinkErr
  pub back : Events
  pub late : Bool
  pub whole : events ≡ front ++ own (call_of request limit answer) ∷ back
  pub alone : flat_map own_of back ≡ []
  pub is : came ≡ heard answer late
  pub slow : late ≡ true → IsSlow limit front back

module _ (request : LinkRequest) (limit : ℕ) (came : Attempt Response Miss) where
  -- something before it
  behind : (before events : Events) → IsLastTry request limit came events → IsLastTry request limit came (before ++ events)
  behind before events l = record {
    front = before ++ l.front;
    answer = l.answer;
    back = l.back;
    late = l.late;
    whole = ap (λ es. before ++ es) l.whole ∙ sym (append_assoc before l.front (own (call_of request limit l.answer) ∷ l.back));
    alone = l.alone;
    is = l.is;
    slow = λ late. let o = l.slow late in record {
      limited = o.limited;
      earlier = before ++ o.earlier;
      begun = o.begun;
      ended = o.ended;
      later = o.later;
      apart = o.apart;
      front_is = ap (λ es. before ++ es) o.front_is ∙ sym (append_assoc before o.earlier (moment o.begun ∷ []));
      back_is = o.back_is;
    };
  }

  -- nothing of a link behind it
  before_none : (events rest : Events) → flat_map own_of rest ≡ [] → IsLastTry request limit came events → IsLastTry request limit came (events ++ rest)
  before_none events rest none l = record {
    front = l.front;
    answer = l.answer;
    back = l.back ++ rest;
    late = l.late;
    whole = ap (λ es. es ++ rest) l.whole ∙ append_assoc l.front (own (call_of request limit l.answer) ∷ l.back) rest;
    alone = flat_map-append own_of l.back rest ∙ (ap (λ xs. xs ++ flat_map own_of rest) l.alone ∙ none);
    is = l.is;
    slow = λ late. let o = l.slow late in record {
      limited = o.limited;
      earlier = o.earlier;
      begun = o.begun;
      ended = o.ended;
      later = o.later ++ rest;
      apart = o.apart;
      front_is = o.front_is;
      back_is = ap (λ es. es ++ rest) o.back_is;
    };
  }

  of_attempt : (events : Events) → Tries request limit came events → IsLastTry request limit came events
  of_attempt events (free answer none is whole) = record { front = []; answer = answer; back = []; late = false; whole = whole; alone = refl; is = is; slow = λ late. absurd (cc) }
  of_attempt events (timed begun ended answer some is whole) = record {
    front = moment begun ∷ [];
    answer = answer;
    back = moment ended ∷ [];
    late = nat_lt (begun + limit) ended;
    whole = whole;
    alone = refl;
    is = is;
    slow = λ late. record { limited = some; earlier = []; begun = begun; ended = ended; later = []; apart = grind (arith, nat_tests, late); front_is = refl; back_is = refl };
  }

  untold : (there : Bool) (generation : ℕ) (good : Bool) (events : Events) → IsReported there generation good events → flat_map own_of events ≡ []
  untold false generation good events none = ap (flat_map own_of) none
  untold true generation good events reports = ap (flat_map own_of) reports.whole

  of_turn : (there : Bool) (events : Events) → Turn there (Tries request limit) came events → IsLastTry request limit came events
  of_turn there events turn =
      subst (IsLastTry request limit came) (sym turn.whole)
      (before_none (turn.admission ++ turn.attempt) turn.report (untold there turn.generation (is_good came) turn.report turn.reported)
      (behind turn.admission turn.attempt (of_attempt turn.attempt turn.made)))

-- ---- the last of some calls

rose_from : (before between after : ℕ) → before ≤ between → Rose between after → Rose before after
rose_from before between after low (inl rose) = inl (omega (arith, low, rose))
rose_from before between after low (inr stopped) = inr stopped

module _ (counts : Result Response LinkErr → ℕ → ℕ → Type 0) (call : LinkCall) where
  -- it moved the count so
  counted_last : (calls : List LinkCall) (before after : ℕ) → Counted counts (calls ++ call ∷ []) before after → (between : ℕ) × (before ≤ between) × counts call.answer between after
  counted_last [] before after counted = (before, omega arith, subst (counts call.answer before) (sym counted.3) counted.1)
  counted_last (first ∷ calls) before after counted =
      let rest = counted_last calls counted.0 after counted.3 in (rest.0, omega (arith, counted.2, rest.1), rest.2)

-- ---- what it says of all that was done

module _ {O : Type 0} (kinds : Kinds O) (cells : CellsAt O) (served : Served O) (bound : Bound) (request : LinkRequest) (events : Events)
    (did : Did kinds cells served.before served.events served.after) (whole : served.events ≡ asked_under bound events) where
  abbrev place : ℕ
  place = unwrap_or bound.breaker 0

  abbrev ask : LinkCall → Doing
  ask call = Asked call

  abbrev as_done : Event LinkCall → Doing
  as_done = laid ask place

  each_call : (calls : List LinkCall) → flat_map (λ call. asked_in (ask call)) calls ≡ calls
  each_call [] = refl
  each_call (call ∷ calls) = ap (λ (l : List LinkCall). call ∷ l) (each_call calls)

  calls_in : (some : Events) → flat_map asked_in (map as_done some) ≡ flat_map own_of some
  calls_in some = laid_own ask place asked_in (λ w. refl) (λ m. refl) (λ ms. refl) (λ step. refl) some ∙ each_call (flat_map own_of some)

  module _ (came : Attempt Response Miss) (l : IsLastTry request (limit_of bound) came events) where
    abbrev call : LinkCall
    call = call_of request (limit_of bound) l.answer

    last_call : IsLastCall call served.events
    last_call = record {
      earlier = map as_done l.front;
      later = map as_done l.back;
      whole = whole ∙ (ap (map as_done) l.whole ∙ map-append as_done l.front (own call ∷ l.back));
      none_later = calls_in l.back ∙ l.alone;
    }

    asks : Asks served.before.link (flat_map own_of l.front ++ call ∷ []) served.after.link
    asks = subst (λ calls. Asks served.before.link calls served.after.link)
        (ap (flat_map asked_in) whole ∙ (calls_in events ∙ (ap (flat_map own_of) l.whole ∙ (flat_map-append own_of l.front (own call ∷ l.back) ∙ ap (λ xs. flat_map own_of l.front ++ call ∷ xs) l.alone)))) did.asked

    has_reply : (response : Response) → l.answer ≡ Ok response → HasReply request served.events response
    has_reply response is = record { call = call; last = last_call; asked = refl; answer = is }

    fault_so : l.answer ≡ Err link.Failed → HasFault served
    fault_so is =
        let last = counted_last CountsFault call (flat_map own_of l.front) served.before.link.faults served.after.link.faults asks.faults in
        rose_from served.before.link.faults last.0 served.after.link.faults last.1 (subst (λ (answer : Result Response LinkErr). CountsFault answer last.0 served.after.link.faults) is last.2)

    expiry_so : l.answer ≡ Err link.Expired → HasExpiry served bound
    expiry_so is =
        let last = counted_last CountsExpiry call (flat_map own_of l.front) served.before.link.expiries served.after.link.expiries asks.expiries in
        inl (rose_from served.before.link.expiries last.0 served.after.link.expiries last.1 (subst (λ (answer : Result Response LinkErr). CountsExpiry answer last.0 served.after.link.expiries) is last.2))

    late_so : l.late ≡ true → HasExpiry served bound
    late_so late = let o = l.slow late in inr (record {
      limited = o.limited;
      earlier = map as_done o.earlier;
      begun = o.begun;
      call = call;
      ended = o.ended;
      later = map as_done o.later;
      whole = whole ∙ (ap (map as_done) (l.whole ∙ (ap (λ es. es ++ own call ∷ l.back) o.front_is ∙ (append_assoc o.earlier (moment o.begun ∷ []) (own call ∷ l.back) ∙ ap (λ es. o.earlier ++ moment o.begun ∷ own call ∷ es) o.back_is)))
          ∙ map-append as_done o.earlier (moment o.begun ∷ own call ∷ moment o.ended ∷ o.later));
      apart = o.apart;
    })

    -- why an attempt came to this
    abbrev IsWhy : Attempt Response Miss → Type 0
    IsWhy (attempt.Good response) = HasReply request served.events response
    IsWhy (attempt.Bad Failed) = HasFault served
    IsWhy (attempt.Bad Expired) = HasExpiry served bound
    IsWhy (attempt.Bad (Replied response)) = HasReply request served.events response
    IsWhy attempt.NoMemory = Unit {0}

    status_so : (response : Response) → l.answer ≡ Ok response → (low : Bool) → IsWhy (if low then attempt.Good response else attempt.Bad (Replied response))
    status_so response is true = has_reply response is
    status_so response is false = has_reply response is

    heard_so : (answer : Result Response LinkErr) (late : Bool) → l.answer ≡ answer → l.late ≡ late → IsWhy (heard answer late)
    heard_so (Ok response) true is late = late_so late
    heard_so (Ok response) false is late = status_so response is (nat_lt response.status 500)
    heard_so (Err link.Failed) late is same = fault_so is
    heard_so (Err link.Expired) late is same = expiry_so is
    heard_so (Err link.NoMemory) late is same = tt

    why : IsWhy came
    why = subst IsWhy (sym l.is) (heard_so l.answer l.late refl refl)

  -- ---- what a call came to

  -- why all attempts came to this
  abbrev pub IsWhyOf : Outcome Response Miss → Type 0
  IsWhyOf (Good response) = HasReply request served.events response
  IsWhyOf (Bad Failed) = HasFault served
  IsWhyOf (Bad Expired) = HasExpiry served bound
  IsWhyOf (Bad (Replied response)) = HasReply request served.events response
  IsWhyOf (Refused refusal) = IsTurnedAway bound refusal served.events
  IsWhyOf (Exhausted count) = Unit {0}
  IsWhyOf NoMemory = Unit {0}

  abbrev makes : Attempt Response Miss → Events → Type 0
  makes = Tries request (limit_of bound)

  gives_up : (there : Bool) (retry : Option RetryPolicy) (words : List ℕ) (bad : Miss) (last : Events) → GivesUp there makes retry words bad last → IsLastTry request (limit_of bound) (attempt.Bad bad) last
  gives_up there None words bad last turn = of_turn request (limit_of bound) (attempt.Bad bad) there last turn
  gives_up there (Some policy) words bad last g =
      subst (IsLastTry request (limit_of bound) (attempt.Bad bad)) (sym g.5) (before_none request (limit_of bound) (attempt.Bad bad) g.0 (word g.1 ∷ []) refl (of_turn request (limit_of bound) (attempt.Bad bad) there g.0 g.3))

  whole_try : (came : Attempt Response Miss) (before last : Events) → events ≡ before ++ last → IsLastTry request (limit_of bound) came last → IsLastTry request (limit_of bound) came events
  whole_try came before last is l = subst (IsLastTry request (limit_of bound) came) (sym is) (behind request (limit_of bound) came before last l)

  missed_so : (bad : Miss) → IsLastTry request (limit_of bound) (attempt.Bad bad) events → IsWhyOf (Bad bad)
  missed_so Failed l = why (attempt.Bad Failed) l
  missed_so Expired l = why (attempt.Bad Expired) l
  missed_so (Replied response) l = why (attempt.Bad (Replied response)) l

  steps_in : (some : Events) → flat_map (steps_at breakers place) (map as_done some) ≡ flat_map step_of some
  steps_in some = laid_steps ask place (steps_at breakers place) (λ w. refl) (λ m. refl) (λ ms. refl) (λ call. refl) some ∙ all_here place (flat_map step_of some)

  turned_away : (refusal : Refusal) (k : ℕ) → bound.breaker ≡ Some k → (before last : Events) → events ≡ before ++ last → AsksGate (reply_of refusal) last → IsTurnedAway bound refusal served.events
  turned_away refusal k is before last parts gate = record {
    place = place;
    is_bound = is ∙ ap (λ (n : ℕ). Some n) (sym (ap (λ (o : Option ℕ). unwrap_or o 0) is));
    earlier = flat_map step_of before;
    now = gate.now;
    step = gate.step;
    asked = gate.answers.cmd;
    answer = gate.answers.reply;
    last = ap (flat_map (steps_at breakers place)) whole ∙ (steps_in events ∙ (ap (flat_map step_of) (parts ∙ ap (λ es. before ++ es) gate.whole) ∙ flat_map-append step_of before (moment gate.now ∷ guarded gate.step ∷ [])));
  }

  bound_so : (breaker : Option ℕ) → is_some breaker ≡ true → (k : ℕ) × (breaker ≡ Some k)
  bound_so None is = absurd (cc)
  bound_so (Some k) is = (k, refl)

  ended_so : (outcome : Outcome Response Miss) (words : List ℕ) (before last : Events) → events ≡ before ++ last → Ends (is_some bound.breaker) makes bound.retry words outcome last → IsWhyOf outcome
  ended_so (Good response) words before last parts ends = why (attempt.Good response) (whole_try (attempt.Good response) before last parts (of_turn request (limit_of bound) (attempt.Good response) (is_some bound.breaker) last ends))
  ended_so (Bad bad) words before last parts ends = missed_so bad (whole_try (attempt.Bad bad) before last parts (gives_up (is_some bound.breaker) bound.retry words bad last ends))
  ended_so (Refused refusal) words before last parts ends = let k = bound_so bound.breaker ends.0 in turned_away refusal k.0 k.1 before last parts ends.1
  ended_so (Exhausted count) words before last parts ends = tt
  ended_so NoMemory words before last parts ends = tt

  pub outcome_so : (outcome : Outcome Response Miss) → Tried bound request events outcome → IsWhyOf outcome
  outcome_so outcome tried = ended_so outcome tried.words tried.before tried.last tried.whole tried.ends
