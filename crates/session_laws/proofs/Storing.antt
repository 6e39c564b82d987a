-- What a request of the state API is answered, and why.
use Rattle.std.proofs.Common.{◌≡◌, ◌≢◌, ◌⊎◌, ◌∙◌, ℕ, Bool, true, false, List, [], ◌∷◌, ◌++◌, map, flat_map, Option, None, Some, Ok, Err, inl, inr, refl, sym, ap, subst, append_assoc, append-nil, is_some, unwrap_or}
use Rattle.std.proofs.lemmas.Grind.{flat_map-append}
use Rattle.side_base.specs.declared.message.Response.{Response}
use Rattle.turn_cell.specs.declared.error.ApiErr.TheVariants as error
use Rattle.api_routes.specs.declared.route.Route.{Route}
use Rattle.api_routes.specs.declared.route.Route.TheVariants as route
use Rattle.retry_core.specs.declared.policy.RetryPolicy.{RetryPolicy}
use Rattle.state_core.specs.declared.command.Cmd.{Cmd}
use Rattle.state_core.specs.declared.reply.Reply.{Reply}
use Rattle.state_core.specs.declared.reply.Reply.TheVariants as says
use Rattle.state_core.specs.History.{Step}
use Rattle.state_core.specs.Moved.{at_moment}
use Rattle.state_core.specs.Fits.{Fits}
use Rattle.policy_run.specs.declared.operation.Attempt.{Attempt}
use Rattle.policy_run.specs.declared.operation.Attempt.TheVariants as attempt
use Rattle.policy_run.specs.declared.outcome.Outcome.{Outcome}
use Rattle.policy_run.specs.declared.outcome.Outcome.TheVariants.{Good, Bad, Refused, Exhausted, NoMemory}
use Rattle.policy_run.specs.declared.outcome.Refusal.{Refusal}
use Rattle.policy_run.specs.Event.{Event, guarded, moment, own_of, step_of, word}
use Rattle.policy_run.specs.Turn.{Asks as AsksGate, IsReported, Turn, is_good, reply_of}
use Rattle.policy_run.specs.Attempts.{Ends, GivesUp}
use Rattle.link_call.specs.Came.{IsOr}
use Rattle.state_api.specs.declared.call.StateAnswer.{StateAnswer}
use Rattle.state_api.specs.declared.call.StateAnswer.TheVariants as answer
use Rattle.state_api.specs.declared.running.Ran.TheVariants as ran
use Rattle.state_api.specs.Asked.{Asks}
use Rattle.state_api.specs.Call.{Makes, answer_of, exhausted, stepped}
use Rattle.state_api.specs.Ran.{ran_of}
use Rattle.state_api.specs.Response.{malformed, response_of, response_to}
use Rattle.sidecar_objects.specs.declared.doing.Doing.{Doing}
use Rattle.sidecar_objects.specs.declared.doing.Doing.TheVariants.{Stepped}
use Rattle.sidecar_objects.specs.declared.doing.SlotStep.TheVariants as slot
use Rattle.sidecar_objects.specs.Doing.{placed, steps_at}
use Rattle.sidecar_objects.specs.Kind.{CellsAt, Kinds, breakers, stores}
use Rattle.sidecar_objects.proofs.Laid.{all_here, laid_own, laid_steps}
use Rattle.sidecar_core.specs.Exchange as at
use Rattle.sidecar_core.specs.Exchange.{Answered, AtStore, AtSite, Called, store_in}
use Rattle.sidecar_core.specs.Responses.{no_store}
use Rattle.sidecar_core.specs.Site.{Site}
use Rattle.sidecar_core.specs.Sites.{IsSite}
use Rattle.sidecar_core.specs.Shown.{some_seat}
use Rattle.session_laws.specs.Served.{HasNoMemory, IsServed, Served}
use Rattle.session_laws.specs.Asking.{IsTurnedAway}
use Rattle.session_laws.specs.States.{HasStoreReplied, IsAnsweredWhereAllIsWell, IsCommand, IsStateAnswered, lacks, refused, replied, unknown, wrong}
use Rattle.session_laws.specs.States.{exhausted as spent}
use Rattle.session_laws.proofs.Routed.{by_route, exhausted_so}

abbrev Events : Type 0
Events = List (Event Step)

-- ---- the last step of the store

-- the command was given to the store, and this is what came of it the last time
record IsLastStep (cmd : Cmd) (came : Attempt StateAnswer (Unit {0})) (events : Events) : Type 0 where
  pub earlier : List Step
  pub now : ℕ
  pub step : Step
  pub given : step.cmd ≡ at_moment now cmd
  pub fits : Fits step.cmd step.reply
  pub is : came ≡ answer_of step.reply
  pub last : flat_map own_of events ≡ earlier ++ step ∷ []

-- or the last attempt found the store's cell exhausted
abbrev IsLast : Cmd → Attempt StateAnswer (Unit {0}) → Events → Type 0
IsLast cmd came events = IsLastStep cmd came events ⊎ ((count : ℕ) × (came ≡ attempt.Good (answer.Exhausted count)))

module _ (cmd : Cmd) (came : Attempt StateAnswer (Unit {0})) where
  behind : (before events : Events) → IsLast cmd came events → IsLast cmd came (before ++ events)
  behind before events (inl l) = inl (record {
    earlier = flat_map own_of before ++ l.earlier;
    now = l.now;
    step = l.step;
    given = l.given;
    fits = l.fits;
    is = l.is;
    last = flat_map-append own_of before events ∙ (ap (λ xs. flat_map own_of before ++ xs) l.last ∙ sym (append_assoc (flat_map own_of before) l.earlier (l.step ∷ [])));
  })
  behind before events (inr none) = inr none

  before_none : (events rest : Events) → flat_map own_of rest ≡ [] → IsLast cmd came events → IsLast cmd came (events ++ rest)
  before_none events rest none (inl l) = inl (record {
    earlier = l.earlier;
    now = l.now;
    step = l.step;
    given = l.given;
    fits = l.fits;
    is = l.is;
    last = flat_map-append own_of events rest ∙ (ap (λ xs. flat_map own_of events ++ xs) none ∙ (append-nil (flat_map own_of events) ∙ l.last));
  })
  before_none events rest none (inr gone) = inr gone

  of_attempt : (events : Events) → Makes cmd came events → IsLast cmd came events
  of_attempt events (stepped now step given fits is whole) = inl (record { earlier = []; now = now; step = step; given = given; fits = fits; is = is; last = ap (flat_map own_of) whole })
  of_attempt events (exhausted now count is whole) = inr (count, is)

  untold : (there : Bool) (generation : ℕ) (good : Bool) (events : Events) → IsReported there generation good events → flat_map own_of events ≡ []
  untold false generation good events none = ap (flat_map own_of) none
  untold true generation good events reports = ap (flat_map own_of) reports.whole

  of_turn : (there : Bool) (events : Events) → Turn there (Makes cmd) came events → IsLast cmd came events
  of_turn there events turn =
      subst (IsLast cmd came) (sym turn.whole)
      (before_none (turn.admission ++ turn.attempt) turn.report (untold there turn.generation (is_good came) turn.report turn.reported)
      (behind turn.admission turn.attempt (of_attempt turn.attempt turn.made)))

-- ---- a request at a store

module _ {O : Type 0} (kinds : Kinds O) (cells : CellsAt O) (asked : Route) (name : List ℕ) (served : Served O) (is : IsServed kinds cells asked served) where
  said_or : (response : Response) → (served.reply ≡ Ok response → IsStateAnswered asked name served) → IsOr response served.reply → IsStateAnswered asked name served
  said_or response so (inl said) = so said
  said_or response so (inr none) = lacks none

  spent_so : (count : ℕ) → served.reply ≡ Err (error.Exhausted count) → IsStateAnswered asked name served
  spent_so count told = spent (exhausted_so kinds cells asked served is count told)

  module _ (place : ℕ) (site : Site) (named : IsSite served.config name place site) (cmd : Cmd) (asks : Asks site.prefix served.request asked (Ok cmd)) (events : Events)
      (whole : served.events ≡ map (placed place (unwrap_or site.bound.breaker 0)) events) where
    abbrev gate : ℕ
    gate = unwrap_or site.bound.breaker 0

    command : IsCommand asked name served place site cmd
    command = record { named = named; asks = asks }

    put : Step → Doing
    put step = Stepped (slot.Store place step)

    steps_in : (some : Events) → flat_map (steps_at stores place) (map (placed place gate) some) ≡ flat_map own_of some
    steps_in some = laid_own (λ step. Stepped (slot.Store place step)) gate (steps_at stores place) (λ w. refl) (λ m. refl) (λ ms. refl) (λ step. refl) some ∙ all_here place (flat_map own_of some)

    gates_in : (some : Events) → flat_map (steps_at breakers gate) (map (placed place gate) some) ≡ flat_map step_of some
    gates_in some = laid_steps (λ step. Stepped (slot.Store place step)) gate (steps_at breakers gate) (λ w. refl) (λ m. refl) (λ ms. refl) (λ step. refl) some ∙ all_here gate (flat_map step_of some)

    replied_so : (reply : Reply) (came : Attempt StateAnswer (Unit {0})) (l : IsLastStep cmd came events) → l.step.reply ≡ reply → HasStoreReplied asked name served cmd reply
    replied_so reply came l says = record {
      place = place;
      site = site;
      command = command;
      earlier = l.earlier;
      now = l.now;
      step = l.step;
      given = l.given;
      fits = l.fits;
      says = says;
      last = ap (flat_map (steps_at stores place)) whole ∙ (steps_in events ∙ l.last);
    }

    -- ---- what the last attempt says

    good_is : (reply other : Reply) → attempt.Good (answer.Replied other) ≡ answer_of reply → (reply ≡ other) × (other ≢ says.NoMemory)
    good_is (says.Value value version) other e = let same : says.Value value version ≡ other = cc in (same, λ none. absurd (cc))
    good_is says.Absent other e = let same : says.Absent ≡ other = cc in (same, λ none. absurd (cc))
    good_is says.Saved other e = let same : says.Saved ≡ other = cc in (same, λ none. absurd (cc))
    good_is (says.SomeRefused places) other e = let same : says.SomeRefused places ≡ other = cc in (same, λ none. absurd (cc))
    good_is says.Deleted other e = let same : says.Deleted ≡ other = cc in (same, λ none. absurd (cc))
    good_is (says.Mismatch at) other e = let same : says.Mismatch at ≡ other = cc in (same, λ none. absurd (cc))
    good_is (says.Rows rows) other e = let same : says.Rows rows ≡ other = cc in (same, λ none. absurd (cc))
    good_is (says.TooLong len) other e = let same : says.TooLong len ≡ other = cc in (same, λ none. absurd (cc))
    good_is says.Committed other e = let same : says.Committed ≡ other = cc in (same, λ none. absurd (cc))
    good_is says.Failed other e = absurd (cc)
    good_is (says.Full len) other e = let same : says.Full len ≡ other = cc in (same, λ none. absurd (cc))
    good_is (says.Spent next) other e = let same : says.Spent next ≡ other = cc in (same, λ none. absurd (cc))
    good_is says.NoMemory other e = absurd (cc)

    bad_is : (reply : Reply) → attempt.Bad tt ≡ answer_of reply → reply ≡ says.Failed
    bad_is says.Failed e = refl
    bad_is says.NoMemory e = absurd (cc)
    bad_is (says.Value value version) e = absurd (cc)
    bad_is says.Absent e = absurd (cc)
    bad_is says.Saved e = absurd (cc)
    bad_is (says.SomeRefused places) e = absurd (cc)
    bad_is says.Deleted e = absurd (cc)
    bad_is (says.Mismatch at) e = absurd (cc)
    bad_is (says.Rows rows) e = absurd (cc)
    bad_is (says.TooLong len) e = absurd (cc)
    bad_is says.Committed e = absurd (cc)
    bad_is (says.Full len) e = absurd (cc)
    bad_is (says.Spent next) e = absurd (cc)

    good_so : (reply : Reply) → IsLast cmd (attempt.Good (answer.Replied reply)) events → IsOr (response_to cmd reply) served.reply → IsStateAnswered asked name served
    good_so reply (inl l) said = let which = good_is l.step.reply reply l.is in said_or (response_to cmd reply) (replied cmd reply which.1 (replied_so reply (attempt.Good (answer.Replied reply)) l which.0)) said
    good_so reply (inr (count, none)) said = absurd (cc)

    bad_so : IsLast cmd (attempt.Bad tt) events → IsOr (response_to cmd says.Failed) served.reply → IsStateAnswered asked name served
    bad_so (inl l) said = said_or (response_to cmd says.Failed) (replied cmd says.Failed (λ none. absurd (cc)) (replied_so says.Failed (attempt.Bad tt) l (bad_is l.step.reply l.is))) said
    bad_so (inr (count, none)) said = absurd (cc)

    -- ---- what all attempts came to

    gives_up : (there : Bool) (retry : Option RetryPolicy) (words : List ℕ) (bad : Unit {0}) (last : Events) → GivesUp there (Makes cmd) retry words bad last → IsLast cmd (attempt.Bad bad) last
    gives_up there None words bad last turn = of_turn cmd (attempt.Bad bad) there last turn
    gives_up there (Some policy) words bad last g = subst (IsLast cmd (attempt.Bad bad)) (sym g.5) (before_none cmd (attempt.Bad bad) g.0 (word g.1 ∷ []) refl (of_turn cmd (attempt.Bad bad) there g.0 g.3))

    whole_last : (came : Attempt StateAnswer (Unit {0})) (before last : Events) → events ≡ before ++ last → IsLast cmd came last → IsLast cmd came events
    whole_last came before last parts l = subst (IsLast cmd came) (sym parts) (behind cmd came before last l)

    turned_away : (refusal : Refusal) (k : ℕ) → site.bound.breaker ≡ Some k → (before last : Events) → events ≡ before ++ last → AsksGate (reply_of refusal) last → IsTurnedAway site.bound refusal served.events
    turned_away refusal k is-k before last parts asks-gate = record {
      place = gate;
      is_bound = is-k ∙ ap (λ (n : ℕ). Some n) (sym (ap (λ (o : Option ℕ). unwrap_or o 0) is-k));
      earlier = flat_map step_of before;
      now = asks-gate.now;
      step = asks-gate.step;
      asked = asks-gate.answers.cmd;
      answer = asks-gate.answers.reply;
      last = ap (flat_map (steps_at breakers gate)) whole ∙ (gates_in events ∙ (ap (flat_map step_of) (parts ∙ ap (λ es. before ++ es) asks-gate.whole) ∙ flat_map-append step_of before (moment asks-gate.now ∷ guarded asks-gate.step ∷ [])));
    }

    bound_so : (breaker : Option ℕ) → is_some breaker ≡ true → (k : ℕ) × (breaker ≡ Some k)
    bound_so None is-there = absurd (cc)
    bound_so (Some k) is-there = (k, refl)

    ended_so : (outcome : Outcome StateAnswer (Unit {0})) (words : List ℕ) (before last : Events) → events ≡ before ++ last → Ends (is_some site.bound.breaker) (Makes cmd) site.bound.retry words outcome last
        → at.Replies cmd (ran_of outcome) served.reply → IsStateAnswered asked name served
    ended_so (Good (answer.Replied reply)) words before last parts ends said =
        good_so reply (whole_last (attempt.Good (answer.Replied reply)) before last parts (of_turn cmd (attempt.Good (answer.Replied reply)) (is_some site.bound.breaker) last ends)) said
    ended_so (Good (answer.Exhausted count)) words before last parts ends said = spent_so count said
    ended_so (Bad bad) words before last parts ends said = bad_so (whole_last (attempt.Bad bad) before last parts (gives_up (is_some site.bound.breaker) site.bound.retry words bad last ends)) said
    ended_so (Refused refusal) words before last parts ends said =
        let k = bound_so site.bound.breaker ends.0 in
        said_or (response_of cmd (ran.Refused refusal)) (refused cmd refusal (record { place = place; site = site; command = command; away = turned_away refusal k.0 k.1 before last parts ends.1 })) said
    ended_so (Exhausted count) words before last parts ends said = spent_so count said
    ended_so NoMemory words before last parts ends said = lacks said

  called_so : (place : ℕ) (site : Site) → IsSite served.config name place site → (cmd : Cmd) → Asks site.prefix served.request asked (Ok cmd) → Called place site.bound cmd served.events served.reply → IsStateAnswered asked name served
  called_so place site named cmd asks called =
      ended_so place site named cmd asks called.steps.attempts called.steps.whole called.steps.outcome called.steps.made.words called.steps.made.before called.steps.made.last called.steps.made.whole called.steps.made.ends
      (subst (λ result. at.Replies cmd result served.reply) called.steps.ran called.replies)

  at_site : (place : ℕ) (site : Site) → IsSite served.config name place site → AtSite (Asks site.prefix served.request asked) place site.bound served.events served.reply → IsStateAnswered asked name served
  at_site place site named (at.lacks none) = lacks none.1
  at_site place site named (at.refused what asks gives) = said_or (malformed what) (wrong what (record { place = place; site = site; named = named; asks = asks }) gives.0) gives.1
  at_site place site named (at.called cmd asks called) = called_so place site named cmd asks called

  at_store : AtStore served.config served.request asked name served.events served.reply → IsStateAnswered asked name served
  at_store (at.unknown none gives) = said_or (no_store name) (unknown none gives.0) gives.1
  at_store (at.found place site named there) = at_site place site named there

  at_name : (way : Route) (store : List ℕ) → ◌≡◌ {A = Option (List ℕ)} (Some store) (Some name) → AtStore served.config served.request way store served.events served.reply → AtStore served.config served.request way name served.events served.reply
  at_name way store same there = subst (λ n. AtStore served.config served.request way n served.events served.reply) (let is : store ≡ name = cc in is) there

  -- a request of the state API is one at the store of its name
  answered_at : (way : Route) → store_in way ≡ Some name → Answered served.config served.request (Ok way) served.events served.reply → AtStore served.config served.request way name served.events served.reply
  answered_at (route.Save store) of there = at_name (route.Save store) store of there
  answered_at (route.Get store key) of there = at_name (route.Get store key) store of there
  answered_at (route.Delete store key) of there = at_name (route.Delete store key) store of there
  answered_at (route.Bulk store) of there = at_name (route.Bulk store) store of there
  answered_at (route.Transact store) of there = at_name (route.Transact store) store of there
  answered_at (route.Invoke app rest) of there = absurd (cc)
  answered_at (route.Publish pubsub topic) of there = absurd (cc)
  answered_at (route.Binding other) of there = absurd (cc)
  answered_at (route.ActorCall actor id) of there = absurd (cc)
  answered_at (route.ActorGet actor id key) of there = absurd (cc)
  answered_at (route.ActorChange actor id) of there = absurd (cc)
  answered_at route.Health of there = absurd (cc)
  answered_at route.Metadata of there = absurd (cc)
  answered_at (route.SetMetadata key) of there = absurd (cc)
  answered_at route.Shutdown of there = absurd (cc)

  pub state_answered : store_in asked ≡ Some name → IsStateAnswered asked name served
  state_answered of = by (by_route kinds cells asked served is)
    where
      by : Answered served.config served.request (Ok asked) served.events served.reply ⊎ HasNoMemory served → IsStateAnswered asked name served
      by (inl answered) = at_store (answered_at asked of answered)
      by (inr none) = lacks none

  -- ---- where all is well

  well_so : IsStateAnswered asked name served → IsAnsweredWhereAllIsWell asked name served
  well_so (unknown none nothing said) known clear = let bad : ◌≡◌ {A = Option ℕ} None (Some known.place) = sym none ∙ known.there.named in absurd (cc)
  well_so (wrong what malformed nothing said) known clear = absurd (known.well_formed what malformed)
  well_so (replied cmd reply some has said) known clear = inl (record { cmd = cmd; reply = reply; good = clear.good cmd reply has some; replied = has; said = said })
  well_so (refused cmd refusal away said) known clear = absurd (clear.let_through cmd refusal away)
  well_so (spent e) known clear = absurd (clear.fresh e.count (some_seat served.config served.after.seats e.count served.request e.shown))
  well_so (lacks none) known clear = inr none

  pub well_answered : store_in asked ≡ Some name → IsAnsweredWhereAllIsWell asked name served
  well_answered of = well_so (state_answered of)
