-- A tick that is taken and posted, as what was done over all objects.
use Rattle.std.proofs.Common.{true≢false, ◌≡◌, ◌∙◌, ◌≢◌, ◌<◌, ◌==◌, ℕ, Bool, true, false, List, [], ◌∷◌, ◌++◌, length, get_or, None, Result, Ok, Err, refl, sym, ap, subst, arith, flat_map}
use Rattle.std.proofs.lemmas.Bool.Decides.{Decides-eqb}
use Rattle.std.proofs.lemmas.List.{get_or_default}
use Rattle.atomic_table.proofs.Lists.{at_index}
use mathlib.Core.Option.{some}
use lib.ListN.{get_elem?}
use Rattle.rand_core.specs.Stream.{Stream, next_u64}
use Rattle.side_world.specs.declared.link.LinkCall.{LinkCall}
use Rattle.side_world.specs.Moments.{Rises}
use Rattle.side_world.proofs.Composed.{drawn_nothing, rises_nothing}
use Rattle.turn_cell.specs.declared.error.ApiErr.{ApiErr}
use Rattle.turn_cell.specs.declared.error.ApiErr.TheVariants as error
use Rattle.turn_cell.specs.declared.error.Exhausted.{Exhausted}
use Rattle.turn_cell.specs.declared.object.Object.{Ghosts}
use Rattle.turn_cell.specs.Growth.{EachGrew, Grew}
use Rattle.turn_cell.specs.Sitting.{Sitting, Extends, Exhausts, entry_by}
use Rattle.turn_cell.proofs.Growing.{called, each_none, exhausted}
use Rattle.policy_run.specs.Event.{Event}
use Rattle.policy_run.specs.Effects.{Clocked, ReadsNow, Times}
use Rattle.policy_run.specs.Attempts.{Attempts}
use Rattle.retry_core.specs.declared.policy.Bound.{Bound}
use Rattle.link_call.specs.Linked.{Tries}
use Rattle.link_call.specs.LinkAt.{LinkAt, Links, asks_none}
use Rattle.cron_ticks.specs.declared.ticks.Ticks.{Ticks}
use Rattle.cron_ticks.specs.declared.command.TicksCmd.{TicksCmd}
use Rattle.cron_ticks.specs.declared.command.TicksCmd.TheVariants.{Take}
use Rattle.cron_ticks.specs.declared.command.TicksReply.{TicksReply}
use Rattle.cron_ticks.specs.declared.command.TicksReply.TheVariants as says
use Rattle.cron_ticks.specs.Schedule.{Step}
use Rattle.cron_ticks.specs.Course.{IsStep}
use Rattle.cron_ticks.specs.Ticks.{schedule_of}
use Rattle.cron_bind.specs.declared.posting.Posted.{Posted}
use Rattle.cron_bind.specs.Posting.{Posts, PostsBy}
use Rattle.cron_bind.specs.Posting as posting
use Rattle.sidecar_objects.specs.declared.doing.Doing.{Doing}
use Rattle.sidecar_objects.specs.declared.doing.Doing.TheVariants.{Stepped, Timed}
use Rattle.sidecar_objects.specs.declared.doing.SlotStep.TheVariants as slot
use Rattle.sidecar_objects.specs.Kind.{Kind, Kinds, CellsAt, SeatsAt, stores, ledgers, breakers, book, turns, ticks, cells_in, seats_in}
use Rattle.sidecar_objects.specs.Doing.{steps_at}
use Rattle.sidecar_objects.specs.Did.{Does, Standing}
use Rattle.sidecar_objects.specs.Composed.{did_on, does_nothing}
use Rattle.sidecar_objects.proofs.ByKind.{by_kind}
use Rattle.sidecar_objects.proofs.Laid.{here_at, elsewhere_at}
use Rattle.sidecar_objects.proofs.Single.{one_grew}
use Rattle.sidecar_turns.specs.declared.cron.Cron.{Cron}
use Rattle.sidecar_turns.specs.declared.ticking.TickTurn.{TickTurn}
use Rattle.sidecar_turns.specs.declared.ticking.TickTurn.TheVariants as turn
use Rattle.sidecar_turns.specs.declared.ticking.Taking.{Taking}
use Rattle.sidecar_turns.specs.declared.ticking.Taking.TheVariants as taking
use Rattle.sidecar_turns.specs.Ticking.{PostsFor, Takes, TakesBy, TicksApp, TicksSome, asked_under, taking_of, turn_of}
use Rattle.sidecar_turns.specs.Ticking as ticking

-- ---- the call of the app

-- what a call came to, without its cause
posted_so : (bound : Bound) (port : ℕ) (name : List ℕ) (came : Result Posted ApiErr) (link : Links) (clock : Times) (events : List (Event LinkCall)) → PostsBy bound port name came link clock events
    → Posts (λ asked tried outcome. Attempts bound (Tries asked) outcome tried) port name events came
posted_so bound port name came link clock events (posting.lacks none is) = posting.lacks none is
posted_so bound port name came link clock events (posting.called outcome ran told) = posting.called outcome ran.attempts told

-- the events of a call, over all objects
pub posted_by : (port : ℕ) (cron : Cron) (came : Result Posted ApiErr) (link : Links) (clock : Times) (attempts : List (Event LinkCall)) → PostsBy cron.bound port cron.name came link clock attempts → PostsFor port cron (asked_under cron.bound attempts) came
posted_by port cron came link clock attempts posts = record { attempts = attempts; posts = posted_so cron.bound port cron.name came link clock attempts posts; whole = refl }

-- ---- the step of the ticks

-- the place of a tick that was given is one of a binding
pub is_there : (object : Ghosts Ticks TicksCmd TicksReply) (first : Ticks) → ((history : List Step) (entry : Step) → object.steps first history entry → IsStep (schedule_of first) history entry)
    → (seat after : Sitting Ticks TicksCmd TicksReply) (cmd : TicksCmd) (reply : TicksReply) → Extends object first seat cmd reply after → (place : ℕ) → taking_of reply ≡ taking.Tick place → place < length (schedule_of first).periods
is_there object first are seat after cmd (says.Idle next) extends place is = absurd (cc)
is_there object first are seat after cmd (says.Tick at number due) extends place is =
    let entry = entry_by seat cmd (says.Tick at number due) extends.mark in
    let step = are (seat.seen ++ extends.others) entry (extends.sound.legal.each (seat.seen ++ extends.others) [] entry (ap (λ (z : Sitting Ticks TicksCmd TicksReply). z.seen) extends.whole)).1 in
    let same : at ≡ place = cc in
    subst (λ n. n < length (schedule_of first).periods) same step.reply.tick.there

module _ {O : Type 0} (kinds : Kinds O) (cells : CellsAt O) (seats : SeatsAt O) (clock clock' : Clocked) (link : LinkAt) (words : Stream) (after : Sitting Ticks TicksCmd TicksReply) (now : ℕ) (reads : ReadsNow clock now clock') where
  abbrev at_seat : Sitting Ticks TicksCmd TicksReply → Clocked → Standing O
  at_seat seat time = record { seats = record seats { ticks = seat }; clock = time; link = link; words = words }

  -- the moment was read, and the seat of the ticks made the steps of these events
  took : (events : List Doing) (made : List Step) → ((k : ℕ) → flat_map (steps_at stores k) events ≡ []) → ((k : ℕ) → flat_map (steps_at ledgers k) events ≡ []) → ((k : ℕ) → flat_map (steps_at breakers k) events ≡ [])
      → ((k : ℕ) → flat_map (steps_at book k) events ≡ []) → ((k : ℕ) → flat_map (steps_at turns k) events ≡ []) → flat_map (steps_at ticks 0) events ≡ made → ((k : ℕ) → k ≢ 0 → flat_map (steps_at ticks k) events ≡ [])
      → Grew (kinds ticks) cells.ticks.first seats.ticks made after → ((kind : Kind) → EachGrew (kinds kind) (cells_in cells kind) (seats_in seats kind) (λ k. flat_map (steps_at kind k) events) (seats_in (record seats { ticks = after }) kind))
  took events made no_store no_ledger no_breaker no_book no_turns here elsewhere grew = by_kind _
      (each_none (kinds stores) cells.stores seats.stores _ no_store)
      (each_none (kinds ledgers) cells.ledgers seats.ledgers _ no_ledger)
      (each_none (kinds breakers) cells.breakers seats.breakers _ no_breaker)
      (each_none (kinds book) (cells_in cells book) (seats_in seats book) _ no_book)
      (each_none (kinds turns) (cells_in cells turns) (seats_in seats turns) _ no_turns)
      (one_grew cells.ticks seats.ticks (kinds ticks) after (λ k. flat_map (steps_at ticks k) events) (subst (λ l. Grew (kinds ticks) cells.ticks.first seats.ticks l after) (sym here) grew) elsewhere)

  stepped_by : (reply : TicksReply) → Extends (kinds ticks) cells.ticks.first seats.ticks (Take now) reply after → Does kinds cells (at_seat seats.ticks clock) (at_seat after clock') (TakesBy (taking_of reply))
  stepped_by reply extends = let step = entry_by seats.ticks (Take now) reply extends.mark in record {
    events = Timed now ∷ Stepped (slot.Ticks step) ∷ [];
    held = ticking.stepped step (record { now = now; asked = refl; whole = refl }) refl;
    went = record {
      grew = took (Timed now ∷ Stepped (slot.Ticks step) ∷ []) (step ∷ []) (λ k. refl) (λ k. refl) (λ k. refl) (λ k. refl) (λ k. refl) (λ i. here_at 0 step i ++ []) (λ k far. (λ i. elsewhere_at 0 k far step i ++ []))
          (called (kinds ticks) cells.ticks.first seats.ticks (Take now) reply after extends);
      times = (omega (arith, reads.later, reads.last), omega (arith, reads.last));
      pauses = subst (Rises clock.paused 0) (sym reads.paused) (rises_nothing clock.paused);
      ticks = reads.ticks;
      asked = asks_none link;
      words = drawn_nothing next_u64 words;
    };
  }

  pub unstepped : (e : Exhausted) → Exhausts (kinds ticks) cells.ticks.first seats.ticks e.count after → Does kinds cells (at_seat seats.ticks clock) (at_seat after clock') (TakesBy (taking.Ended (turn.Exhausted e.count)))
  unstepped e spent = record {
    events = Timed now ∷ [];
    held = ticking.exhausted now e.count refl refl;
    went = record {
      grew = took (Timed now ∷ []) [] (λ k. refl) (λ k. refl) (λ k. refl) (λ k. refl) (λ k. refl) refl (λ k far. refl) (exhausted (kinds ticks) cells.ticks.first seats.ticks e.count after spent);
      times = (omega (arith, reads.later, reads.last), omega (arith, reads.last));
      pauses = subst (Rises clock.paused 0) (sym reads.paused) (rises_nothing clock.paused);
      ticks = reads.ticks;
      asked = asks_none link;
      words = drawn_nothing next_u64 words;
    };
  }

  -- the same, as it goes on
  pub stepped_so : (reply : TicksReply) (taken : Taking) → Extends (kinds ticks) cells.ticks.first seats.ticks (Take now) reply after → taken ≡ taking_of reply → Does kinds cells (at_seat seats.ticks clock) (at_seat after clock') (TakesBy taken)
  stepped_so reply taken extends is = subst (λ t. Does kinds cells (at_seat seats.ticks clock) (at_seat after clock') (TakesBy t)) (sym is) (stepped_by reply extends)

-- no answer says that the cell is exhausted
pub unspent : (reply : TicksReply) (count : ℕ) → taking_of reply ≡ taking.Ended (turn.Exhausted count) → ⊥
unspent (says.Tick at number due) count is = absurd (cc)
unspent (says.Idle next) count is = absurd (cc)

-- a call that came so found its breaker's cell exhausted
pub came_spent : (came : Result Posted ApiErr) (count : ℕ) → turn_of came ≡ turn.Exhausted count → came ≡ Err (error.Exhausted count)
came_spent (Ok posted) count is = absurd (cc)
came_spent (Err error.NoMemory) count is = absurd (cc)
came_spent (Err (error.Exhausted there)) count is = ap {A = ℕ} {B = Result Posted ApiErr} (λ n. Err (error.Exhausted n)) (same is)
  where
    same : turn.Exhausted there ≡ turn.Exhausted count → there ≡ count
    same e = cc

-- ---- which bindings there are

pub nothing_ticks : (crons : List Cron) (test : Bool) → test ≡ (length crons == 0) → test ≡ true → crons ≡ []
nothing_ticks [] test is holds = refl
nothing_ticks (cron ∷ crons) test is holds = let empty = (Decides-eqb (length (cron ∷ crons)) 0).0 (sym is ∙ holds) in absurd (omega (arith, empty))

pub something_ticks : (crons : List Cron) (test : Bool) → test ≡ (length crons == 0) → test ≡ false → ¬ (crons ≡ [])
something_ticks crons test is fails none = absurd (true≢false (sym (is ∙ ap (λ (l : List Cron). length l == 0) none) ∙ fails))

-- the binding at a place
pub cron_there : (crons : List Cron) (place : ℕ) (other : Cron) → place < length crons → get_elem? crons place ≡ some (get_or crons place other)
cron_there crons place other low = at_index crons place (get_or crons place other) low (get_or_default crons place other (get_or crons place other) low)

-- ---- both, one after the other

-- a reply that gives the tick of a place
gives : (place : ℕ) (reply : TicksReply) → taking.Tick place ≡ taking_of reply → (number : ℕ) × (due : ℕ) × (reply ≡ says.Tick place number due)
gives place (says.Tick at number due) is = (number, due, ap (λ n. says.Tick n number due) (same is))
  where
    same : taking.Tick place ≡ taking.Tick at → at ≡ place
    same e = cc
gives place (says.Idle next) is = absurd (cc)

module _ (port : ℕ) (crons : List Cron) where
  posted_for : (place : ℕ) (cron : Cron) (came : Result Posted ApiErr) (first rest : List Doing) → get_elem? crons place ≡ some cron → TakesBy (taking.Tick place) first → PostsFor port cron rest came → TicksApp port crons (first ++ rest) (turn_of came)
  posted_for place cron came first rest there (ticking.stepped step takes is) posts = let given = gives place step.reply is in ticking.ticked step place given.0 given.1 cron first rest came takes given.2 there posts refl refl
  posted_for place cron came first rest there (ticking.exhausted now count whole is) posts = absurd (cc)

  ended_so : (last : TickTurn) (events : List Doing) → TakesBy (taking.Ended last) events → TicksApp port crons events last
  ended_so last events (ticking.stepped step takes is) = by step.reply refl is
    where
      by : (reply : TicksReply) → step.reply ≡ reply → taking.Ended last ≡ taking_of reply → TicksApp port crons events last
      by (says.Tick at number due) answer e = absurd (cc)
      by (says.Idle next) answer e = let same : last ≡ turn.Idle next = cc in ticking.idle step next takes answer same
  ended_so last events (ticking.exhausted now count whole is) = let same : last ≡ turn.Exhausted count = cc in ticking.exhausted now count whole same

  -- where something ticks
  of_some : (events : List Doing) (last : TickTurn) → ¬ (crons ≡ []) → TicksApp port crons events last → TicksSome port crons events last
  of_some events last some-there does = by crons refl
    where
      by : (those : List Cron) → crons ≡ those → TicksSome port those events last
      by [] is = absurd (some-there is)
      by (cron ∷ others) is = subst (λ l. TicksApp port l events last) is does

  module _ {O : Type 0} (kinds : Kinds O) (cells : CellsAt O) (at : Standing O) (some-there : ¬ (crons ≡ [])) where
    pub ticked_app : (between after : Standing O) (place : ℕ) (cron : Cron) (came : Result Posted ApiErr) (last : TickTurn) → last ≡ turn_of came → get_elem? crons place ≡ some cron → Does kinds cells at between (TakesBy (taking.Tick place)) → Does kinds cells between after (λ events. PostsFor port cron events came)
        → Does kinds cells at after (λ events. TicksSome port crons events last)
    ticked_app between after place cron came last is there takes posts = record {
      events = takes.events ++ posts.events;
      held = subst (TicksSome port crons (takes.events ++ posts.events)) (sym is) (of_some (takes.events ++ posts.events) (turn_of came) some-there (posted_for place cron came takes.events posts.events there takes.held posts.held));
      went = did_on kinds cells at takes.events between posts.events after takes.went posts.went;
    }

    pub idle_app : (after : Standing O) (last : TickTurn) → Does kinds cells at after (TakesBy (taking.Ended last)) → Does kinds cells at after (λ events. TicksSome port crons events last)
    idle_app after last takes = record { events = takes.events; held = of_some takes.events last some-there (ended_so last takes.events takes.held); went = takes.went }

  -- where nothing ticks
  pub never_app : {O : Type 0} (kinds : Kinds O) (cells : CellsAt O) (at : Standing O) → crons ≡ [] → Does kinds cells at at (λ events. TicksSome port crons events (turn.Idle None))
  never_app kinds cells at none = does_nothing kinds cells at (λ events. TicksSome port crons events (turn.Idle None)) (subst (λ l. TicksSome port l [] (turn.Idle None)) (sym none) (refl, refl))
