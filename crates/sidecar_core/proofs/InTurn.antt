-- A call of an actor in its turn, as what was done over all objects, and the status of its response.
use Rattle.std.proofs.Common.{true≢false, ◌≡◌, ◌∙◌, ◌≢◌, ℕ, Bool, true, false, List, [], ◌∷◌, ◌++◌, map, Option, Some, None, Result, Ok, Err, inl, inr, refl, sym, ap, subst, arith, flat_map}
use Rattle.std.specs.Prelude.{IfOk, IsTrue}
use Rattle.std.proofs.lemmas.Grind.{flat_map-append}
use Rattle.http.specs.StatusCode.{IsStatusCode}
use Rattle.rand_core.specs.Stream.{Stream, next_u64}
use Rattle.side_base.specs.declared.message.LinkRequest.{LinkRequest}
use Rattle.side_base.specs.declared.message.Request.{Request}
use Rattle.side_base.specs.declared.message.Response.{Response}
use Rattle.side_world.specs.declared.link.LinkCall.{LinkCall}
use Rattle.side_world.specs.declared.link.LinkErr.{LinkErr}
use Rattle.side_world.specs.declared.link.LinkErr.TheVariants as miss
use Rattle.side_world.specs.Link.{IsReply}
use Rattle.side_world.specs.Moments.{Drawn}
use Rattle.side_world.proofs.Composed.{drawn_nothing}
use Rattle.turn_cell.specs.declared.error.ApiErr.{ApiErr}
use Rattle.turn_cell.specs.Growth.{Grew, EachGrew}
use Rattle.turn_cell.proofs.Growing.{each_none}
use Rattle.policy_run.specs.Event.{Event, own_of}
use Rattle.policy_run.specs.Effects.{AreNone, Clocked, Effects}
use Rattle.link_call.specs.LinkAt.{AreReplies, Asks, LinkAt}
use Rattle.link_call.specs.Passed.{passed_on}
use Rattle.actor_api.specs.Stepping.{Own, TurnsSeat, Went, asked, entered, entered_in}
use Rattle.actor_api.specs.Stepping as own
use Rattle.actor_api.specs.Calling.{Finishes, Invokes, Joins, Replies, TakesTurn}
use Rattle.actor_api.specs.Calling as calling
use Rattle.sidecar_objects.specs.Kind.{Kind, Kinds, CellsAt, SeatsAt, StepOf, stores, ledgers, breakers, book, turns, ticks, cells_in, seats_in}
use Rattle.sidecar_objects.specs.Doing.{laid, steps_at, asked_in, word_in, moment_in, pause_in, tick_in}
use Rattle.sidecar_objects.specs.Did.{Did, Standing}
use Rattle.sidecar_objects.proofs.ByKind.{by_kind}
use Rattle.sidecar_objects.proofs.Laid.{here_at, elsewhere_at, none_of_each}
use Rattle.sidecar_objects.proofs.Single.{one_grew}
use Rattle.sidecar_core.specs.Actors.{does_own}
use Rattle.sidecar_turns.proofs.Over.{IsSilent, asked_by, broke_nowhere, did_laid, entered_by, joined_by, noted_by, stored_by, ticked_by}
use Rattle.sidecar_core.proofs.Statuses.{fine_given}

-- ---- what a test of a name says

pub is_named : (test named : Bool) → test ≡ named → test ≡ true → IsTrue named
is_named test named same is = sym same ∙ is

pub is_unnamed : (test named : Bool) → test ≡ named → test ≡ false → ¬ IsTrue named
is_unnamed test named same is holds = true≢false (sym holds ∙ sym same ∙ is)

-- ---- what a call does of its own

no_word : (e : Own) → word_in (does_own e) ≡ []
no_word (entered step) = refl
no_word (asked call) = refl

no_moment : (e : Own) → moment_in (does_own e) ≡ []
no_moment (entered step) = refl
no_moment (asked call) = refl

no_pause : (e : Own) → pause_in (does_own e) ≡ []
no_pause (entered step) = refl
no_pause (asked call) = refl

no_tick : (e : Own) → tick_in (does_own e) ≡ []
no_tick (entered step) = refl
no_tick (asked call) = refl

in_no_breaker : (k : ℕ) (e : Own) → steps_at breakers k (does_own e) ≡ []
in_no_breaker k (entered step) = refl
in_no_breaker k (asked call) = refl

owns_alone : IsSilent does_own
owns_alone = record { words = no_word; moments = no_moment; pauses = no_pause; ticks = no_tick; breakers = in_no_breaker }

in_no_store : (k : ℕ) (e : Own) → steps_at stores k (does_own e) ≡ []
in_no_store k (entered step) = refl
in_no_store k (asked call) = refl

in_no_ledger : (k : ℕ) (e : Own) → steps_at ledgers k (does_own e) ≡ []
in_no_ledger k (entered step) = refl
in_no_ledger k (asked call) = refl

in_no_book : (k : ℕ) (e : Own) → steps_at book k (does_own e) ≡ []
in_no_book k (entered step) = refl
in_no_book k (asked call) = refl

in_no_ticks : (k : ℕ) (e : Own) → steps_at ticks k (does_own e) ≡ []
in_no_ticks k (entered step) = refl
in_no_ticks k (asked call) = refl

stepped_here : (owns : List Own) → flat_map (λ e. steps_at turns 0 (does_own e)) owns ≡ flat_map entered_in owns
stepped_here [] = refl
stepped_here (entered step ∷ owns) = (λ c. here_at 0 step c ++ stepped_here owns c)
stepped_here (asked call ∷ owns) = stepped_here owns

stepped_elsewhere : (k : ℕ) → k ≢ 0 → (owns : List Own) → flat_map (λ e. steps_at turns k (does_own e)) owns ≡ []
stepped_elsewhere k far [] = refl
stepped_elsewhere k far (entered step ∷ owns) = (λ c. elsewhere_at 0 k far step c ++ stepped_elsewhere k far owns c)
stepped_elsewhere k far (asked call ∷ owns) = stepped_elsewhere k far owns

asked_there : (owns : List Own) → flat_map (λ e. asked_in (does_own e)) owns ≡ flat_map own.asked_in owns
asked_there [] = refl
asked_there (entered step ∷ owns) = asked_there owns
asked_there (asked call ∷ owns) = ap (λ (l : List LinkCall). call ∷ l) (asked_there owns)

-- ---- over all objects

module _ {O : Type 0} (kinds : Kinds O) (cells : CellsAt O) (seats : SeatsAt O) (seat' : TurnsSeat) (clock clock' : Clocked) (link link' : LinkAt) (words : Stream) (events : List (Event Own)) where
  abbrev before : Standing O
  before = record { seats = seats; clock = clock; link = link; words = words }

  abbrev after : Standing O
  after = record { seats = record seats { turns = seat' }; clock = clock'; link = link'; words = words }

  still : (kind : Kind) (made : ℕ → List (StepOf kind)) → ((k : ℕ) → made k ≡ []) → EachGrew (kinds kind) (cells_in cells kind) (seats_in seats kind) made (seats_in seats kind)
  still kind made none-made = each_none (kinds kind) (cells_in cells kind) (seats_in seats kind) made none-made

  -- no random word is drawn
  undrawn : Went (kinds turns) cells.turns (record { seat = seats.turns; link = link; clock = clock }) events (record { seat = seat'; link = link'; clock = clock' })
      → Effects events (own.Did (kinds turns) cells.turns seats.turns seat' link link') AreNone clock clock' (λ ws. Drawn next_u64 words ws words)
  undrawn e = record { owned = e.owned; guards = e.guards; times = e.times; pauses = e.pauses; ticks = e.ticks; words = subst (λ ws. Drawn next_u64 words ws words) (sym e.words) (drawn_nothing next_u64 words) }

  pub did_in_turn : Went (kinds turns) cells.turns (record { seat = seats.turns; link = link; clock = clock }) events (record { seat = seat'; link = link'; clock = clock' }) → Did kinds cells before (map (laid does_own 0) events) after
  did_in_turn e = did_laid does_own owns_alone 0 events kinds cells before after (own.Did (kinds turns) cells.turns seats.turns seat' link link') AreNone (undrawn e)
      (by_kind _
      (still stores _ (λ k. stored_by does_own owns_alone 0 events k ∙ none_of_each _ (in_no_store k) (flat_map own_of events)))
      (still ledgers _ (λ k. entered_by does_own owns_alone 0 events k ∙ none_of_each _ (in_no_ledger k) (flat_map own_of events)))
      (still breakers _ (λ k. broke_nowhere does_own owns_alone 0 events k e.guards))
      (still book _ (λ k. noted_by does_own owns_alone 0 events k ∙ none_of_each _ (in_no_book k) (flat_map own_of events)))
      (one_grew cells.turns seats.turns (kinds turns) seat' (λ k. flat_map (steps_at turns k) (map (laid does_own 0) events))
      (subst (λ l. Grew (kinds turns) cells.turns.first seats.turns l seat') (sym (joined_by does_own owns_alone 0 events 0 ∙ stepped_here (flat_map own_of events))) e.owned.steps)
      (λ k far. joined_by does_own owns_alone 0 events k ∙ stepped_elsewhere k far (flat_map own_of events)))
      (still ticks _ (λ k. ticked_by does_own owns_alone 0 events k ∙ none_of_each _ (in_no_ticks k) (flat_map own_of events))))
      (subst (λ l. Asks link l link') (sym (asked_by does_own owns_alone 0 events ∙ asked_there (flat_map own_of events))) e.owned.calls)

-- ---- the status of the response, where each reply of the link is one

abbrev calls_of : List (Event Own) → List LinkCall
calls_of events = flat_map own.asked_in (flat_map own_of events)

calls_on : (first second : List (Event Own)) → calls_of (first ++ second) ≡ calls_of first ++ calls_of second
calls_on first second = ap (flat_map own.asked_in) (flat_map-append own_of first second) ∙ flat_map-append own.asked_in (flat_map own_of first) (flat_map own_of second)

-- the replies of what comes last are among those of all
last_replies : (first second : List LinkCall) → AreReplies (first ++ second) → AreReplies second
last_replies [] second are = are
last_replies (call ∷ first) second are = last_replies first second are.1

last_are : (events first second : List (Event Own)) → events ≡ first ++ second → AreReplies (calls_of events) → AreReplies (calls_of second)
last_are events first second is are = last_replies (calls_of first) (calls_of second) (subst AreReplies (ap calls_of is ∙ calls_on first second) are)

abbrev IsFine : Result Response ApiErr → Type 0
IsFine reply = IfOk reply (λ response. IsStatusCode response.status)

fine_none : (reply : Result Response ApiErr) (e : ApiErr) → reply ≡ Err e → IsFine reply
fine_none reply e is = subst IsFine (sym is) tt

fine_reply : (answer : Result Response LinkErr) (reply : Result Response ApiErr) → IfOk answer IsReply → Replies answer reply → IsFine reply
fine_reply (Ok response) reply sound replies = fine_given (passed_on response) reply (omega (arith, sound.final), omega (arith, sound.known)) replies
fine_reply (Err miss.Failed) reply sound replies = fine_given _ reply (omega arith, omega arith) replies
fine_reply (Err miss.Expired) reply sound replies = fine_given _ reply (omega arith, omega arith) replies
fine_reply (Err miss.NoMemory) reply sound replies = fine_none reply _ replies

fine_finish : (request : LinkRequest) (ticket : ℕ) (how : _) (events : List (Event Own)) (reply : Result Response ApiErr) → Finishes request ticket how events reply → AreReplies (calls_of events) → IsFine reply
fine_finish request ticket how events reply (calling.called answer leave said leaves replies) are = fine_reply answer said are.0 replies
fine_finish request ticket how events reply (calling.called_unleft answer count) are = tt
fine_finish request ticket how events reply (calling.tired ahead leave said leaves gives) are = fine_given _ said (omega arith, omega arith) gives
fine_finish request ticket how events reply (calling.tired_unleft ahead count) are = tt
fine_finish request ticket how events reply (calling.lost said gives) are = fine_given _ said (omega arith, omega arith) gives
fine_finish request ticket how events reply (calling.unseen count) are = tt

fine_turn : (request : LinkRequest) (ticket : ℕ) (events : List (Event Own)) (reply : Result Response ApiErr) → TakesTurn request ticket events reply → AreReplies (calls_of events) → IsFine reply
fine_turn request ticket events reply turn are = fine_finish request ticket turn.how turn.rest reply turn.finishes (last_are events turn.waiting turn.rest turn.whole are)

fine_join : (request : LinkRequest) (actor : List ℕ) (events : List (Event Own)) (reply : Result Response ApiErr) → Joins request actor events reply → AreReplies (calls_of events) → IsFine reply
fine_join request actor events reply (calling.joined ticket step rest answered takes whole) are = fine_turn request ticket rest reply takes (subst AreReplies (ap calls_of whole) are)
fine_join request actor events reply (calling.full waiting step answered whole gives) are = fine_given _ reply (omega arith, omega arith) gives
fine_join request actor events reply (calling.lacks step answered whole is) are = fine_none reply _ is
fine_join request actor events reply (calling.exhausted count whole is) are = fine_none reply _ is

pub fine_invoked : (port : Option ℕ) (request : Request) (actor : List ℕ) (events : List (Event Own)) (reply : Result Response ApiErr) → Invokes port request actor events reply → AreReplies (calls_of events) → IsFine reply
fine_invoked None request actor events reply gives are = fine_given _ reply (omega arith, omega arith) gives.1
fine_invoked (Some port) request actor events reply (inl none) are = fine_none reply _ none.1
fine_invoked (Some port) request actor events reply (inr joins) are = fine_join _ actor events reply joins are
