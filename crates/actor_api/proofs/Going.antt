-- Steps, pauses and calls of the link, one after the other.
use Rattle.std.proofs.Common.{◌≤◌, ℕ, List, [], ◌∷◌, ◌++◌, flat_map, refl, sym, subst, arith}
use Rattle.std.proofs.lemmas.Grind.{flat_map-append}
use Rattle.side_world.specs.declared.clock.Tick.TheVariants as tick
use Rattle.side_world.specs.declared.link.LinkCall.{LinkCall}
use Rattle.side_world.specs.Moments.{Rises}
use Rattle.side_world.specs.Told.{Tells}
use Rattle.side_world.proofs.Composed.{rises_nothing, tells_nothing}
use Rattle.turn_cell.specs.Growth.{Grew}
use Rattle.turn_cell.specs.Sitting.{Begun, IsSeatOf}
use Rattle.turn_cell.proofs.Growing.{grew_more, grew_none, still_of}
use Rattle.actor_turns.specs.declared.turns.Turns.{Turns}
use Rattle.actor_turns.specs.Course.{Step}
use Rattle.policy_run.specs.Event.{Event, own, pause}
use Rattle.policy_run.specs.Effects.{AreNone, Clocked}
use Rattle.policy_run.proofs.Composed.{effects_on, nothing_at_all}
use Rattle.link_call.specs.LinkAt.{Asks, LinkAt, asks_more, asks_none}
use Rattle.link_call.proofs.Attempting.{Answers, asks_one}
use Rattle.actor_api.specs.Stepping.{At, Did, Does, Own, TurnsGhosts, TurnsSeat, Went, asked, asked_in, entered, entered_in}

-- a clock paused so long
pub record Pauses (clock : Clocked) (ms : ℕ) (clock' : Clocked) : Type 0 where
  pub later : clock.last ≤ clock'.last
  pub paused : Rises clock.paused ms clock'.paused
  pub ticks : Tells clock.ticks clock'.ticks (tick.Paused ms ∷ [])

module _ (object : TurnsGhosts) (cell : Begun Turns) where
  did_on : (at between after : At) (xs ys : List Own) → Did object cell at.seat between.seat at.link between.link xs → Did object cell between.seat after.seat between.link after.link ys → Did object cell at.seat after.seat at.link after.link (xs ++ ys)
  did_on at between after xs ys one two = record {
    steps = subst (λ l. Grew object cell.first at.seat l after.seat) (sym (flat_map-append entered_in xs ys)) (grew_more object cell.first at.seat (flat_map entered_in xs) between.seat (flat_map entered_in ys) after.seat one.steps two.steps);
    calls = subst (λ l. Asks at.link l after.link) (sym (flat_map-append asked_in xs ys)) (asks_more at.link (flat_map asked_in xs) between.link (flat_map asked_in ys) after.link one.calls two.calls);
  }

  pub went_on : (at between after : At) (first second : List (Event Own)) → Went object cell at first between → Went object cell between second after → Went object cell at (first ++ second) after
  went_on at between after first second one two =
      effects_on first second (Did object cell at.seat between.seat at.link between.link) (Did object cell between.seat after.seat between.link after.link) (Did object cell at.seat after.seat at.link after.link) AreNone AreNone AreNone at.clock between.clock after.clock AreNone AreNone AreNone
      (did_on at between after) nothing_at_all nothing_at_all one two

  pub stays : (at after : At) (holds : List (Event Own) → Type 0) → Does object cell at after holds → IsSeatOf cell at.seat → IsSeatOf cell after.seat
  stays at after holds does of = still_of object cell at.seat _ after.seat does.2.owned.steps of

  module _ (seat seat' : TurnsSeat) (link : LinkAt) (clock : Clocked) where
    pub step_went : (step : Step) → Grew object cell.first seat (step ∷ []) seat' → Went object cell (record { seat = seat; link = link; clock = clock }) (own (entered step) ∷ []) (record { seat = seat'; link = link; clock = clock })
    step_went step grew = record { owned = record { steps = grew; calls = asks_none link }; guards = refl; times = omega arith; pauses = rises_nothing clock.paused; ticks = tells_nothing clock.ticks; words = refl }

    pub none_went : Grew object cell.first seat [] seat' → Went object cell (record { seat = seat; link = link; clock = clock }) [] (record { seat = seat'; link = link; clock = clock })
    none_went grew = record { owned = record { steps = grew; calls = asks_none link }; guards = refl; times = omega arith; pauses = rises_nothing clock.paused; ticks = tells_nothing clock.ticks; words = refl }

  pub pause_went : (seat : TurnsSeat) (link : LinkAt) (clock clock' : Clocked) → Pauses clock 10 clock' → Went object cell (record { seat = seat; link = link; clock = clock }) (pause 10 ∷ []) (record { seat = seat; link = link; clock = clock' })
  pause_went seat link clock clock' pauses = record { owned = record { steps = grew_none object cell.first seat; calls = asks_none link }; guards = refl; times = pauses.later; pauses = pauses.paused; ticks = pauses.ticks; words = refl }

  pub call_went : (seat : TurnsSeat) (link link' : LinkAt) (clock : Clocked) (call : LinkCall) → Answers link call link' → Went object cell (record { seat = seat; link = link; clock = clock }) (own (asked call) ∷ []) (record { seat = seat; link = link'; clock = clock })
  call_went seat link link' clock call answers = record { owned = record { steps = grew_none object cell.first seat; calls = asks_one link link' call answers }; guards = refl; times = omega arith; pauses = rises_nothing clock.paused; ticks = tells_nothing clock.ticks; words = refl }
