-- A state call under what is bound to it, as what was done over all objects.
use Rattle.std.proofs.Common.{◌≡◌, ◌∙◌, ◌<◌, ℕ, List, [], map, set, Option, Some, Result, refl, sym, ap, subst, flat_map, unwrap_or}
use Rattle.std.specs.List.{sum_by}
use Rattle.std.specs.Option.{ForSome}
use mathlib.Core.Option.{some}
use lib.ListN.{get_elem?}
use Rattle.rand_core.specs.Stream.{Stream, next_u64}
use Rattle.side_world.specs.Moments.{Between, Rises, Drawn}
use Rattle.side_world.specs.Told.{Tells}
use Rattle.turn_cell.specs.declared.error.ApiErr.{ApiErr}
use Rattle.turn_cell.specs.Growth.{Grew, EachGrew}
use Rattle.turn_cell.specs.Sitting.{Begun, Sitting}
use Rattle.turn_cell.proofs.Growing.{each_none, each_one}
use Rattle.retry_core.specs.declared.policy.Bound.{Bound}
use Rattle.state_core.specs.declared.command.Cmd.{Cmd}
use Rattle.state_core.specs.declared.reply.Reply.{Reply}
use Rattle.state_core.specs.History.{Step as StoreStep}
use Rattle.breaker_core.specs.declared.breaker.Breaker.{Breaker}
use Rattle.breaker_core.specs.declared.command.BreakerCmd.{BreakerCmd}
use Rattle.breaker_core.specs.declared.command.BreakerReply.{BreakerReply}
use Rattle.breaker_core.specs.Course.{Step as BreakerStep}
use Rattle.policy_run.specs.Event.{Event, own_of, step_of}
use Rattle.policy_run.specs.Effects.{Clocked, Effects}
use Rattle.policy_run.specs.Attempts.{Attempts}
use Rattle.policy_run.specs.declared.outcome.Outcome.{Outcome}
use Rattle.link_call.specs.LinkAt.{LinkAt, Asks, asks_none}
use Rattle.state_api.specs.declared.call.StateAnswer.{StateAnswer}
use Rattle.state_api.specs.declared.running.Ran.{Ran}
use Rattle.state_api.specs.Call.{Makes}
use Rattle.state_api.specs.Ran.{ran_of}
use Rattle.sidecar_objects.specs.declared.doing.Doing.{Doing}
use Rattle.sidecar_objects.specs.declared.doing.Doing.TheVariants.{Stepped}
use Rattle.sidecar_objects.specs.declared.doing.SlotStep.TheVariants.{Store}
use Rattle.sidecar_objects.specs.Kind.{Kinds, CellsAt, SeatsAt, stores, ledgers, breakers, book, turns, ticks, cells_in, seats_in}
use Rattle.sidecar_objects.specs.Doing.{placed, steps_at, asked_in}
use Rattle.sidecar_objects.specs.Did.{Did, Standing}
use Rattle.sidecar_objects.proofs.ByKind.{by_kind}
use Rattle.sidecar_objects.proofs.Laid.{all_here, none_elsewhere, none_of_each, laid_own, laid_steps, laid_words, laid_moments, laid_pauses, laid_ticks}
use Rattle.sidecar_core.specs.Ran.{StoreRan}

-- ---- the events of the call, at their places

module _ (i j : ℕ) (events : List (Event StoreStep)) where
  -- an attempt is a step of the store
  abbrev step : StoreStep → Doing
  step s = Stepped (Store i s)

  stored_here : flat_map (steps_at stores i) (map (placed i j) events) ≡ flat_map own_of events
  stored_here = laid_own step j (steps_at stores i) (λ w. refl) (λ m. refl) (λ ms. refl) (λ s. refl) events ∙ all_here i (flat_map own_of events)

  stored_elsewhere : (k : ℕ) → (k ≡ i → ⊥) → flat_map (steps_at stores k) (map (placed i j) events) ≡ []
  stored_elsewhere k far = laid_own step j (steps_at stores k) (λ w. refl) (λ m. refl) (λ ms. refl) (λ s. refl) events ∙ none_elsewhere i k far (flat_map own_of events)

  entered_nowhere : (k : ℕ) → flat_map (steps_at ledgers k) (map (placed i j) events) ≡ []
  entered_nowhere k = laid_own step j (steps_at ledgers k) (λ w. refl) (λ m. refl) (λ ms. refl) (λ s. refl) events ∙ none_of_each _ (λ s. refl) (flat_map own_of events)

  noted_nowhere : (k : ℕ) → flat_map (steps_at book k) (map (placed i j) events) ≡ []
  noted_nowhere k = laid_own step j (steps_at book k) (λ w. refl) (λ m. refl) (λ ms. refl) (λ s. refl) events ∙ none_of_each _ (λ s. refl) (flat_map own_of events)

  joined_nowhere : (k : ℕ) → flat_map (steps_at turns k) (map (placed i j) events) ≡ []
  joined_nowhere k = laid_own step j (steps_at turns k) (λ w. refl) (λ m. refl) (λ ms. refl) (λ s. refl) events ∙ none_of_each _ (λ s. refl) (flat_map own_of events)

  ticked_nowhere : (k : ℕ) → flat_map (steps_at ticks k) (map (placed i j) events) ≡ []
  ticked_nowhere k = laid_own step j (steps_at ticks k) (λ w. refl) (λ m. refl) (λ ms. refl) (λ s. refl) events ∙ none_of_each _ (λ s. refl) (flat_map own_of events)

  asked_nowhere : flat_map asked_in (map (placed i j) events) ≡ []
  asked_nowhere = laid_own step j asked_in (λ w. refl) (λ m. refl) (λ ms. refl) (λ s. refl) events ∙ none_of_each _ (λ s. refl) (flat_map own_of events)

  broke_here : flat_map (steps_at breakers j) (map (placed i j) events) ≡ flat_map step_of events
  broke_here = laid_steps step j (steps_at breakers j) (λ w. refl) (λ m. refl) (λ ms. refl) (λ s. refl) events ∙ all_here j (flat_map step_of events)

  broke_elsewhere : (k : ℕ) → (k ≡ j → ⊥) → flat_map (steps_at breakers k) (map (placed i j) events) ≡ []
  broke_elsewhere k far = laid_steps step j (steps_at breakers k) (λ w. refl) (λ m. refl) (λ ms. refl) (λ s. refl) events ∙ none_elsewhere j k far (flat_map step_of events)

  -- no breaker was asked
  broke_nowhere : (k : ℕ) → flat_map step_of events ≡ [] → flat_map (steps_at breakers k) (map (placed i j) events) ≡ []
  broke_nowhere k none-asked = laid_steps step j (steps_at breakers k) (λ w. refl) (λ m. refl) (λ ms. refl) (λ s. refl) events ∙ ap (flat_map _) none-asked

-- ---- a state call, at its store and at its breaker

module _ {O : Type 0} (kinds : Kinds O) (cells : CellsAt O) (seats : SeatsAt O) (i j : ℕ) (cell : Begun O) (seat seat' : Sitting O Cmd Reply) (clock clock' : Clocked) (link : LinkAt) (words words' : Stream)
    (at : get_elem? cells.stores i ≡ some cell) (here : get_elem? seats.stores i ≡ some seat) where
  -- a pass with this clock and these words
  abbrev with_these : SeatsAt O → Clocked → Stream → Standing O
  with_these there time stream = record { seats = there; clock = time; link = link; words = stream }

  module _ (held : List BreakerStep → Type 0) (events : List (Event StoreStep)) (e : Effects events (λ xs. Grew (kinds stores) cell.first seat xs seat') held clock clock' (λ ws. Drawn next_u64 words ws words')) where
    did_with : (gates : List (Sitting Breaker BreakerCmd BreakerReply)) → EachGrew (kinds breakers) cells.breakers seats.breakers (λ k. flat_map (steps_at breakers k) (map (placed i j) events)) gates
        → Did kinds cells (with_these seats clock words) (map (placed i j) events) (with_these (record seats { stores = set seats.stores i seat'; breakers = gates }) clock' words')
    did_with gates grew = record {
      grew = by_kind _
          (each_one (kinds stores) cells.stores seats.stores (λ k. flat_map (steps_at stores k) (map (placed i j) events)) i cell seat seat' at here (subst (λ l. Grew (kinds stores) cell.first seat l seat') (sym (stored_here i j events)) e.owned) (λ k far. stored_elsewhere i j events k far))
          (each_none (kinds ledgers) cells.ledgers seats.ledgers (λ k. flat_map (steps_at ledgers k) (map (placed i j) events)) (λ k. entered_nowhere i j events k))
          grew
          (each_none (kinds book) (cells_in cells book) (seats_in seats book) (λ k. flat_map (steps_at book k) (map (placed i j) events)) (λ k. noted_nowhere i j events k))
          (each_none (kinds turns) (cells_in cells turns) (seats_in seats turns) (λ k. flat_map (steps_at turns k) (map (placed i j) events)) (λ k. joined_nowhere i j events k))
          (each_none (kinds ticks) (cells_in cells ticks) (seats_in seats ticks) (λ k. flat_map (steps_at ticks k) (map (placed i j) events)) (λ k. ticked_nowhere i j events k));
      times = subst (λ l. Between clock.last l clock'.last) (sym (laid_moments (step i j events) j (λ s. refl) events)) e.times;
      pauses = subst (λ l. Rises clock.paused (sum_by (λ (n : ℕ). n) l) clock'.paused) (sym (laid_pauses (step i j events) j (λ s. refl) events)) e.pauses;
      ticks = subst (λ l. Tells clock.ticks clock'.ticks l) (sym (laid_ticks (step i j events) j (λ s. refl) events)) e.ticks;
      asked = subst (λ l. Asks link l link) (sym (asked_nowhere i j events)) (asks_none link);
      words = subst (λ l. Drawn next_u64 words l words') (sym (laid_words (step i j events) j (λ s. refl) events)) e.words;
    }

  -- without a breaker
  pub did_plainly : (events : List (Event StoreStep)) → Effects events (λ xs. Grew (kinds stores) cell.first seat xs seat') (λ xs. xs ≡ []) clock clock' (λ ws. Drawn next_u64 words ws words')
      → Did kinds cells (with_these seats clock words) (map (placed i j) events) (with_these (record seats { stores = set seats.stores i seat' }) clock' words')
  did_plainly events e = did_with (λ xs. xs ≡ []) events e seats.breakers (each_none (kinds breakers) cells.breakers seats.breakers (λ k. flat_map (steps_at breakers k) (map (placed i j) events)) (λ k. broke_nowhere i j events k e.guards))

  -- with one
  did_gated : (gate : Begun Breaker) (key key' : Sitting Breaker BreakerCmd BreakerReply) → get_elem? cells.breakers j ≡ some gate → get_elem? seats.breakers j ≡ some key → (events : List (Event StoreStep))
      → Effects events (λ xs. Grew (kinds stores) cell.first seat xs seat') (λ xs. Grew (kinds breakers) gate.first key xs key') clock clock' (λ ws. Drawn next_u64 words ws words')
      → Did kinds cells (with_these seats clock words) (map (placed i j) events) (with_these (record seats { stores = set seats.stores i seat'; breakers = set seats.breakers j key' }) clock' words')
  did_gated gate key key' gate-at key-here events e = did_with (λ xs. Grew (kinds breakers) gate.first key xs key') events e (set seats.breakers j key')
      (each_one (kinds breakers) cells.breakers seats.breakers (λ k. flat_map (steps_at breakers k) (map (placed i j) events)) j gate key key' gate-at key-here (subst (λ l. Grew (kinds breakers) gate.first key l key') (sym (broke_here i j events)) e.guards) (λ k far. broke_elsewhere i j events k far))

-- ---- by what is bound

pub placed_as : (place : ℕ) (bound : Bound) (cmd : Cmd) (result : Result Ran ApiErr) (attempts : List (Event StoreStep)) (outcome : Outcome StateAnswer (Unit {0})) → Attempts bound (λ limit. Makes cmd) outcome attempts → result ≡ ran_of outcome
    → StoreRan place bound cmd (map (placed place (unwrap_or bound.breaker 0)) attempts) result
placed_as place bound cmd result attempts outcome made is = record { attempts = attempts; outcome = outcome; made = made; ran = is; whole = refl }

pub within : (o : Option ℕ) (k : ℕ) → o ≡ Some k → {n : ℕ} → ForSome o (λ p. p < n) → k < n
within o k is {n} all = all k is

module _ {O : Type 0} (kinds : Kinds O) (cells : CellsAt O) (seats : SeatsAt O) (i k : ℕ) (bound : Bound) (is : bound.breaker ≡ Some k) (cell : Begun O) (seat seat' : Sitting O Cmd Reply) (clock clock' : Clocked) (link : LinkAt) (words words' : Stream)
    (at : get_elem? cells.stores i ≡ some cell) (here : get_elem? seats.stores i ≡ some seat) where
  pub did_gated_at : (gate : Begun Breaker) (key key' : Sitting Breaker BreakerCmd BreakerReply) → get_elem? cells.breakers k ≡ some gate → get_elem? seats.breakers k ≡ some key → (events : List (Event StoreStep))
      → Effects events (λ xs. Grew (kinds stores) cell.first seat xs seat') (λ xs. Grew (kinds breakers) gate.first key xs key') clock clock' (λ ws. Drawn next_u64 words ws words')
      → Did kinds cells (record { seats = seats; clock = clock; link = link; words = words }) (map (placed i (unwrap_or bound.breaker 0)) events)
      (record { seats = record seats { stores = set seats.stores i seat'; breakers = set seats.breakers k key' }; clock = clock'; link = link; words = words' })
  did_gated_at gate key key' gate-at key-here events e = subst (λ (o : Option ℕ). Did kinds cells (record { seats = seats; clock = clock; link = link; words = words }) (map (placed i (unwrap_or o 0)) events)
      (record { seats = record seats { stores = set seats.stores i seat'; breakers = set seats.breakers k key' }; clock = clock'; link = link; words = words' })) (sym is)
      (did_gated kinds cells seats i k cell seat seat' clock clock' link words words' at here gate key key' gate-at key-here events e)
