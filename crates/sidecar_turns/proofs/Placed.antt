-- A turn of delivery on one ledger, as what was done over all objects.
use Rattle.std.proofs.Common.{◌≡◌, ◌∙◌, ◌<◌, ℕ, List, [], ◌∷◌, ◌++◌, map, set, Option, Some, None, refl, sym, ap, subst, flat_map, unwrap_or}
use Rattle.std.specs.List.{sum_by}
use Rattle.std.specs.Option.{ForSome}
use mathlib.Core.Option.{some}
use lib.ListN.{get_elem?}
use Rattle.rand_core.specs.Stream.{Stream, next_u64}
use Rattle.side_world.specs.Moments.{Between, Rises, Drawn}
use Rattle.side_world.specs.Told.{Tells}
use Rattle.turn_cell.specs.Growth.{Grew, EachGrew}
use Rattle.turn_cell.specs.Sitting.{Begun, Sitting}
use Rattle.turn_cell.proofs.Growing.{each_none, each_one}
use Rattle.breaker_core.specs.declared.breaker.Breaker.{Breaker}
use Rattle.breaker_core.specs.declared.command.BreakerCmd.{BreakerCmd}
use Rattle.breaker_core.specs.declared.command.BreakerReply.{BreakerReply}
use Rattle.breaker_core.specs.Course.{Step as BreakerStep}
use Rattle.ledger_core.specs.declared.ledger.Ledger.{Ledger}
use Rattle.ledger_core.specs.declared.command.LedgerCmd.{LedgerCmd}
use Rattle.ledger_core.specs.declared.reply.LedgerReply.{LedgerReply}
use Rattle.policy_run.specs.Event.{Event, own_of, step_of}
use Rattle.policy_run.specs.Effects.{Clocked, Effects}
use Rattle.link_call.specs.LinkAt.{LinkAt, Asks}
use Rattle.delivery_turn.specs.declared.ending.Turn.{Turn}
use Rattle.delivery_turn.specs.Settling.{Own, entered, asked}
use Rattle.delivery_turn.specs.Stepping.{entered_in}
use Rattle.delivery_turn.specs.Stepping as own
use Rattle.delivery_turn.specs.Delivery.{Delivery, Setting}
use Rattle.sidecar_objects.specs.declared.doing.Doing.{Doing}
use Rattle.sidecar_objects.specs.Kind.{Kinds, CellsAt, SeatsAt, stores, ledgers, breakers, book, turns, ticks, cells_in, seats_in}
use Rattle.sidecar_objects.specs.Doing.{laid, steps_at, asked_in, word_in, moment_in, pause_in, tick_in}
use Rattle.sidecar_objects.specs.Did.{Did, Does, Standing}
use Rattle.sidecar_objects.proofs.ByKind.{by_kind}
use Rattle.sidecar_objects.proofs.Laid.{all_here, here_at, elsewhere_at, none_elsewhere, none_of_each, laid_own, laid_steps, laid_words, laid_moments, laid_pauses, laid_ticks}
use Rattle.sidecar_turns.specs.Delivering.{own_at, DeliversAt}

-- ---- what a turn does of its own, at its place

entered_here : (i : ℕ) (owns : List Own) → flat_map (λ e. steps_at ledgers i (own_at i e)) owns ≡ flat_map entered_in owns
entered_here i [] = refl
entered_here i (entered step ∷ owns) = (λ c. here_at i step c ++ entered_here i owns c)
entered_here i (asked call ∷ owns) = entered_here i owns

entered_elsewhere : (i k : ℕ) → (k ≡ i → ⊥) → (owns : List Own) → flat_map (λ e. steps_at ledgers k (own_at i e)) owns ≡ []
entered_elsewhere i k far [] = refl
entered_elsewhere i k far (entered step ∷ owns) = (λ c. elsewhere_at i k far step c ++ entered_elsewhere i k far owns c)
entered_elsewhere i k far (asked call ∷ owns) = entered_elsewhere i k far owns

asked_there : (i : ℕ) (owns : List Own) → flat_map (λ e. asked_in (own_at i e)) owns ≡ flat_map own.asked_in owns
asked_there i [] = refl
asked_there i (entered step ∷ owns) = asked_there i owns
asked_there i (asked call ∷ owns) = ap (λ l. call ∷ l) (asked_there i owns)

-- what is of no ledger and of no link
no_word : (i : ℕ) (e : Own) → word_in (own_at i e) ≡ []
no_word i (entered step) = refl
no_word i (asked call) = refl

no_moment : (i : ℕ) (e : Own) → moment_in (own_at i e) ≡ []
no_moment i (entered step) = refl
no_moment i (asked call) = refl

no_pause : (i : ℕ) (e : Own) → pause_in (own_at i e) ≡ []
no_pause i (entered step) = refl
no_pause i (asked call) = refl

no_tick : (i : ℕ) (e : Own) → tick_in (own_at i e) ≡ []
no_tick i (entered step) = refl
no_tick i (asked call) = refl

no_store : (i k : ℕ) (e : Own) → steps_at stores k (own_at i e) ≡ []
no_store i k (entered step) = refl
no_store i k (asked call) = refl

no_breaker : (i k : ℕ) (e : Own) → steps_at breakers k (own_at i e) ≡ []
no_breaker i k (entered step) = refl
no_breaker i k (asked call) = refl

no_book : (i k : ℕ) (e : Own) → steps_at book k (own_at i e) ≡ []
no_book i k (entered step) = refl
no_book i k (asked call) = refl

no_turns : (i k : ℕ) (e : Own) → steps_at turns k (own_at i e) ≡ []
no_turns i k (entered step) = refl
no_turns i k (asked call) = refl

no_ticks : (i k : ℕ) (e : Own) → steps_at ticks k (own_at i e) ≡ []
no_ticks i k (entered step) = refl
no_ticks i k (asked call) = refl

-- ---- the events of a turn, kind by kind

module _ (i j : ℕ) (events : List (Event Own)) where
  abbrev placed : List Doing
  placed = map (laid (own_at i) j) events

  pub here : flat_map (steps_at ledgers i) placed ≡ flat_map entered_in (flat_map own_of events)
  here = laid_own (own_at i) j (steps_at ledgers i) (λ w. refl) (λ m. refl) (λ ms. refl) (λ s. refl) events ∙ entered_here i (flat_map own_of events)

  pub elsewhere : (k : ℕ) → (k ≡ i → ⊥) → flat_map (steps_at ledgers k) placed ≡ []
  elsewhere k far = laid_own (own_at i) j (steps_at ledgers k) (λ w. refl) (λ m. refl) (λ ms. refl) (λ s. refl) events ∙ entered_elsewhere i k far (flat_map own_of events)

  pub at_no_store : (k : ℕ) → flat_map (steps_at stores k) placed ≡ []
  at_no_store k = laid_own (own_at i) j (steps_at stores k) (λ w. refl) (λ m. refl) (λ ms. refl) (λ s. refl) events ∙ none_of_each _ (no_store i k) (flat_map own_of events)

  pub in_no_book : (k : ℕ) → flat_map (steps_at book k) placed ≡ []
  in_no_book k = laid_own (own_at i) j (steps_at book k) (λ w. refl) (λ m. refl) (λ ms. refl) (λ s. refl) events ∙ none_of_each _ (no_book i k) (flat_map own_of events)

  pub in_no_turns : (k : ℕ) → flat_map (steps_at turns k) placed ≡ []
  in_no_turns k = laid_own (own_at i) j (steps_at turns k) (λ w. refl) (λ m. refl) (λ ms. refl) (λ s. refl) events ∙ none_of_each _ (no_turns i k) (flat_map own_of events)

  pub in_no_ticks : (k : ℕ) → flat_map (steps_at ticks k) placed ≡ []
  in_no_ticks k = laid_own (own_at i) j (steps_at ticks k) (λ w. refl) (λ m. refl) (λ ms. refl) (λ s. refl) events ∙ none_of_each _ (no_ticks i k) (flat_map own_of events)

  pub calls : flat_map asked_in placed ≡ flat_map own.asked_in (flat_map own_of events)
  calls = laid_own (own_at i) j asked_in (λ w. refl) (λ m. refl) (λ ms. refl) (λ s. refl) events ∙ asked_there i (flat_map own_of events)

  pub breaker : flat_map (steps_at breakers j) placed ≡ flat_map step_of events
  breaker = laid_steps (own_at i) j (steps_at breakers j) (λ w. refl) (λ m. refl) (λ ms. refl) (no_breaker i j) events ∙ all_here j (flat_map step_of events)

  pub other_breaker : (k : ℕ) → (k ≡ j → ⊥) → flat_map (steps_at breakers k) placed ≡ []
  other_breaker k far = laid_steps (own_at i) j (steps_at breakers k) (λ w. refl) (λ m. refl) (λ ms. refl) (no_breaker i k) events ∙ none_elsewhere j k far (flat_map step_of events)

  -- none was asked
  at_no_breaker : (k : ℕ) → flat_map step_of events ≡ [] → flat_map (steps_at breakers k) placed ≡ []
  at_no_breaker k none-asked = laid_steps (own_at i) j (steps_at breakers k) (λ w. refl) (λ m. refl) (λ ms. refl) (no_breaker i k) events ∙ ap (flat_map _) none-asked

-- ---- a turn, at its ledger and at its breaker

module _ {O : Type 0} (kinds : Kinds O) (cells : CellsAt O) (seats : SeatsAt O) (i j : ℕ) (cell : Begun Ledger) (seat seat' : Sitting Ledger LedgerCmd LedgerReply) (clock clock' : Clocked) (link link' : LinkAt) (words words' : Stream)
    (at : get_elem? cells.ledgers i ≡ some cell) (there : get_elem? seats.ledgers i ≡ some seat) where
  -- before it, and after it with these breakers' seats
  abbrev before : Standing O
  before = record { seats = seats; clock = clock; link = link; words = words }

  abbrev after : List (Sitting Breaker BreakerCmd BreakerReply) → Standing O
  after gates = record { seats = record seats { ledgers = set seats.ledgers i seat'; breakers = gates }; clock = clock'; link = link'; words = words' }

  module _ (held : List BreakerStep → Type 0) (events : List (Event Own)) (e : Effects events (own.Did (kinds ledgers) cell seat seat' link link') held clock clock' (λ ws. Drawn next_u64 words ws words')) where
    did_with : (gates : List (Sitting Breaker BreakerCmd BreakerReply)) → EachGrew (kinds breakers) cells.breakers seats.breakers (λ k. flat_map (steps_at breakers k) (placed i j events)) gates → Did kinds cells before (placed i j events) (after gates)
    did_with gates grew = record {
      grew = by_kind _
          (each_none (kinds stores) cells.stores seats.stores (λ k. flat_map (steps_at stores k) (placed i j events)) (λ k. at_no_store i j events k))
          (each_one (kinds ledgers) cells.ledgers seats.ledgers (λ k. flat_map (steps_at ledgers k) (placed i j events)) i cell seat seat' at there (subst (λ l. Grew (kinds ledgers) cell.first seat l seat') (sym (here i j events)) e.owned.steps) (λ k far. elsewhere i j events k far))
          grew
          (each_none (kinds book) (cells_in cells book) (seats_in seats book) (λ k. flat_map (steps_at book k) (placed i j events)) (λ k. in_no_book i j events k))
          (each_none (kinds turns) (cells_in cells turns) (seats_in seats turns) (λ k. flat_map (steps_at turns k) (placed i j events)) (λ k. in_no_turns i j events k))
          (each_none (kinds ticks) (cells_in cells ticks) (seats_in seats ticks) (λ k. flat_map (steps_at ticks k) (placed i j events)) (λ k. in_no_ticks i j events k));
      times = subst (λ l. Between clock.last l clock'.last) (sym (laid_moments (own_at i) j (no_moment i) events)) e.times;
      pauses = subst (λ l. Rises clock.paused (sum_by (λ (n : ℕ). n) l) clock'.paused) (sym (laid_pauses (own_at i) j (no_pause i) events)) e.pauses;
      ticks = subst (λ l. Tells clock.ticks clock'.ticks l) (sym (laid_ticks (own_at i) j (no_tick i) events)) e.ticks;
      asked = subst (λ l. Asks link l link') (sym (calls i j events)) e.owned.calls;
      words = subst (λ l. Drawn next_u64 words l words') (sym (laid_words (own_at i) j (no_word i) events)) e.words;
    }

  -- without a breaker
  pub did_plainly : (events : List (Event Own)) → Effects events (own.Did (kinds ledgers) cell seat seat' link link') (λ xs. xs ≡ []) clock clock' (λ ws. Drawn next_u64 words ws words') → Did kinds cells before (placed i j events) (after seats.breakers)
  did_plainly events e = did_with (λ xs. xs ≡ []) events e seats.breakers (each_none (kinds breakers) cells.breakers seats.breakers (λ k. flat_map (steps_at breakers k) (placed i j events)) (λ k. at_no_breaker i j events k e.guards))

  -- with one
  pub did_gated : (gate : Begun Breaker) (key key' : Sitting Breaker BreakerCmd BreakerReply) → get_elem? cells.breakers j ≡ some gate → get_elem? seats.breakers j ≡ some key → (events : List (Event Own))
      → Effects events (own.Did (kinds ledgers) cell seat seat' link link') (λ xs. Grew (kinds breakers) gate.first key xs key') clock clock' (λ ws. Drawn next_u64 words ws words') → Did kinds cells before (placed i j events) (after (set seats.breakers j key'))
  did_gated gate key key' gate-at key-there events e = did_with (λ xs. Grew (kinds breakers) gate.first key xs key') events e (set seats.breakers j key')
      (each_one (kinds breakers) cells.breakers seats.breakers (λ k. flat_map (steps_at breakers k) (placed i j events)) j gate key key' gate-at key-there (subst (λ l. Grew (kinds breakers) gate.first key l key') (sym (breaker i j events)) e.guards) (λ k far. other_breaker i j events k far))

  -- ---- by what is bound

  module _ (setting : Setting) (turn : Turn) where
    pub turned_plainly : setting.bound.breaker ≡ None → j ≡ 0 → (events : List (Event Own)) → Delivery setting events turn → Effects events (own.Did (kinds ledgers) cell seat seat' link link') (λ xs. xs ≡ []) clock clock' (λ ws. Drawn next_u64 words ws words')
        → Does kinds cells before (after seats.breakers) (λ done. DeliversAt i setting done turn)
    turned_plainly none zero-is events delivery e =
        let bound : j ≡ unwrap_or setting.bound.breaker 0 = zero-is ∙ ap (λ (o : Option ℕ). unwrap_or o 0) (sym none) in record {
          events = placed i j events;
          held = record { did = events; delivers = delivery; whole = ap (λ k. map (laid (own_at i) k) events) bound };
          went = did_plainly events e;
        }

    pub turned_gated : setting.bound.breaker ≡ Some j → (gate : Begun Breaker) (key key' : Sitting Breaker BreakerCmd BreakerReply) → get_elem? cells.breakers j ≡ some gate → get_elem? seats.breakers j ≡ some key → (events : List (Event Own)) → Delivery setting events turn
        → Effects events (own.Did (kinds ledgers) cell seat seat' link link') (λ xs. Grew (kinds breakers) gate.first key xs key') clock clock' (λ ws. Drawn next_u64 words ws words')
        → Does kinds cells before (after (set seats.breakers j key')) (λ done. DeliversAt i setting done turn)
    turned_gated some-is gate key key' gate-at key-there events delivery e = record {
      events = placed i j events;
      held = record { did = events; delivers = delivery; whole = ap (λ (o : Option ℕ). map (laid (own_at i) (unwrap_or o 0)) events) (sym some-is) };
      went = did_gated gate key key' gate-at key-there events e;
    }

-- ---- the ledger that is there

pub within : (o : Option ℕ) (k : ℕ) → o ≡ Some k → {n : ℕ} → ForSome o (λ p. p < n) → k < n
within o k is {n} all = all k is
