-- Calls of the link under what is bound to them, as what was done over all objects.
use Rattle.std.proofs.Common.{◌≡◌, ◌∙◌, ℕ, List, [], ◌∷◌, map, set, Option, Some, refl, sym, ap, subst, flat_map, unwrap_or}
use mathlib.Core.Option.{some}
use lib.ListN.{get_elem?}
use Rattle.rand_core.specs.Stream.{Stream, next_u64}
use Rattle.side_world.specs.declared.link.LinkCall.{LinkCall}
use Rattle.side_world.specs.Moments.{Drawn}
use Rattle.turn_cell.specs.Growth.{Grew, EachGrew}
use Rattle.turn_cell.specs.Sitting.{Begun, Sitting}
use Rattle.turn_cell.proofs.Growing.{each_none, each_one}
use Rattle.retry_core.specs.declared.policy.Bound.{Bound}
use Rattle.breaker_core.specs.declared.breaker.Breaker.{Breaker}
use Rattle.breaker_core.specs.declared.command.BreakerCmd.{BreakerCmd}
use Rattle.breaker_core.specs.declared.command.BreakerReply.{BreakerReply}
use Rattle.breaker_core.specs.Course.{Step as BreakerStep}
use Rattle.policy_run.specs.Event.{Event, own_of}
use Rattle.policy_run.specs.Effects.{Clocked, Effects}
use Rattle.link_call.specs.LinkAt.{LinkAt, Asks}
use Rattle.sidecar_objects.specs.declared.doing.Doing.{Doing}
use Rattle.sidecar_objects.specs.declared.doing.Doing.TheVariants.{Asked}
use Rattle.sidecar_objects.specs.Kind.{Kind, Kinds, CellsAt, SeatsAt, StepOf, stores, ledgers, breakers, book, turns, ticks, cells_in, seats_in}
use Rattle.sidecar_objects.specs.Doing.{laid, steps_at, asked_in}
use Rattle.sidecar_objects.specs.Did.{Did, Standing}
use Rattle.sidecar_objects.proofs.ByKind.{by_kind}
use Rattle.sidecar_objects.proofs.Laid.{none_of_each}
use Rattle.sidecar_turns.specs.Ticking.{asked_under}
use Rattle.sidecar_turns.proofs.Over.{IsSilent, asked_by, broke_elsewhere, broke_here, broke_nowhere, did_laid, entered_by, joined_by, noted_by, stored_by, ticked_by}

abbrev ask : LinkCall → Doing
ask call = Asked call

asks_alone : IsSilent ask
asks_alone = record { words = λ e. refl; moments = λ e. refl; pauses = λ e. refl; ticks = λ e. refl; breakers = λ k e. refl }

each_call : (calls : List LinkCall) → flat_map (λ e. asked_in (ask e)) calls ≡ calls
each_call [] = refl
each_call (call ∷ calls) = ap (λ (l : List LinkCall). call ∷ l) (each_call calls)

module _ {O : Type 0} (kinds : Kinds O) (cells : CellsAt O) (seats : SeatsAt O) (clock clock' : Clocked) (words words' : Stream) where
  abbrev pub with_link : SeatsAt O → Clocked → LinkAt → Stream → Standing O
  with_link there time link stream = record { seats = there; clock = time; link = link; words = stream }

  still : (kind : Kind) (made : ℕ → List (StepOf kind)) → ((k : ℕ) → made k ≡ []) → EachGrew (kinds kind) (cells_in cells kind) (seats_in seats kind) made (seats_in seats kind)
  still kind made none-made = each_none (kinds kind) (cells_in cells kind) (seats_in seats kind) made none-made

  module _ (link link' : LinkAt) (j : ℕ) (events : List (Event LinkCall)) (held : List BreakerStep → Type 0) (e : Effects events (λ xs. Asks link xs link') held clock clock' (λ ws. Drawn next_u64 words ws words')) where
    asked_with : (gates : List (Sitting Breaker BreakerCmd BreakerReply)) → EachGrew (kinds breakers) cells.breakers seats.breakers (λ k. flat_map (steps_at breakers k) (map (laid ask j) events)) gates
        → Did kinds cells (with_link seats clock link words) (map (laid ask j) events) (with_link (record seats { breakers = gates }) clock' link' words')
    asked_with gates grew = did_laid ask asks_alone j events kinds cells (with_link seats clock link words) (with_link (record seats { breakers = gates }) clock' link' words') (λ xs. Asks link xs link') held e
        (by_kind _
        (still stores _ (λ k. stored_by ask asks_alone j events k ∙ none_of_each _ (λ s. refl) (flat_map own_of events)))
        (still ledgers _ (λ k. entered_by ask asks_alone j events k ∙ none_of_each _ (λ s. refl) (flat_map own_of events)))
        grew
        (still book _ (λ k. noted_by ask asks_alone j events k ∙ none_of_each _ (λ s. refl) (flat_map own_of events)))
        (still turns _ (λ k. joined_by ask asks_alone j events k ∙ none_of_each _ (λ s. refl) (flat_map own_of events)))
        (still ticks _ (λ k. ticked_by ask asks_alone j events k ∙ none_of_each _ (λ s. refl) (flat_map own_of events))))
        (subst (λ l. Asks link l link') (sym (asked_by ask asks_alone j events ∙ each_call (flat_map own_of events))) e.owned)

  -- without a breaker
  pub asked_plainly : (link link' : LinkAt) (j : ℕ) (events : List (Event LinkCall)) → Effects events (λ xs. Asks link xs link') (λ xs. xs ≡ []) clock clock' (λ ws. Drawn next_u64 words ws words')
      → Did kinds cells (with_link seats clock link words) (map (laid ask j) events) (with_link seats clock' link' words')
  asked_plainly link link' j events e = asked_with link link' j events (λ xs. xs ≡ []) e seats.breakers (still breakers _ (λ k. broke_nowhere ask asks_alone j events k e.guards))

  -- with the one that is bound
  pub asked_gated : (link link' : LinkAt) (bound : Bound) (k : ℕ) → bound.breaker ≡ Some k → (gate : Begun Breaker) (key key' : Sitting Breaker BreakerCmd BreakerReply) → get_elem? cells.breakers k ≡ some gate → get_elem? seats.breakers k ≡ some key
      → (events : List (Event LinkCall)) → Effects events (λ xs. Asks link xs link') (λ xs. Grew (kinds breakers) gate.first key xs key') clock clock' (λ ws. Drawn next_u64 words ws words')
      → Did kinds cells (with_link seats clock link words) (asked_under bound events) (with_link (record seats { breakers = set seats.breakers k key' }) clock' link' words')
  asked_gated link link' bound k is gate key key' gate-at key-here events e =
      subst (λ (o : Option ℕ). Did kinds cells (with_link seats clock link words) (map (laid ask (unwrap_or o 0)) events) (with_link (record seats { breakers = set seats.breakers k key' }) clock' link' words')) (sym is)
      (asked_with link link' k events (λ xs. Grew (kinds breakers) gate.first key xs key') e (set seats.breakers k key')
      (each_one (kinds breakers) cells.breakers seats.breakers (λ i. flat_map (steps_at breakers i) (map (laid ask k) events)) k gate key key' gate-at key-here
      (subst (λ l. Grew (kinds breakers) gate.first key l key') (sym (broke_here ask asks_alone k events)) e.guards) (λ i far. broke_elsewhere ask asks_alone k events i far)))
