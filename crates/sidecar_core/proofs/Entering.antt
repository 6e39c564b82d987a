-- Messages that are given to a ledger, as what was done over all objects.
use Rattle.std.proofs.Common.{◌≡◌, ◌∙◌, ℕ, List, [], set, refl, sym, subst, flat_map}
use mathlib.Core.Option.{some}
use lib.ListN.{get_elem?}
use Rattle.rand_core.specs.Stream.{Stream, next_u64}
use Rattle.side_world.specs.Moments.{Drawn}
use Rattle.turn_cell.specs.Growth.{Grew, EachGrew}
use Rattle.turn_cell.specs.Sitting.{Begun, Sitting}
use Rattle.turn_cell.proofs.Growing.{each_none, each_one}
use Rattle.ledger_core.specs.declared.ledger.Ledger.{Ledger}
use Rattle.ledger_core.specs.declared.command.LedgerCmd.{LedgerCmd}
use Rattle.ledger_core.specs.declared.reply.LedgerReply.{LedgerReply}
use Rattle.ledger_core.specs.Message.{Step as LedgerStep}
use Rattle.policy_run.specs.Event.{Event, own_of}
use Rattle.policy_run.specs.Effects.{Clocked, Effects}
use Rattle.link_call.specs.LinkAt.{Asks, LinkAt, asks_none}
use Rattle.sidecar_objects.specs.declared.doing.Doing.{Doing}
use Rattle.sidecar_objects.specs.declared.doing.Doing.TheVariants.{Stepped}
use Rattle.sidecar_objects.specs.declared.doing.SlotStep.TheVariants as slot
use Rattle.sidecar_objects.specs.Kind.{Kind, Kinds, CellsAt, SeatsAt, StepOf, stores, ledgers, breakers, book, turns, ticks, cells_in, seats_in}
use Rattle.sidecar_objects.specs.Doing.{steps_at}
use Rattle.sidecar_objects.specs.Did.{Did, Standing}
use Rattle.sidecar_objects.proofs.ByKind.{by_kind}
use Rattle.sidecar_objects.proofs.Laid.{all_here, none_elsewhere, none_of_each}
use Rattle.sidecar_core.specs.Called.{entered}
use Rattle.sidecar_turns.proofs.Over.{IsSilent, asked_by, broke_nowhere, did_laid, entered_by, joined_by, noted_by, stored_by, ticked_by}

abbrev enter : ℕ → LedgerStep → Doing
enter place step = Stepped (slot.Ledger place step)

enters_alone : (place : ℕ) → IsSilent (enter place)
enters_alone place = record { words = λ e. refl; moments = λ e. refl; pauses = λ e. refl; ticks = λ e. refl; breakers = λ k e. refl }

module _ {O : Type 0} (kinds : Kinds O) (cells : CellsAt O) (seats : SeatsAt O) (clock clock' : Clocked) (words words' : Stream) where
  abbrev pub with_link : SeatsAt O → Clocked → LinkAt → Stream → Standing O
  with_link there time link stream = record { seats = there; clock = time; link = link; words = stream }

  still : (kind : Kind) (made : ℕ → List (StepOf kind)) → ((k : ℕ) → made k ≡ []) → EachGrew (kinds kind) (cells_in cells kind) (seats_in seats kind) made (seats_in seats kind)
  still kind made none-made = each_none (kinds kind) (cells_in cells kind) (seats_in seats kind) made none-made

  pub entered_at : (link : LinkAt) (place : ℕ) (cell : Begun Ledger) (seat seat' : Sitting Ledger LedgerCmd LedgerReply) → get_elem? cells.ledgers place ≡ some cell → get_elem? seats.ledgers place ≡ some seat
      → (events : List (Event LedgerStep)) → Effects events (λ xs. Grew (kinds ledgers) cell.first seat xs seat') (λ xs. xs ≡ []) clock clock' (λ ws. Drawn next_u64 words ws words')
      → Did kinds cells (with_link seats clock link words) (entered place events) (with_link (record seats { ledgers = set seats.ledgers place seat' }) clock' link words')
  entered_at link place cell seat seat' at here events e =
      did_laid (enter place) (enters_alone place) 0 events kinds cells (with_link seats clock link words) (with_link (record seats { ledgers = set seats.ledgers place seat' }) clock' link words') (λ xs. Grew (kinds ledgers) cell.first seat xs seat') (λ xs. xs ≡ []) e
      (by_kind _
      (still stores _ (λ k. stored_by (enter place) (enters_alone place) 0 events k ∙ none_of_each _ (λ s. refl) (flat_map own_of events)))
      (each_one (kinds ledgers) cells.ledgers seats.ledgers (λ k. flat_map (steps_at ledgers k) (entered place events)) place cell seat seat' at here
      (subst (λ l. Grew (kinds ledgers) cell.first seat l seat') (sym (entered_by (enter place) (enters_alone place) 0 events place ∙ all_here place (flat_map own_of events))) e.owned)
      (λ k far. entered_by (enter place) (enters_alone place) 0 events k ∙ none_elsewhere place k far (flat_map own_of events)))
      (still breakers _ (λ k. broke_nowhere (enter place) (enters_alone place) 0 events k e.guards))
      (still book _ (λ k. noted_by (enter place) (enters_alone place) 0 events k ∙ none_of_each _ (λ s. refl) (flat_map own_of events)))
      (still turns _ (λ k. joined_by (enter place) (enters_alone place) 0 events k ∙ none_of_each _ (λ s. refl) (flat_map own_of events)))
      (still ticks _ (λ k. ticked_by (enter place) (enters_alone place) 0 events k ∙ none_of_each _ (λ s. refl) (flat_map own_of events))))
      (subst (λ l. Asks link l link) (sym (asked_by (enter place) (enters_alone place) 0 events ∙ none_of_each _ (λ s. refl) (flat_map own_of events))) (asks_none link))
