-- One call of the book of metadata, as what was done.
use Rattle.std.proofs.Common.{◌≡◌, ◌∙◌, ℕ, List, [], ◌∷◌, ◌++◌, Option, Some, Result, Ok, Err, refl, ap, le_refl, flat_map}
use Rattle.std.specs.Prelude.{IfErr}
use Rattle.rand_core.specs.Stream.{Stream, next_u64}
use Rattle.side_world.proofs.Composed.{rises_nothing, tells_nothing, drawn_nothing}
use Rattle.turn_cell.specs.declared.error.ApiErr.TheVariants as error
use Rattle.turn_cell.specs.declared.error.Exhausted.{Exhausted}
use Rattle.turn_cell.specs.declared.object.Object.{Ghosts}
use Rattle.turn_cell.specs.Sitting.{Sitting, Extends, Exhausts, entry_by}
use Rattle.turn_cell.specs.Growth.{EachGrew}
use Rattle.turn_cell.proofs.Growing as growing
use Rattle.meta_api.specs.declared.notes.Notes.{Notes}
use Rattle.meta_api.specs.declared.command.NotesCmd.{NotesCmd}
use Rattle.meta_api.specs.declared.command.NotesReply.{NotesReply}
use Rattle.policy_run.specs.Effects.{Clocked}
use Rattle.link_call.specs.LinkAt.{LinkAt, asks_none}
use Rattle.sidecar_objects.specs.declared.doing.Doing.TheVariants.{Stepped}
use Rattle.sidecar_objects.specs.declared.doing.SlotStep.{SlotStep}
use Rattle.sidecar_objects.specs.declared.doing.SlotStep.TheVariants as slot
use Rattle.sidecar_objects.specs.Kind.{Kind, Kinds, CellsAt, SeatsAt, StepOf, stores, ledgers, breakers, book, turns, ticks, cells_in, seats_in}
use Rattle.sidecar_objects.specs.Doing.{steps_at}
use Rattle.sidecar_objects.specs.Did.{Did, Does, Standing}
use Rattle.sidecar_objects.proofs.ByKind.{by_kind}
use Rattle.sidecar_objects.proofs.Laid.{elsewhere_at}
use Rattle.sidecar_objects.proofs.Single.{one_grew}
use Rattle.sidecar_core.specs.Exchange.{NotesRan}
use Rattle.sidecar_core.specs.Exchange as exchange

module _ {O : Type 0} (kinds : Kinds O) (cells : CellsAt O) (seats : SeatsAt O) (clock : Clocked) (link : LinkAt) (words : Stream) where
  abbrev at_seats : SeatsAt O → Standing O
  at_seats there = record { seats = there; clock = clock; link = link; words = words }

  -- seats grew by at most one step, and nothing else was done
  stepped : (after : SeatsAt O) (step : SlotStep) → ((kind : Kind) → EachGrew (kinds kind) (cells_in cells kind) (seats_in seats kind) (λ k. flat_map (steps_at kind k) (Stepped step ∷ [])) (seats_in after kind)) → Did kinds cells (at_seats seats) (Stepped step ∷ []) (at_seats after)
  stepped after step grew = record { grew = grew; times = le_refl clock.last; pauses = rises_nothing clock.paused; ticks = tells_nothing clock.ticks; asked = asks_none link; words = drawn_nothing next_u64 words }

  unstepped : (after : SeatsAt O) → ((kind : Kind) → EachGrew (kinds kind) (cells_in cells kind) (seats_in seats kind) (λ k. []) (seats_in after kind)) → Did kinds cells (at_seats seats) [] (at_seats after)
  unstepped after grew = record { grew = grew; times = le_refl clock.last; pauses = rises_nothing clock.paused; ticks = tells_nothing clock.ticks; asked = asks_none link; words = drawn_nothing next_u64 words }

  -- the seats of a kind are as they were
  still : (kind : Kind) (made : ℕ → List (StepOf kind)) → ((k : ℕ) → made k ≡ []) → EachGrew (kinds kind) (cells_in cells kind) (seats_in seats kind) made (seats_in seats kind)
  still kind made none-made = growing.each_none (kinds kind) (cells_in cells kind) (seats_in seats kind) made none-made

  -- ---- the book

  module _ (after : Sitting Notes NotesCmd NotesReply) (cmd : NotesCmd) where
    -- one step of it
    pub booked : (reply : NotesReply) → Extends (kinds book) cells.notes.first seats.notes cmd reply after → Does kinds cells (at_seats seats) (at_seats (record seats { notes = after })) (λ events. NotesRan cmd events (Ok reply))
    booked reply did = let step = entry_by seats.notes cmd reply did.mark in record {
      events = Stepped (slot.Book step) ∷ [];
      held = exchange.stepped step refl refl refl;
      went = stepped (record seats { notes = after }) (slot.Book step) (by_kind _ (still stores _ (λ k. refl)) (still ledgers _ (λ k. refl)) (still breakers _ (λ k. refl))
          (one_grew cells.notes seats.notes (kinds book) after (λ k. flat_map (steps_at book k) (Stepped (slot.Book step) ∷ [])) (growing.called (kinds book) cells.notes.first seats.notes cmd reply after did) (λ k far. (λ i. elsewhere_at 0 k far step i ++ [])))
          (still turns _ (λ k. refl)) (still ticks _ (λ k. refl)));
    }

    -- or it is exhausted
    pub unbooked : (count : ℕ) → Exhausts (kinds book) cells.notes.first seats.notes count after → Does kinds cells (at_seats seats) (at_seats (record seats { notes = after })) (λ events. NotesRan cmd events (Err (error.Exhausted count)))
    unbooked count did = record {
      events = [];
      held = exchange.exhausted count refl refl;
      went = unstepped (record seats { notes = after }) (by_kind _ (still stores _ (λ k. refl)) (still ledgers _ (λ k. refl)) (still breakers _ (λ k. refl))
          (one_grew cells.notes seats.notes (kinds book) after (λ k. []) (growing.exhausted (kinds book) cells.notes.first seats.notes count after did) (λ k far. refl))
          (still turns _ (λ k. refl)) (still ticks _ (λ k. refl)));
    }

-- an exhausted cell's seat shows the count
pub shown_count : {O C R : Type 0} (object : Ghosts O C R) (first : O) (seat after : Sitting O C R) (count : ℕ) (result : Result R Exhausted) → IfErr result (λ e. Exhausts object first seat e.count after) → result ≡ Err (record { count = count }) → after.count ≡ Some count
shown_count {O} {C} {R} object first seat after count (Ok reply) err is = absurd (cc)
shown_count {O} {C} {R} object first seat after count (Err e) err is = ap (λ (z : Sitting O C R). z.count) err.whole ∙ counts e (cc) where
  counts : (e : Exhausted) → e.count ≡ count → ◌≡◌ {A = Option ℕ} (Some e.count) (Some count)
  counts e same = ap {A = ℕ} {B = Option ℕ} (λ (n : ℕ). Some n) same
