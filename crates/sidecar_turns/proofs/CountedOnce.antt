-- One step of a ledger that counts, as what was done over all objects.
use Rattle.std.proofs.Common.{◌≡◌, ◌∙◌, ℕ, [], ◌∷◌, ◌++◌, set, Option, Some, Result, Ok, Err, refl, sym, ap, subst, le_refl, flat_map}
use Rattle.std.specs.Prelude.{IfOk, IfErr}
use mathlib.Core.Option.{some}
use lib.ListN.{get_elem?}
use Rattle.rand_core.specs.Stream.{Stream, next_u64}
use Rattle.side_world.proofs.Composed.{rises_nothing, tells_nothing, drawn_nothing}
use Rattle.turn_cell.specs.declared.error.Exhausted.{Exhausted}
use Rattle.turn_cell.specs.declared.object.Object.{Ghosts}
use Rattle.turn_cell.specs.Sitting.{Begun, Sitting, Extends, Exhausts, entry_by}
use Rattle.turn_cell.specs.Growth.{Grew}
use Rattle.turn_cell.proofs.Growing.{called, each_none, each_one, exhausted}
use Rattle.ledger_core.specs.declared.ledger.Ledger.{Ledger}
use Rattle.ledger_core.specs.declared.command.LedgerCmd.{LedgerCmd}
use Rattle.ledger_core.specs.declared.command.LedgerCmd.TheVariants.{Counts}
use Rattle.ledger_core.specs.declared.reply.LedgerReply.{LedgerReply}
use Rattle.policy_run.specs.Effects.{Clocked}
use Rattle.link_call.specs.LinkAt.{LinkAt, asks_none}
use Rattle.sidecar_objects.specs.declared.doing.Doing.TheVariants.{Stepped}
use Rattle.sidecar_objects.specs.declared.doing.SlotStep.TheVariants as slot
use Rattle.sidecar_objects.specs.Kind.{Kinds, CellsAt, SeatsAt, stores, ledgers, breakers, book, turns, ticks, cells_in, seats_in}
use Rattle.sidecar_objects.specs.Doing.{steps_at}
use Rattle.sidecar_objects.specs.Did.{Does, Standing}
use Rattle.sidecar_objects.proofs.ByKind.{by_kind}
use Rattle.sidecar_objects.proofs.Laid.{here_at, elsewhere_at}
use Rattle.sidecar_turns.specs.Counting.{Counted}
use Rattle.sidecar_turns.specs.Counting as counting

module _ {O : Type 0} (kinds : Kinds O) (cells : CellsAt O) (seats : SeatsAt O) (clock : Clocked) (link : LinkAt) (words : Stream) (place : ℕ) (cell : Begun Ledger) (seat after : Sitting Ledger LedgerCmd LedgerReply)
    (at : get_elem? cells.ledgers place ≡ some cell) (there : get_elem? seats.ledgers place ≡ some seat) where
  abbrev at_seats : SeatsAt O → Standing O
  at_seats those = record { seats = those; clock = clock; link = link; words = words }

  abbrev put : SeatsAt O
  put = record seats { ledgers = set seats.ledgers place after }

  -- one step of it
  counted_by : (reply : LedgerReply) → Extends (kinds ledgers) cell.first seat Counts reply after → Does kinds cells (at_seats seats) (at_seats put) (λ events. Counted place events (Ok reply))
  counted_by reply extends = let step = entry_by seat Counts reply extends.mark in record {
    events = Stepped (slot.Ledger place step) ∷ [];
    held = counting.stepped step refl refl refl;
    went = record {
      grew = by_kind _ (each_none (kinds stores) cells.stores seats.stores _ (λ k. refl))
          (each_one (kinds ledgers) cells.ledgers seats.ledgers (λ k. flat_map (steps_at ledgers k) (Stepped (slot.Ledger place step) ∷ [])) place cell seat after at there
          (subst (λ l. Grew (kinds ledgers) cell.first seat l after) (sym (λ i. here_at place step i ++ [])) (called (kinds ledgers) cell.first seat Counts reply after extends))
          (λ k far. (λ i. elsewhere_at place k far step i ++ [])))
          (each_none (kinds breakers) cells.breakers seats.breakers _ (λ k. refl)) (each_none (kinds book) (cells_in cells book) (seats_in seats book) _ (λ k. refl))
          (each_none (kinds turns) (cells_in cells turns) (seats_in seats turns) _ (λ k. refl))
          (each_none (kinds ticks) (cells_in cells ticks) (seats_in seats ticks) _ (λ k. refl));
      times = le_refl clock.last;
      pauses = rises_nothing clock.paused;
      ticks = tells_nothing clock.ticks;
      asked = asks_none link;
      words = drawn_nothing next_u64 words;
    };
  }

  -- or it is exhausted
  uncounted : (e : Exhausted) → Exhausts (kinds ledgers) cell.first seat e.count after → Does kinds cells (at_seats seats) (at_seats put) (λ events. Counted place events (Err e))
  uncounted e spent = record {
    events = [];
    held = counting.exhausted e refl refl;
    went = record {
      grew = by_kind _ (each_none (kinds stores) cells.stores seats.stores _ (λ k. refl))
          (each_one (kinds ledgers) cells.ledgers seats.ledgers (λ k. []) place cell seat after at there (exhausted (kinds ledgers) cell.first seat e.count after spent) (λ k far. refl))
          (each_none (kinds breakers) cells.breakers seats.breakers _ (λ k. refl)) (each_none (kinds book) (cells_in cells book) (seats_in seats book) _ (λ k. refl))
          (each_none (kinds turns) (cells_in cells turns) (seats_in seats turns) _ (λ k. refl))
          (each_none (kinds ticks) (cells_in cells ticks) (seats_in seats ticks) _ (λ k. refl));
      times = le_refl clock.last;
      pauses = rises_nothing clock.paused;
      ticks = tells_nothing clock.ticks;
      asked = asks_none link;
      words = drawn_nothing next_u64 words;
    };
  }

  -- whatever it answers
  pub counted : (result : Result LedgerReply Exhausted) → IfOk result (λ reply. Extends (kinds ledgers) cell.first seat Counts reply after) → IfErr result (λ e. Exhausts (kinds ledgers) cell.first seat e.count after)
      → Does kinds cells (at_seats seats) (at_seats put) (λ events. Counted place events result)
  counted (Ok reply) ok err = counted_by reply ok
  counted (Err e) ok err = uncounted e err

-- an exhausted cell's seat shows the count
pub shown_count : {O C R : Type 0} (object : Ghosts O C R) (first : O) (seat after : Sitting O C R) (count : ℕ) (result : Result R Exhausted) → IfErr result (λ e. Exhausts object first seat e.count after) → result ≡ Err (record { count = count }) → after.count ≡ Some count
shown_count {O} {C} {R} object first seat after count (Ok reply) err is = absurd (cc)
shown_count {O} {C} {R} object first seat after count (Err e) err is = ap (λ (z : Sitting O C R). z.count) err.whole ∙ counts e (cc) where
  counts : (e : Exhausted) → e.count ≡ count → ◌≡◌ {A = Option ℕ} (Some e.count) (Some count)
  counts e same = ap {A = ℕ} {B = Option ℕ} (λ (n : ℕ). Some n) same
