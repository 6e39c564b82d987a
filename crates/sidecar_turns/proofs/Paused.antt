-- A pause between two turns of a drain, as what was done over all objects.
use Rattle.std.proofs.Common.{◌-◌, ℕ, List, [], ◌∷◌, ◌++◌, refl, arith}
use Rattle.rand_core.specs.Stream.{Stream, next_u64}
use Rattle.side_world.specs.declared.clock.Tick.TheVariants as tick
use Rattle.side_world.proofs.Composed.{drawn_nothing, tells_on}
use Rattle.turn_cell.proofs.Growing.{each_none}
use Rattle.policy_run.specs.Effects.{Clocked}
use Rattle.link_call.specs.LinkAt.{LinkAt, asks_none}
use Rattle.delivery_turn.specs.declared.ending.Turn.{Turn}
use Rattle.sidecar_objects.specs.declared.doing.Doing.{Doing}
use Rattle.sidecar_objects.specs.declared.doing.Doing.TheVariants.{Timed, Waited}
use Rattle.sidecar_objects.specs.Kind.{Kinds, CellsAt, SeatsAt, cells_in, seats_in}
use Rattle.sidecar_objects.specs.Did.{Did, Does, Standing}
use Rattle.sidecar_objects.specs.Composed.{did_on}
use Rattle.sidecar_turns.specs.Draining.{GoesOn, Pauses, Pausing}
use Rattle.sidecar_turns.specs.Repeating.{OneMore}

module _ {O : Type 0} (kinds : Kinds O) (cells : CellsAt O) (seats : SeatsAt O) (link : LinkAt) (words : Stream) (clock clock' : Clocked) where
  abbrev at_clock : Clocked → Standing O
  at_clock time = record { seats = seats; clock = time; link = link; words = words }

  -- the clock was read and paused, and nothing else was done
  paused_until : (due : ℕ) (pausing : Pausing due clock clock') → Did kinds cells (at_clock clock) (Timed pausing.0 ∷ Waited (due - pausing.0) ∷ []) (at_clock clock')
  paused_until due (last, between, reads, later, paused, ticks) = record {
    grew = λ kind. each_none (kinds kind) (cells_in cells kind) (seats_in seats kind) (λ k. []) (λ k. refl);
    times = (omega (arith, reads.later, reads.last), omega (arith, reads.last, later));
    pauses = (omega (arith, paused.0, reads.paused), omega (arith, paused.1, reads.paused), λ below. omega (arith, paused.2 below, reads.paused));
    ticks = tells_on clock.ticks between.ticks clock'.ticks (tick.Read last ∷ []) (tick.Paused (due - last) ∷ []) reads.ticks ticks;
    asked = asks_none link;
    words = drawn_nothing next_u64 words;
  }

  -- a turn behind which the drain pauses, and goes on
  pub waited : (turns : List Doing → Turn → Type 0) (began due : ℕ) (turn : Turn) (at : Standing O) → Does kinds cells at (at_clock clock) (λ events. turns events turn) → ((events : List Doing) → Pauses due events → GoesOn began turn events) → Pausing due clock clock'
      → Does kinds cells at (at_clock clock') (OneMore turns (GoesOn began))
  waited turns began due turn at turned follows pausing =
      let pause : List Doing = Timed pausing.0 ∷ Waited (due - pausing.0) ∷ [] in record {
        events = turned.events ++ pause;
        held = record { first = turned.events; between = pause; turn = turn; taken = turned.held; goes_on = follows pause (pausing.0, refl); whole = refl };
        went = did_on kinds cells at turned.events (at_clock clock) pause (at_clock clock') turned.went (paused_until due pausing);
      }
