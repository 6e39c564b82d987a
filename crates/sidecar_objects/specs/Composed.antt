-- What was done, part after part, and what holds of a pass behind it.
use Rattle.std.specs.Prelude.{ℕ, List, [], ◌++◌, refl}
use Rattle.std.specs.List.{sum_by, flat_map}
use Rattle.std.proofs.Common.{sym, subst, le_refl}
use Rattle.std.proofs.lemmas.Grind.{flat_map-append}
use Rattle.std.proofs.lemmas.List.Sums.{sum_by-append}
use Rattle.rand_core.specs.Stream.{next_u64}
use Rattle.side_world.specs.Moments.{Between, Rises, Drawn}
use Rattle.side_world.specs.Told.{Tells}
use Rattle.side_world.proofs.Composed.{between_on, rises_on, rises_nothing, tells_on, tells_nothing, drawn_on, drawn_nothing}
use Rattle.turn_cell.proofs.Growing.{each_none, each_on, each_same}
use Rattle.turn_cell.proofs.Passes.{still_seated, still_roots, still_sound, still_split_off}
use Rattle.link_call.specs.LinkAt.{Asks, asks_none, asks_more}
use Rattle.sidecar_objects.specs.declared.doing.Doing.{Doing}
use Rattle.sidecar_objects.specs.Kind.{Kinds, CellsAt, cells_in, seats_in}
use Rattle.sidecar_objects.specs.Doing.{steps_at, asked_in, word_in, moment_in, pause_in, tick_in}
use Rattle.sidecar_objects.specs.Passes.{IsPassOf, IsRootPass, IsLone, IsSoundPass, IsSplitOffPass}
use Rattle.sidecar_objects.specs.Did.{Standing, Did, Does}

module _ {O : Type 0} (kinds : Kinds O) (cells : CellsAt O) where
  -- nothing was done
  pub did_nothing : (at : Standing O) → Did kinds cells at [] at
  did_nothing at = record {
    grew = λ kind. each_none (kinds kind) (cells_in cells kind) (seats_in at.seats kind) (λ k. []) (λ k. refl);
    times = le_refl at.clock.last;
    pauses = rises_nothing at.clock.paused;
    ticks = tells_nothing at.clock.ticks;
    asked = asks_none at.link;
    words = drawn_nothing next_u64 at.words;
  }

  -- one part after another
  pub did_on : (at : Standing O) (first : List Doing) (between : Standing O) (second : List Doing) (after : Standing O)
      → Did kinds cells at first between → Did kinds cells between second after → Did kinds cells at (first ++ second) after
  did_on at first between second after d e = record {
    grew = λ kind. each_same (kinds kind) (cells_in cells kind) (seats_in at.seats kind) _ (λ k. flat_map (steps_at kind k) (first ++ second)) (seats_in after.seats kind) (λ k. sym (flat_map-append (steps_at kind k) first second))
        (each_on (kinds kind) (cells_in cells kind) (seats_in at.seats kind) (λ k. flat_map (steps_at kind k) first) (seats_in between.seats kind) (λ k. flat_map (steps_at kind k) second) (seats_in after.seats kind) (d.grew kind) (e.grew kind));
    times = subst (λ ms. Between at.clock.last ms after.clock.last) (sym (flat_map-append moment_in first second)) (between_on at.clock.last (flat_map moment_in first) between.clock.last (flat_map moment_in second) after.clock.last d.times e.times);
    pauses = subst (λ ms. Rises at.clock.paused (sum_by (λ (n : ℕ). n) ms) after.clock.paused) (sym (flat_map-append pause_in first second))
        (subst (λ n. Rises at.clock.paused n after.clock.paused) (sym (sum_by-append (λ (n : ℕ). n) (flat_map pause_in first) (flat_map pause_in second)))
        (rises_on at.clock.paused (sum_by (λ (n : ℕ). n) (flat_map pause_in first)) between.clock.paused (sum_by (λ (n : ℕ). n) (flat_map pause_in second)) after.clock.paused d.pauses e.pauses));
    ticks = subst (λ ts. Tells at.clock.ticks after.clock.ticks ts) (sym (flat_map-append tick_in first second)) (tells_on at.clock.ticks between.clock.ticks after.clock.ticks (flat_map tick_in first) (flat_map tick_in second) d.ticks e.ticks);
    asked = subst (λ cs. Asks at.link cs after.link) (sym (flat_map-append asked_in first second)) (asks_more at.link (flat_map asked_in first) between.link (flat_map asked_in second) after.link d.asked e.asked);
    words = subst (λ ws. Drawn next_u64 at.words ws after.words) (sym (flat_map-append word_in first second)) (drawn_on next_u64 at.words (flat_map word_in first) between.words (flat_map word_in second) after.words d.words e.words);
  }

  pub does_nothing : (at : Standing O) (holds : List Doing → Type 0) → holds [] → Does kinds cells at at holds
  does_nothing at holds h = record { events = []; held = h; went = did_nothing at }

  -- what was done, said otherwise
  pub does_as : (at after : Standing O) (one other : List Doing → Type 0) → ((events : List Doing) → one events → other events) → Does kinds cells at after one → Does kinds cells at after other
  does_as at after one other so d = record { events = d.events; held = so d.events d.held; went = d.went }

  module _ (at : Standing O) (events : List Doing) (after : Standing O) (did : Did kinds cells at events after) where
    -- a pass stays one of its cells
    pub pass_stays : IsPassOf cells at.seats → IsPassOf cells after.seats
    pass_stays of = record { each = λ kind. still_seated (kinds kind) (cells_in cells kind) (seats_in at.seats kind) (λ k. flat_map (steps_at kind k) events) (seats_in after.seats kind) (did.grew kind) (of.each kind) }

    -- that of the root seats stays so, with as many passes split off
    pub root_stays : (out : ℕ) → IsRootPass out cells at.seats → IsRootPass out cells after.seats
    root_stays out roots = record { each = λ kind. still_roots (kinds kind) (cells_in cells kind) (seats_in at.seats kind) (λ k. flat_map (steps_at kind k) events) (seats_in after.seats kind) (did.grew kind) out (roots.each kind) }

    -- a pass that is alone stays so
    pub lone_stays : IsLone cells at.seats → IsLone cells after.seats
    lone_stays lone = root_stays 0 lone

    -- one that was split off stays so
    pub split_off_stays : IsSplitOffPass cells at.seats → IsSplitOffPass cells after.seats
    split_off_stays off = record { each = λ kind. still_split_off (kinds kind) (cells_in cells kind) (seats_in at.seats kind) (λ k. flat_map (steps_at kind k) events) (seats_in after.seats kind) (did.grew kind) (off.each kind) }

    -- what holds of every seat goes on to hold
    pub sound_stays : IsSoundPass kinds cells at.seats → IsSoundPass kinds cells after.seats
    sound_stays sound = record { each = λ kind. still_sound (kinds kind) (cells_in cells kind) (seats_in at.seats kind) (λ k. flat_map (steps_at kind k) events) (seats_in after.seats kind) (did.grew kind) (sound.each kind) }
