-- What is done behind a session: a moment is read, ticks are taken, and what is due is delivered.
use Rattle.std.proofs.Common.{◌≡◌, ℕ, List, [], ◌∷◌, ◌++◌, refl, sym, subst, arith}
use Rattle.side_world.specs.declared.disk.Disk.{Ghosts as Keeps}
use Rattle.side_world.specs.Moments.{Rises}
use Rattle.side_world.proofs.Composed.{drawn_nothing, rises_nothing}
use Rattle.rand_core.specs.Stream.{Stream, next_u64}
use Rattle.keeper_core.specs.declared.keeper.Keeper.{Ghosts}
use Rattle.keeper_journal.specs.declared.any_keeper.AnyKeeper.{AnyKeeper}
use Rattle.turn_cell.proofs.Growing.{each_none}
use Rattle.policy_run.specs.Effects.{Clocked, ReadsNow}
use Rattle.link_call.specs.LinkAt.{LinkAt, asks_none}
use Rattle.state_core.specs.declared.store.Store.{Store}
use Rattle.sidecar_core.specs.declared.config.Config.{Config}
use Rattle.sidecar_core.specs.Delivery.{DrainsIn, TakesTicksIn}
use Rattle.sidecar_objects.specs.declared.doing.Doing.{Doing}
use Rattle.sidecar_objects.specs.declared.doing.Doing.TheVariants.{Timed}
use Rattle.sidecar_objects.specs.declared.objects.Objects.{Objects}
use Rattle.sidecar_objects.specs.declared.objects.Pass.{Pass}
use Rattle.sidecar_objects.specs.Composed.{did_on, lone_stays, sound_stays}
use Rattle.sidecar_objects.specs.Did.{Did, Does, Standing}
use Rattle.sidecar_objects.specs.Kind.{CellsAt, Kinds, SeatsAt, cells_in, seats_in}
use Rattle.sidecar_objects.specs.Pass.{cells_of, seats_of}
use Rattle.sidecar_objects.specs.Passes.{IsLone, IsSoundPass}
use Rattle.sidecar_turns.specs.declared.draining.Drained.{Drained}
use Rattle.sidecar_cli.specs.Play.{DrainsFromNow, IsDrained}
use Rattle.sidecar_cli.specs.Status.{together}
use Rattle.sidecar_cli.specs.World.{WorldAt}

module _ {O : Type 0} (kinds : Kinds O) (cells : CellsAt O) (seats : SeatsAt O) (link : LinkAt) (words : Stream) (clock between : Clocked) (began : ℕ) (reads : ReadsNow clock began between) where
  -- the clock was read, and nothing else was done
  read_now : Did kinds cells (record { seats = seats; clock = clock; link = link; words = words }) (Timed began ∷ []) (record { seats = seats; clock = between; link = link; words = words })
  read_now = record {
    grew = λ kind. each_none (kinds kind) (cells_in cells kind) (seats_in seats kind) (λ k. []) (λ k. refl);
    times = (omega (arith, reads.later, reads.last), omega (arith, reads.last));
    pauses = subst (λ (n : ℕ). Rises clock.paused 0 n) (sym reads.paused) (rises_nothing clock.paused);
    ticks = reads.ticks;
    asked = asks_none link;
    words = drawn_nothing next_u64 words;
  }

  abbrev before : Standing O
  before = record { seats = seats; clock = clock; link = link; words = words }

  abbrev read : Standing O
  read = record { seats = seats; clock = between; link = link; words = words }

  -- and then ticks were taken, and what was due was delivered
  pub read_then : {config : Config} {ticked delivered how : Drained} (taken after : Standing O) → Does kinds cells read taken (λ events. TakesTicksIn config events ticked) → Does kinds cells taken after (λ events. DrainsIn config began events delivered)
      → how ≡ together ticked delivered → Does kinds cells before after (λ events. DrainsFromNow config events how)
  read_then {config} {ticked} {delivered} taken after takes drains is = record {
    events = Timed began ∷ (takes.events ++ drains.events);
    held = record { began = began; ticks = takes.events; ticked = ticked; turns = drains.events; delivered = delivered; whole = refl; takes = takes.held; drains = drains.held; how_is = is };
    went = did_on kinds cells before (Timed began ∷ []) read (takes.events ++ drains.events) after read_now (did_on kinds cells read takes.events taken drains.events after takes.went drains.went);
  }

module _ {D : Type 0} {disking : Keeps D} {keeping : Ghosts (AnyKeeper D disking)} {kinds : Kinds (Store (AnyKeeper D disking) keeping)} {config : Config} {objects : Objects (AnyKeeper D disking) keeping} {pass after : Pass (AnyKeeper D disking) keeping} {words : Stream} {world world' : WorldAt} {how : Drained} (drained : IsDrained kinds config objects pass after words world world' how) where
  -- a pass that is alone stays so
  pub lone_drained_on : IsLone (cells_of objects) (seats_of pass) → IsLone (cells_of objects) (seats_of after)
  lone_drained_on lone = lone_stays kinds (cells_of objects) (record { seats = seats_of pass; clock = world.clock; link = world.link; words = words }) _ (record { seats = seats_of after; clock = world'.clock; link = world'.link; words = drained.rest }) drained.does.went lone

  -- what holds of every seat goes on to hold
  pub sound_drained_on : IsSoundPass kinds (cells_of objects) (seats_of pass) → IsSoundPass kinds (cells_of objects) (seats_of after)
  sound_drained_on sound = sound_stays kinds (cells_of objects) (record { seats = seats_of pass; clock = world.clock; link = world.link; words = words }) _ (record { seats = seats_of after; clock = world'.clock; link = world'.link; words = drained.rest }) drained.does.went sound
