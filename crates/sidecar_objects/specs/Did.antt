-- What events did: to the seats of a pass, to the clock, the link and the random words.
use Rattle.std.specs.Prelude.{ℕ, List}
use Rattle.std.specs.List.{sum_by, flat_map}
use Rattle.rand_core.specs.Stream.{Stream, next_u64}
use Rattle.side_world.specs.Moments.{Between, Rises, Drawn}
use Rattle.side_world.specs.Told.{Tells}
use Rattle.turn_cell.specs.Growth.{EachGrew}
use Rattle.policy_run.specs.Effects.{Clocked}
use Rattle.link_call.specs.LinkAt.{LinkAt, Asks}
use Rattle.sidecar_objects.specs.declared.doing.Doing.{Doing}
use Rattle.sidecar_objects.specs.Kind.{Kind, Kinds, CellsAt, SeatsAt, cells_in, seats_in}
use Rattle.sidecar_objects.specs.Doing.{steps_at, asked_in, word_in, moment_in, pause_in, tick_in}

-- what a pass and all that it works with show: the seats, the clock, the link, and the random words to come
pub record Standing (O : Type 0) : Type 0 where
  pub seats : SeatsAt O
  pub clock : Clocked
  pub link : LinkAt
  pub words : Stream

-- Each kind of event in order is what was done there: at each place the steps of the seat there, the calls of the link with their faults and expiries, the random words,
-- and what the clock was asked. Moments don't fall, and lie between what the clock told last before and after
pub record Did {O : Type 0} (kinds : Kinds O) (cells : CellsAt O) (at : Standing O) (events : List Doing) (after : Standing O) : Type 0 where
  pub grew : (kind : Kind) → EachGrew (kinds kind) (cells_in cells kind) (seats_in at.seats kind) (λ k. flat_map (steps_at kind k) events) (seats_in after.seats kind)
  pub times : Between at.clock.last (flat_map moment_in events) after.clock.last
  pub pauses : Rises at.clock.paused (sum_by (λ (ms : ℕ). ms) (flat_map pause_in events)) after.clock.paused
  pub ticks : Tells at.clock.ticks after.clock.ticks (flat_map tick_in events)
  pub asked : Asks at.link (flat_map asked_in events) after.link
  pub words : Drawn next_u64 at.words (flat_map word_in events) after.words

-- something was done of which this holds
pub record Does {O : Type 0} (kinds : Kinds O) (cells : CellsAt O) (at after : Standing O) (holds : List Doing → Type 0) : Type 0 where
  pub events : List Doing
  pub held : holds events
  pub went : Did kinds cells at events after
