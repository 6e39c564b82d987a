-- The cells and the passes of the program's own types, as lists, and what a pass and all that it works with show.
use Rattle.std.specs.Prelude.{List}
use Rattle.side_world.specs.declared.clock.Clock.{Ghosts as Times}
use Rattle.side_world.specs.declared.link.Link.{Ghosts as Links}
use Rattle.rand_core.specs.Stream.{Stream}
use Rattle.keeper_core.specs.declared.keeper.Keeper.{Ghosts}
use Rattle.state_core.specs.declared.store.Store.{Store}
use Rattle.policy_run.specs.Effects.{Clocked, clocked}
use Rattle.link_call.specs.LinkAt.{LinkAt, link_at}
use Rattle.sidecar_objects.specs.declared.doing.Doing.{Doing}
use Rattle.sidecar_objects.specs.declared.objects.Objects.{Objects}
use Rattle.sidecar_objects.specs.declared.objects.Pass.{Pass}
use Rattle.sidecar_objects.specs.Kind.{CellsAt, Kinds, SeatsAt}
use Rattle.sidecar_objects.specs.Did.{Did, Does, Standing}

module _ {K : Type 0} {keeper : Ghosts K} where
  abbrev pub cells_of : Objects K keeper → CellsAt (Store K keeper)
  cells_of objects = record { stores = objects.stores.items; ledgers = objects.ledgers.items; breakers = objects.breakers.items; notes = objects.notes; turns = objects.turns; ticks = objects.ticks }

  abbrev pub seats_of : Pass K keeper → SeatsAt (Store K keeper)
  seats_of pass = record { stores = pass.stores.items; ledgers = pass.ledgers.items; breakers = pass.breakers.items; notes = pass.notes; turns = pass.turns; ticks = pass.ticks }

  abbrev pub standing : {L C : Type 0} → Links L → Times C → Pass K keeper → L → C → Stream → Standing (Store K keeper)
  standing links times pass link clock words = record { seats = seats_of pass; clock = clocked times clock; link = link_at links link; words = words }

  -- the same by what it works with
  abbrev pub beside : LinkAt → Clocked → Stream → Pass K keeper → Standing (Store K keeper)
  beside link clock words pass = record { seats = seats_of pass; clock = clock; link = link; words = words }

  -- Something was done over these objects, which held of the result: by this pass, with this clock, this link, and these random words
  abbrev pub DoesBy : {L C R X : Type 0} → Kinds (Store K keeper) → Links L → Times C → (R → Stream) → Objects K keeper → Pass K keeper → Pass K keeper → L → L → C → C → R → R → (List Doing → X → Type 0) → X → Type 0
  DoesBy kinds links times stream objects pass pass' link link' clock clock' rng rng' holds result =
      Does kinds (cells_of objects) (standing links times pass link clock (stream rng)) (standing links times pass' link' clock' (stream rng')) (λ events. holds events result)

  -- the same without a link, whatever one shows
  abbrev pub DoesUncalled : {C R X : Type 0} → Kinds (Store K keeper) → Times C → (R → Stream) → Objects K keeper → Pass K keeper → Pass K keeper → C → C → R → R → (List Doing → X → Type 0) → X → Type 0
  DoesUncalled kinds times stream objects pass pass' clock clock' rng rng' holds result = (link : LinkAt)
      → Does kinds (cells_of objects) (beside link (clocked times clock) (stream rng) pass) (beside link (clocked times clock') (stream rng') pass') (λ events. holds events result)

  -- the same without random words, whatever ones follow
  abbrev pub DoesUndrawn : {L C X : Type 0} → Kinds (Store K keeper) → Links L → Times C → Objects K keeper → Pass K keeper → Pass K keeper → L → L → C → C → (List Doing → X → Type 0) → X → Type 0
  DoesUndrawn kinds links times objects pass pass' link link' clock clock' holds result = (words : Stream)
      → Does kinds (cells_of objects) (standing links times pass link clock words) (standing links times pass' link' clock' words) (λ events. holds events result)

  -- the same by the pass alone, whatever a clock and a link show, and whatever random words follow
  abbrev pub DoesAlone : {X : Type 0} → Kinds (Store K keeper) → Objects K keeper → Pass K keeper → Pass K keeper → (List Doing → X → Type 0) → X → Type 0
  DoesAlone kinds objects pass pass' holds result = (clock : Clocked) (link : LinkAt) (words : Stream)
      → Does kinds (cells_of objects) (beside link clock words pass) (beside link clock words pass') (λ events. holds events result)

  -- A state call was made over these objects, whatever a link shows
  abbrev pub RunsStore : {C R X : Type 0} → Kinds (Store K keeper) → Times C → (R → Stream) → Objects K keeper → Pass K keeper → Pass K keeper → C → C → R → R → (List Doing → X → Type 0) → X → Type 0
  RunsStore kinds times stream objects pass pass' clock clock' rng rng' holds result = (events : List Doing) × holds events result
      × ((link : LinkAt) → Did kinds (cells_of objects) (beside link (clocked times clock) (stream rng) pass) events (beside link (clocked times clock') (stream rng') pass'))
