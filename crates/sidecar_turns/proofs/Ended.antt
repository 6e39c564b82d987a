-- No turn that ends the others leaves them used up.
use Rattle.std.proofs.Common.{◌≡◌, ◌∙◌, ℕ, Some, None, sym}
use Rattle.delivery_turn.specs.declared.ending.Turn.{Turn}
use Rattle.delivery_turn.specs.declared.ending.Turn.TheVariants.{Delivered, Idle, Held, Exhausted}
use Rattle.sidecar_turns.specs.declared.draining.Drained.{Drained}
use Rattle.sidecar_turns.specs.declared.draining.Drained.TheVariants as drained
use Rattle.sidecar_turns.specs.declared.ticking.TickTurn.{TickTurn}
use Rattle.sidecar_turns.specs.declared.ticking.TickTurn.TheVariants as ticking
use Rattle.sidecar_turns.specs.Draining.{Stops}
use Rattle.sidecar_turns.specs.Taking.{TicksEnd}

is_not : (how other : Drained) → how ≡ other → (other ≡ drained.UsedUp → ⊥) → how ≡ drained.UsedUp → ⊥
is_not how other is differs used = differs (sym is ∙ used)

done_differs : drained.Done ≡ drained.UsedUp → ⊥
done_differs e = absurd (cc)

held_differs : drained.Held ≡ drained.UsedUp → ⊥
held_differs e = absurd (cc)

spent_differs : (count : ℕ) → drained.Spent count ≡ drained.UsedUp → ⊥
spent_differs count e = absurd (cc)

pub drain_ended : (began : ℕ) (how : Drained) (turn : Turn) → Stops began turn how → how ≡ drained.UsedUp → ⊥
drain_ended began how (Delivered number sub settled) never = absurd never
drain_ended began how (Idle None) is = is_not how drained.Done is done_differs
drain_ended began how (Idle (Some next)) is = is_not how drained.Done is.1 done_differs
drain_ended began how Held is = is_not how drained.Held is held_differs
drain_ended began how (Exhausted count) is = is_not how (drained.Spent count) is (spent_differs count)

pub ticks_ended : (how : Drained) (turn : TickTurn) → TicksEnd turn how → how ≡ drained.UsedUp → ⊥
ticks_ended how (ticking.Ticked posted) never = absurd never
ticks_ended how (ticking.Idle next) is = is_not how drained.Done is done_differs
ticks_ended how ticking.Held is = is_not how drained.Held is held_differs
ticks_ended how (ticking.Exhausted count) is = is_not how (drained.Spent count) is (spent_differs count)
