-- Parts of an idle turn, one after the other, as what was done over all objects.
use Rattle.std.proofs.Common.{◌≡◌, ℕ, ◌++◌, inr, refl}
use Rattle.delivery_turn.specs.declared.ending.Turn.{Turn}
use Rattle.delivery_turn.specs.declared.ending.Turn.TheVariants as ended
use Rattle.sidecar_objects.specs.Kind.{Kinds, CellsAt}
use Rattle.sidecar_objects.specs.Did.{Does, Standing}
use Rattle.sidecar_objects.specs.Composed.{did_on}
use Rattle.sidecar_turns.specs.declared.ticking.TickTurn.{TickTurn}
use Rattle.sidecar_turns.specs.declared.ticking.TickTurn.TheVariants as ticking
use Rattle.sidecar_turns.specs.declared.idling.IdleTurn.{IdleTurn}
use Rattle.sidecar_turns.specs.declared.idling.IdleTurn.TheVariants.{Did, Idle, Held, Exhausted}
use Rattle.sidecar_turns.specs.Idling.{Ends, Part, Then, both, of_delivery, of_tick}
use Rattle.sidecar_turns.specs.Idling as idling

module _ {O : Type 0} (kinds : Kinds O) (cells : CellsAt O) (part others : Part) (at : Standing O) where
  -- it ended the turn
  pub alone_done : (after : Standing O) (turn : IdleTurn) → Does kinds cells at after (λ events. part events turn) → Ends turn → Does kinds cells at after (λ events. Then part others events turn)
  alone_done after turn does ends = record { events = does.events; held = idling.alone does.held ends; went = does.went }

  -- the others came behind it
  pub both_done : (between after : Standing O) (one two turn : IdleTurn) → Does kinds cells at between (λ events. part events one) → ¬ Ends one → Does kinds cells between after (λ events. others events two) → turn ≡ both one two
      → Does kinds cells at after (λ events. Then part others events turn)
  both_done between after one two turn does busy more is = record {
    events = does.events ++ more.events;
    held = idling.followed does.events more.events one two does.held busy more.held refl is;
    went = did_on kinds cells at does.events between more.events after does.went more.went;
  }

-- ---- exhausted cells

-- a part that came so was exhausted
pub tick_spent : (turn : TickTurn) (count : ℕ) → of_tick turn ≡ Exhausted count → turn ≡ ticking.Exhausted count
tick_spent (ticking.Ticked posted) count is = absurd (cc)
tick_spent (ticking.Idle next) count is = absurd (cc)
tick_spent ticking.Held count is = absurd (cc)
tick_spent (ticking.Exhausted there) count is = same is
  where
    same : Exhausted there ≡ Exhausted count → ticking.Exhausted there ≡ ticking.Exhausted count
    same e = cc

pub delivery_spent : (turn : Turn) (count : ℕ) → of_delivery turn ≡ Exhausted count → turn ≡ ended.Exhausted count
delivery_spent (ended.Delivered number sub settled) count is = absurd (cc)
delivery_spent (ended.Idle next) count is = absurd (cc)
delivery_spent ended.Held count is = absurd (cc)
delivery_spent (ended.Exhausted there) count is = same is
  where
    same : Exhausted there ≡ Exhausted count → ended.Exhausted there ≡ ended.Exhausted count
    same e = cc

-- of two parts, of which the first did not end the turn, it was the second
pub second_spent : (one two : IdleTurn) (count : ℕ) → ¬ Ends one → both one two ≡ Exhausted count → two ≡ Exhausted count
second_spent one (Exhausted there) count busy is = is
second_spent one Held count busy is = absurd (cc)
second_spent one Did count busy is = absurd (cc)
second_spent Did (Idle next) count busy is = absurd (cc)
second_spent (Idle first) (Idle next) count busy is = absurd (cc)
second_spent Held (Idle next) count busy is = absurd (cc)
second_spent (Exhausted there) (Idle next) count busy is = absurd (busy (inr (there, refl)))
