-- Ledgers that are asked in order, up to the first that isn't idle.
use Rattle.std.proofs.Common.{◌≡◌, ◌<◌, ◌≤◌, ◌+◌, ℕ, suc, min, List, [], ◌∷◌, ◌++◌, length, map, drop, get_or, Option, Some, None, refl, sym, ap, subst, arith, append-nil, append_assoc}
use Rattle.std.proofs.Math.Numerals.{suc-eq-add-one}
use Rattle.std.proofs.Math.Nat.{le-min, min-le_left, min-le_right}
use mathlib.Core.Option.{some}
use lib.ListN.{get_elem?}
use Rattle.std.proofs.lemmas.List.{get_or_default}
use Rattle.atomic_table.proofs.Lists.{at_index, drop_at}
use Rattle.retry_core.specs.declared.policy.Bound.{Bound}
use Rattle.topic_spec.specs.declared.sub.Sub.{Sub}
use Rattle.delivery_turn.specs.declared.ending.Turn.{Turn}
use Rattle.delivery_turn.specs.declared.ending.Turn.TheVariants.{Delivered, Idle, Held, Exhausted}
use Rattle.delivery_turn.specs.Delivery.{Setting}
use Rattle.sidecar_objects.specs.declared.doing.Doing.{Doing}
use Rattle.sidecar_objects.specs.Kind.{Kinds, CellsAt}
use Rattle.sidecar_objects.specs.Did.{Does, Standing}
use Rattle.sidecar_objects.specs.Composed.{did_nothing, did_on}
use Rattle.sidecar_turns.specs.Delivering.{DeliversAt, DeliversEach, DeliversFrom, IsIdle, behind, earlier, idled, none_left, setting_at, went}

-- ---- moments, the earlier of them

min_assoc : (a b c : ℕ) → min a (min b c) ≡ min (min a b) c
min_assoc a b c =
    let all = min-le_left a (min b c) in
    let rest = min-le_right a (min b c) in
    let b-is = min-le_left b c in
    let c-is = min-le_right b c in
    let all' = min-le_left (min a b) c in
    let rest' = min-le_right (min a b) c in
    let a-is' = min-le_left a b in
    let b-is' = min-le_right a b in
    let le : min a (min b c) ≤ min (min a b) c = le-min (le-min all (omega (arith, rest, b-is))) (omega (arith, rest, c-is)) in
    let ge : min (min a b) c ≤ min a (min b c) = le-min (omega (arith, all', a-is')) (le-min (omega (arith, all', b-is')) rest') in
    omega (arith, le, ge)

earlier_assoc : (a b c : Option ℕ) → earlier a (earlier b c) ≡ earlier (earlier a b) c
earlier_assoc None b c = refl
earlier_assoc (Some a) None c = refl
earlier_assoc (Some a) (Some b) None = refl
earlier_assoc (Some a) (Some b) (Some c) = ap {A = ℕ} {B = Option ℕ} (λ n. Some n) (min_assoc a b c)

earlier_none : (a : Option ℕ) → earlier a None ≡ a
earlier_none None = refl
earlier_none (Some a) = refl

-- ---- what stands behind idle ledgers

behind_none : (turn : Turn) → behind None turn ≡ turn
behind_none (Delivered number sub settled) = refl
behind_none (Idle next) = refl
behind_none Held = refl
behind_none (Exhausted count) = refl

behind_both : (a b : Option ℕ) (turn : Turn) → behind a (behind b turn) ≡ behind (earlier a b) turn
behind_both a b (Delivered number sub settled) = refl
behind_both a b (Idle next) = ap Idle (earlier_assoc a b next)
behind_both a b Held = refl
behind_both a b (Exhausted count) = refl

pub behind_busy : (next : Option ℕ) (turn : Turn) → ¬ IsIdle turn → behind next turn ≡ turn
behind_busy next (Delivered number sub settled) busy = refl
behind_busy next (Idle later) busy = absurd (busy (later, refl))
behind_busy next Held busy = refl
behind_busy next (Exhausted count) busy = refl

-- ---- one ledger after the other

-- what is bound at a place
pub bound_there : (inbound : List Bound) (place : ℕ) (other : Bound) → place < length inbound → get_elem? inbound place ≡ some (get_or inbound place other)
bound_there inbound place other low = at_index inbound place (get_or inbound place other) low (get_or_default inbound place other (get_or inbound place other) low)

module _ (port : ℕ) (subs : List Sub) (inbound : List Bound) where
  abbrev settings_from : ℕ → List Setting
  settings_from place = map (setting_at port subs) (drop place inbound)

  -- those before this place were idle, and so: whatever comes of the others comes behind them
  abbrev pub Leads : ℕ → Option ℕ → List Doing → Type 0
  Leads place next events = (more : List Doing) (turn : Turn) → DeliversFrom place (settings_from place) more turn → DeliversEach port subs inbound (events ++ more) (behind next turn)

  none_yet : Leads 0 None []
  none_yet more turn from = subst (DeliversEach port subs inbound more) (sym (behind_none turn)) from

  module _ (place : ℕ) (bound : Bound) (at : get_elem? inbound place ≡ some bound) where
    here_first : settings_from place ≡ setting_at port subs bound ∷ settings_from (suc place)
    here_first = ap (map (setting_at port subs)) (drop_at inbound place bound at)

    idle_here : (next later : Option ℕ) (before first : List Doing) → Leads place next before → DeliversAt place (setting_at port subs bound) first (Idle later) → Leads (suc place) (earlier next later) (before ++ first)
    idle_here next later before first leads delivers more turn from =
        let all = leads (first ++ more) (behind later turn) (subst (λ l. DeliversFrom place l (first ++ more) (behind later turn)) (sym here_first) (idled (setting_at port subs bound) (settings_from (suc place)) first more later turn delivers from)) in
        subst (λ (z : List Doing × Turn). DeliversEach port subs inbound z.0 z.1) (λ i. (sym (append_assoc before first more) i, behind_both next later turn i)) all

    busy_here : (next : Option ℕ) (turn : Turn) (before last : List Doing) → ¬ IsIdle turn → Leads place next before → DeliversAt place (setting_at port subs bound) last turn → DeliversEach port subs inbound (before ++ last) turn
    busy_here next turn before last busy leads delivers =
        subst (DeliversEach port subs inbound (before ++ last)) (behind_busy next turn busy) (leads last turn (subst (λ l. DeliversFrom place l last turn) (sym here_first) (went (setting_at port subs bound) (settings_from (suc place)) last turn delivers busy)))

  all_idle : (place : ℕ) (next : Option ℕ) (before : List Doing) → drop place inbound ≡ [] → Leads place next before → DeliversEach port subs inbound before (Idle next)
  all_idle place next before over leads =
      subst (λ (z : List Doing × Turn). DeliversEach port subs inbound z.0 z.1) (λ i. (append-nil before i, Idle (earlier_none next i)))
      (leads [] (Idle None) (subst (λ l. DeliversFrom place (map (setting_at port subs) l) [] (Idle None)) (sym over) none_left))

  -- ---- the same of what is done

  module _ {O : Type 0} (kinds : Kinds O) (cells : CellsAt O) (at : Standing O) where
    pub asked_none : Does kinds cells at at (Leads 0 None)
    asked_none = record { events = []; held = none_yet; went = did_nothing kinds cells at }

    pub asked_all : (between : Standing O) (place : ℕ) → drop place inbound ≡ [] → (next : Option ℕ) → Does kinds cells at between (Leads place next) → Does kinds cells at between (λ events. DeliversEach port subs inbound events (Idle next))
    asked_all between place over next so-far = record { events = so-far.events; held = all_idle place next so-far.events over so-far.held; went = so-far.went }

    module _ (between after : Standing O) (place : ℕ) (bound : Bound) (here : get_elem? inbound place ≡ some bound) (next : Option ℕ) (so-far : Does kinds cells at between (Leads place next)) where
      pub asked_idle : (later first : Option ℕ) → first ≡ earlier next later → Does kinds cells between after (λ events. DeliversAt place (setting_at port subs bound) events (Idle later)) → Does kinds cells at after (Leads (place + 1) first)
      asked_idle later first is turned = record {
        events = so-far.events ++ turned.events;
        held = subst (λ (z : ℕ × Option ℕ). Leads z.0 z.1 (so-far.events ++ turned.events)) (λ i. (suc-eq-add-one place i, sym is i)) (idle_here place bound here next later so-far.events turned.events so-far.held turned.held);
        went = did_on kinds cells at so-far.events between turned.events after so-far.went turned.went;
      }

      pub asked_busy : (turn : Turn) → ¬ IsIdle turn → Does kinds cells between after (λ events. DeliversAt place (setting_at port subs bound) events turn) → Does kinds cells at after (λ events. DeliversEach port subs inbound events turn)
      asked_busy turn busy turned = record {
        events = so-far.events ++ turned.events;
        held = busy_here place bound here next turn so-far.events turned.events busy so-far.held turned.held;
        went = did_on kinds cells at so-far.events between turned.events after so-far.went turned.went;
      }
