-- Ledgers that are asked in order, and drains that are written out; and what is none.
use Rattle.std.proofs.Common.{◌≡◌, ◌<◌, ◌≤◌, ◌+◌, ◌-◌, ℕ, List, [], ◌∷◌, ◌++◌, Option, Some, None, refl, sym, subst, arith, min, append-nil}
use Rattle.std.proofs.Math.Nat.{min-le_right, le-min}
use Rattle.retry_core.specs.declared.policy.Bound.{Bound}
use Rattle.ledger_core.specs.declared.reply.LedgerReply.{LedgerReply}
use Rattle.topic_spec.specs.declared.sub.Sub.{Sub}
use Rattle.policy_run.specs.Event.{Event}
use Rattle.delivery_turn.specs.declared.ending.Turn.{Turn}
use Rattle.delivery_turn.specs.declared.ending.Turn.TheVariants as ends
use Rattle.delivery_turn.specs.Settling.{Own}
use Rattle.delivery_turn.specs.Delivery.{Delivery, Setting}
use Rattle.sidecar_objects.specs.declared.doing.Doing.{Doing}
use Rattle.sidecar_objects.specs.declared.doing.Doing.TheVariants.{Timed, Waited}
use Rattle.sidecar_turns.specs.declared.draining.Drained.{Drained}
use Rattle.sidecar_turns.specs.declared.draining.Drained.TheVariants as drained
use Rattle.sidecar_turns.specs.Brokers.{Sites}
use Rattle.sidecar_turns.specs.Delivering.{Delivers, DeliversFrom, IsIdle, idled, none_left, turn_events, went}
use Rattle.sidecar_turns.specs.Draining.{Drains, GoesOn, Pauses, Stops}
use Rattle.sidecar_turns.specs.Repeating.{Last, OneMore, Turns, ended, used_up, went_on}
use Rattle.sidecar_turns.proofs.InOrder.{behind_busy}

-- ---- ledgers in order

pub first : (place : ℕ) (setting : Setting) (settings : List Setting) (did : List (Event Own)) (turn : Turn) → Delivery setting did turn → ¬ IsIdle turn → DeliversFrom place (setting ∷ settings) (turn_events place setting.bound did) turn
first place setting settings did turn delivery busy = went setting settings (turn_events place setting.bound did) turn (record { did = did; delivers = delivery; whole = refl }) busy

pub second : (one two : Setting) (settings : List Setting) (idle did : List (Event Own)) (next : Option ℕ) (turn : Turn) → Delivery one idle (ends.Idle next) → Delivery two did turn → ¬ IsIdle turn
    → DeliversFrom 0 (one ∷ two ∷ settings) (turn_events 0 one.bound idle ++ turn_events 1 two.bound did) turn
second one two settings idle did next turn none-due delivery busy = subst (λ t. DeliversFrom 0 (one ∷ two ∷ settings) (turn_events 0 one.bound idle ++ turn_events 1 two.bound did) t) (behind_busy next turn busy)
    (idled one (two ∷ settings) (turn_events 0 one.bound idle) (turn_events 1 two.bound did) next turn (record { did = idle; delivers = none-due; whole = refl }) (first 1 two settings did turn delivery busy))

less_first : (now : ℕ) → min (now + 1) now ≡ now
less_first now = let low = min-le_right (now + 1) now in let high : now ≤ min (now + 1) now = le-min (omega arith) (omega arith) in omega (arith, low, high)

pub earlier_told : (one two : Setting) (idle other : List (Event Own)) (now : ℕ) → Delivery one idle (ends.Idle (Some (now + 1))) → Delivery two other (ends.Idle (Some now))
    → DeliversFrom 0 (one ∷ two ∷ []) (turn_events 0 one.bound idle ++ turn_events 1 two.bound other) (ends.Idle (Some now))
earlier_told one two idle other now none-due none-there =
    let events = turn_events 1 two.bound other in
    let last : DeliversFrom 1 (two ∷ []) (events ++ []) (ends.Idle (Some now)) = idled two [] events [] (Some now) (ends.Idle None) (record { did = other; delivers = none-there; whole = refl }) none_left in
    let whole = idled one (two ∷ []) (turn_events 0 one.bound idle) events (Some (now + 1)) (ends.Idle (Some now)) (record { did = idle; delivers = none-due; whole = refl }) (subst (λ l. DeliversFrom 1 (two ∷ []) l (ends.Idle (Some now))) (append-nil events) last) in
    subst (λ (n : ℕ). DeliversFrom 0 (one ∷ two ∷ []) (turn_events 0 one.bound idle ++ events) (ends.Idle (Some n))) (less_first now) whole

pub not_quiet : (inbound : List Bound) (subs : List Sub) (event : Doing) (events : List Doing) (turn : Turn) → Delivers (record { port = None; inbound = inbound }) subs (event ∷ events) turn → ⊥
not_quiet inbound subs event events turn delivers = let is : event ∷ events ≡ [] = delivers.0 in absurd (cc)

-- ---- drains

not_used_up : drained.Done ≡ drained.UsedUp → ⊥
not_used_up e = absurd (cc)

last_idle : (sites : Sites) (subs : List Sub) (began : ℕ) (events : List Doing) → Delivers sites subs events (ends.Idle None) → Last (Delivers sites subs) (Stops began) events drained.Done
last_idle sites subs began events delivers = record { turn = ends.Idle None; taken = delivers; stops_so = refl }

pub alone : (inbound : List Bound) (subs : List Sub) (began : ℕ) → Drains (record { port = None; inbound = inbound }) subs began [] drained.Done
alone inbound subs began = record {
  taken = 1;
  turned = ended [] drained.Done (last_idle (record { port = None; inbound = inbound }) subs began [] (refl, refl));
  few = omega arith;
  all = λ e. absurd (not_used_up e);
}

two_turns : (sites : Sites) (subs : List Sub) (began : ℕ) (one two : List Doing) → OneMore (Delivers sites subs) (GoesOn began) one → Delivers sites subs two (ends.Idle None) → Drains sites subs began (one ++ two) drained.Done
two_turns sites subs began one two more delivers = record {
  taken = 2;
  turned = went_on 1 one two drained.Done more (ended two drained.Done (last_idle sites subs began two delivers));
  few = omega arith;
  all = λ e. absurd (not_used_up e);
}

pub delivered : (sites : Sites) (subs : List Sub) (began number sub : ℕ) (settled : LedgerReply) (one two : List Doing) → Delivers sites subs one (ends.Delivered number sub settled) → Delivers sites subs two (ends.Idle None) → Drains sites subs began (one ++ two) drained.Done
delivered sites subs began number sub settled one two delivers idle =
    two_turns sites subs began one two (record { first = one; between = []; turn = ends.Delivered number sub settled; taken = delivers; goes_on = refl; whole = sym (append-nil one) }) idle

pub later : (sites : Sites) (subs : List Sub) (began next last : ℕ) (one two : List Doing) → Delivers sites subs one (ends.Idle (Some next)) → next ≤ began + 60000 → Delivers sites subs two (ends.Idle None)
    → Drains sites subs began ((one ++ Timed last ∷ Waited (next - last) ∷ []) ++ two) drained.Done
later sites subs began next last one two idle near delivers =
    let pause : List Doing = Timed last ∷ Waited (next - last) ∷ [] in
    two_turns sites subs began (one ++ pause) two (record { first = one; between = pause; turn = ends.Idle (Some next); taken = idle; goes_on = (near, (last, refl)); whole = refl }) delivers

-- ---- what is none

quiet : (inbound : List Bound) (subs : List Sub) (began taken : ℕ) (events : List Doing) (how : Drained) → Turns (Delivers (record { port = None; inbound = inbound }) subs) (GoesOn began) (Stops began) taken events how → events ≡ []
quiet inbound subs began taken events how used_up = refl
quiet inbound subs began taken events how (ended all end last) = last.taken.0
quiet inbound subs began taken events how (went_on left one rest end more turned) = absurd (subst (λ t. GoesOn began t more.between) more.taken.1 more.goes_on)

pub not_busy : (inbound : List Bound) (subs : List Sub) (began : ℕ) (event : Doing) (events : List Doing) (how : Drained) → Drains (record { port = None; inbound = inbound }) subs began (event ∷ events) how → ⊥
not_busy inbound subs began event events how drains = let is : event ∷ events ≡ [] = quiet inbound subs began drains.taken (event ∷ events) how drains.turned in absurd (cc)

pub not_so_late : (began : ℕ) (between : List Doing) → GoesOn began (ends.Idle (Some (began + 60001))) between → ⊥
not_so_late began between goes = absurd (omega (arith, goes.0))

pub not_so_soon : (began : ℕ) (how : Drained) → Stops began (ends.Idle (Some (began + 60000))) how → ⊥
not_so_soon began how stops = absurd (omega (arith, stops.0))

pub not_so_long : (last due : ℕ) → 0 < last → 0 < due → Pauses due (Timed last ∷ Waited due ∷ []) → ⊥
not_so_long last due some long (told, is) =
    let one : last ≡ told = cc in
    let other : due ≡ due - told = cc in
    absurd (omega (arith, some, long, one, other))
