-- Turns of delivery over all ledgers, as what is done over all objects.
use Rattle.std.proofs.Common.{inl, inr}
use Rattle.std.specs.Prelude.{◌≡◌, ◌⊎◌, ◌+◌, ℕ, suc, min, List, [], ◌∷◌, ◌++◌, map, unwrap_or, Option, Some, None}
use mathlib.Core.Option.{some}
use lib.ListN.{get_elem?}
use Rattle.retry_core.specs.declared.policy.Bound.{Bound}
use Rattle.topic_spec.specs.declared.sub.Sub.{Sub}
use Rattle.policy_run.specs.Event.{Event}
use Rattle.delivery_turn.specs.declared.ending.Turn.{Turn}
use Rattle.delivery_turn.specs.declared.ending.Turn.TheVariants.{Idle}
use Rattle.delivery_turn.specs.Settling.{Own, entered, asked}
use Rattle.delivery_turn.specs.Delivery.{Delivery, Setting}
use Rattle.sidecar_objects.specs.declared.doing.Doing.{Doing}
use Rattle.sidecar_objects.specs.declared.doing.Doing.TheVariants.{Asked, Stepped}
use Rattle.sidecar_objects.specs.declared.doing.SlotStep.TheVariants.{Ledger}
use Rattle.sidecar_objects.specs.Doing.{laid}
use Rattle.sidecar_objects.specs.Kind.{SeatsAt, breakers, ledgers}
use Rattle.sidecar_objects.specs.Shown.{Shows, ShowsAt}
use Rattle.sidecar_turns.specs.Brokers.{Sites}

-- ---- one turn

-- what a turn does of its own, where its ledger is the one at this place
abbrev pub own_at : ℕ → Own → Doing
own_at place (entered step) = Stepped (Ledger place step)
own_at place (asked call) = Asked call

-- the events of a turn there, where this is bound
abbrev pub turn_events : ℕ → Bound → List (Event Own) → List Doing
turn_events place bound events = map (laid (own_at place) (unwrap_or bound.breaker 0)) events

-- a turn of delivery on the ledger at this place
pub record DeliversAt (place : ℕ) (setting : Setting) (events : List Doing) (turn : Turn) : Type 0 where
  pub did : List (Event Own)
  pub delivers : Delivery setting did turn
  pub whole : events ≡ turn_events place setting.bound did

-- ---- one ledger after the other

-- none is due there
abbrev pub IsIdle : Turn → Type 0
IsIdle turn = (next : Option ℕ) × (turn ≡ Idle next)

-- the earlier of two moments, where there are any
abbrev pub earlier : Option ℕ → Option ℕ → Option ℕ
earlier None other = other
earlier (Some a) None = Some a
earlier (Some a) (Some b) = Some (min a b)

-- what a turn on later ledgers came to, behind idle ones of which the first delivery will be due at `next`
abbrev pub behind : Option ℕ → Turn → Turn
behind next (Idle later) = Idle (earlier next later)
behind next other = other

-- A turn on each ledger from this place on, in order, up to the first that isn't idle; where all are, the earliest moment at which one will be due
pub data DeliversFrom : ℕ → List Setting → List Doing → Turn → Type 0 where
  none_left : {place : ℕ} → DeliversFrom place [] [] (Idle None)
  went : {place : ℕ} (setting : Setting) (settings : List Setting) (events : List Doing) (turn : Turn) → DeliversAt place setting events turn → ¬ IsIdle turn
      → DeliversFrom place (setting ∷ settings) events turn
  idled : {place : ℕ} (setting : Setting) (settings : List Setting) (first rest : List Doing) (next : Option ℕ) (turn : Turn) → DeliversAt place setting first (Idle next)
      → DeliversFrom (suc place) settings rest turn → DeliversFrom place (setting ∷ settings) (first ++ rest) (behind next turn)

-- ---- by what is configured

-- what a turn stands on, where this is bound to what comes from the broker
abbrev pub setting_at : ℕ → List Sub → Bound → Setting
setting_at port subs bound = record { port = port; subs = subs; bound = bound }

-- a turn on the ledgers of all brokers in order, to which this is bound
abbrev pub DeliversEach : ℕ → List Sub → List Bound → List Doing → Turn → Type 0
DeliversEach port subs inbound events turn = DeliversFrom 0 (map (setting_at port subs) inbound) events turn

-- without an app port there is no step, and nothing will be due; with one, such a turn
abbrev pub DeliversToApp : Option ℕ → List Bound → List Sub → List Doing → Turn → Type 0
DeliversToApp None inbound subs events turn = (events ≡ []) × (turn ≡ Idle None)
DeliversToApp (Some port) inbound subs events turn = DeliversEach port subs inbound events turn

abbrev pub Delivers : Sites → List Sub → List Doing → Turn → Type 0
Delivers sites subs events turn = DeliversToApp sites.port sites.inbound subs events turn

-- ---- exhausted cells

-- the seat of the ledger at this place shows the count, or that of the breaker that is bound there
abbrev pub ShowsTurn : {O : Type 0} → ℕ → Bound → SeatsAt O → ℕ → Type 0
ShowsTurn place bound seats count = ShowsAt place count seats.ledgers ⊎ ((k : ℕ) × (bound.breaker ≡ Some k) × ShowsAt k count seats.breakers)

-- so does that of some broker's ledger, or of its breaker
pub record ShowsOne {O : Type 0} (inbound : List Bound) (seats : SeatsAt O) (count : ℕ) : Type 0 where
  pub place : ℕ
  pub bound : Bound
  pub there : get_elem? inbound place ≡ some bound
  pub shown : ShowsTurn place bound seats count

-- so a seat of the pass shows it
pub one_shows : {O : Type 0} (inbound : List Bound) (seats : SeatsAt O) (count : ℕ) → ShowsOne inbound seats count → Shows seats count
one_shows inbound seats count one = by one.shown
  where
    by : ShowsTurn one.place one.bound seats count → Shows seats count
    by (inl ledger) = record { kind = ledgers; place = one.place; shown = ledger }
    by (inr breaker) = record { kind = breakers; place = breaker.0; shown = breaker.2 }

-- ---- ledgers behind one that is idle

-- a turn on the second ledger, where the first is idle
abbrev pub GoesPast : Setting → Setting → List Setting → Type 0
GoesPast one two settings = (idle did : List (Event Own)) (next : Option ℕ) (turn : Turn) → Delivery one idle (Idle next) → Delivery two did turn → ¬ IsIdle turn
    → DeliversFrom 0 (one ∷ two ∷ settings) (turn_events 0 one.bound idle ++ turn_events 1 two.bound did) turn

-- both are idle, and the second will have something to do first
abbrev pub TellsEarlier : Setting → Setting → Type 0
TellsEarlier one two = (first second : List (Event Own)) (now : ℕ) → Delivery one first (Idle (Some (now + 1))) → Delivery two second (Idle (Some now))
    → DeliversFrom 0 (one ∷ two ∷ []) (turn_events 0 one.bound first ++ turn_events 1 two.bound second) (Idle (Some now))
