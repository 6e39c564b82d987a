-- Turns of a kind, one after the other, up to the one that ends them.
use Rattle.std.specs.Prelude.{◌≡◌, ◌≤◌, ℕ, suc, List, [], ◌++◌, Option, Some, None}
use Rattle.sidecar_objects.specs.declared.doing.Doing.{Doing}
use Rattle.sidecar_turns.specs.declared.draining.Drained.{Drained}
use Rattle.sidecar_turns.specs.declared.draining.Drained.TheVariants as drained

-- one turn that a further one follows, and what stands between them
pub record OneMore {T : Type 0} (turns : List Doing → T → Type 0) (follows : T → List Doing → Type 0) (events : List Doing) : Type 0 where
  pub first : List Doing
  pub between : List Doing
  pub turn : T
  pub taken : turns first turn
  pub goes_on : follows turn between
  pub whole : events ≡ first ++ between

-- the last turn
pub record Last {T : Type 0} (turns : List Doing → T → Type 0) (stops : T → Drained → Type 0) (events : List Doing) (how : Drained) : Type 0 where
  pub turn : T
  pub taken : turns events turn
  pub stops_so : stops turn how

-- so many turns of these, one after the other: the last one ends them, or as many were taken as there may be
pub data Turns {T : Type 0} (turns : List Doing → T → Type 0) (follows : T → List Doing → Type 0) (stops : T → Drained → Type 0) : ℕ → List Doing → Drained → Type 0 where
  used_up : Turns turns follows stops 0 [] drained.UsedUp
  ended : (events : List Doing) (how : Drained) → Last turns stops events how → Turns turns follows stops 1 events how
  went_on : (taken : ℕ) (first rest : List Doing) (how : Drained) → OneMore turns follows first → Turns turns follows stops taken rest how → Turns turns follows stops (suc taken) (first ++ rest) how

-- At most 4,096 turns are taken; all of them are, where no turn was the last one
pub record Repeats {T : Type 0} (turns : List Doing → T → Type 0) (follows : T → List Doing → Type 0) (stops : T → Drained → Type 0) (events : List Doing) (how : Drained) : Type 0 where
  pub taken : ℕ
  pub turned : Turns turns follows stops taken events how
  pub few : taken ≤ 4096
  pub all : how ≡ drained.UsedUp → taken ≡ 4096

-- a turn behind which a further one follows, or which ended them
abbrev pub StepsOn : {T : Type 0} → (List Doing → T → Type 0) → (T → List Doing → Type 0) → (T → Drained → Type 0) → List Doing → Option Drained → Type 0
StepsOn turns follows stops events None = OneMore turns follows events
StepsOn turns follows stops events (Some how) = Last turns stops events how
