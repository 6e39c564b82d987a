-- Calls of actors: how requests name one, and what is done and answered, over all objects.
use Rattle.std.specs.Prelude.{◌≡◌, ◌==◌, ℕ, Bool, not, ◌&&◌, List, ◌++◌, codes, map, IsTrue, Result}
use Rattle.std.specs.List.{list_any}
use Rattle.side_base.specs.declared.message.Request.{Request}
use Rattle.side_base.specs.declared.message.Response.{Response}
use Rattle.turn_cell.specs.declared.error.ApiErr.{ApiErr}
use Rattle.policy_run.specs.Event.{Event}
use Rattle.link_call.specs.Came.{Gives, Lacks}
use Rattle.actor_api.specs.Stepping.{Own, asked, entered}
use Rattle.actor_api.specs.Calling.{Invokes}
use Rattle.sidecar_objects.specs.declared.doing.Doing.{Doing}
use Rattle.sidecar_objects.specs.declared.doing.Doing.TheVariants.{Asked, Stepped}
use Rattle.sidecar_objects.specs.declared.doing.SlotStep.TheVariants.{Turns}
use Rattle.sidecar_objects.specs.Doing.{laid}
use Rattle.sidecar_core.specs.declared.config.Config.{Config}
use Rattle.sidecar_core.specs.Responses.{bad_actor}

-- ---- names

-- the text holds a bar, `|`
abbrev pub has_bar : List ℕ → Bool
has_bar text = list_any (λ byte. byte == 124) text

-- neither the kind nor the id holds one
abbrev pub is_actor_name : List ℕ → List ℕ → Bool
is_actor_name kind id = not (has_bar kind) && not (has_bar id)

-- these are the kind and the id of an actor
abbrev pub IsActorName : List ℕ → List ℕ → Type 0
IsActorName kind id = IsTrue (is_actor_name kind id)

-- the actor's name: its kind, two bars and its id
abbrev pub actor_name : List ℕ → List ℕ → List ℕ
actor_name kind id = kind ++ codes "||" ++ id

-- ---- calls

-- what a call does of its own is a step of the turns, or a call of the link
abbrev pub does_own : Own → Doing
does_own (entered step) = Stepped (Turns step)
does_own (asked call) = Asked call

-- a method of this actor is called, in its turn
pub record AtTurns (config : Config) (request : Request) (actor : List ℕ) (events : List Doing) (reply : Result Response ApiErr) : Type 0 where
  pub course : List (Event Own)
  pub invokes : Invokes config.app_port request actor course reply
  pub whole : events ≡ map (laid does_own 0) course

-- A request to call a method of an actor: its kind and its id are judged before all else. There may be no memory before anything is done
pub data AtActor (config : Config) (request : Request) (kind id : List ℕ) (events : List Doing) (reply : Result Response ApiErr) : Type 0 where
  refused : ¬ IsActorName kind id → Gives bad_actor events reply → AtActor config request kind id events reply
  lacks : IsActorName kind id → Lacks events reply → AtActor config request kind id events reply
  called : IsActorName kind id → AtTurns config request (actor_name kind id) events reply → AtActor config request kind id events reply
