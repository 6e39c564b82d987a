-- Steps of the turns, and what a call of an actor does of its own.
use Rattle.std.specs.Prelude.{◌≡◌, ⊤, List, [], ◌∷◌, flat_map, Some, Result, Ok, Err}
use Rattle.turn_cell.specs.declared.error.Exhausted.{Exhausted}
use Rattle.turn_cell.specs.declared.object.Object.{Ghosts}
use Rattle.turn_cell.specs.Growth.{Grew}
use Rattle.turn_cell.specs.Sitting.{Begun, Sitting}
use Rattle.side_world.specs.declared.link.LinkCall.{LinkCall}
use Rattle.link_call.specs.LinkAt.{LinkAt, Asks}
use Rattle.actor_turns.specs.declared.turns.Turns.{Turns}
use Rattle.actor_turns.specs.declared.command.TurnsCmd.{TurnsCmd}
use Rattle.actor_turns.specs.declared.command.TurnsCmd.TheVariants.{Join, Look, Leave}
use Rattle.actor_turns.specs.declared.command.TurnsReply.{TurnsReply}
use Rattle.actor_turns.specs.declared.command.TurnsReply.TheVariants as says
use Rattle.actor_turns.specs.Course.{Step}
use Rattle.policy_run.specs.Event.{Event}
use Rattle.policy_run.specs.Effects.{AreNone, Clocked, Effects}

-- what a call does of its own: steps of the turns, and calls of the link
pub data Own : Type 0 where
  entered : Step → Own
  asked : LinkCall → Own

-- the replies that a command may have
abbrev pub Fits : TurnsCmd → TurnsReply → Type 0
Fits (Join actor) (says.Joined ticket) = ⊤
Fits (Join actor) (says.Full waiting) = ⊤
Fits (Join actor) says.NoMemory = ⊤
Fits (Join actor) reply = ⊥
Fits (Look ticket) says.Yours = ⊤
Fits (Look ticket) (says.Behind ahead) = ⊤
Fits (Look ticket) says.NotOpen = ⊤
Fits (Look ticket) reply = ⊥
Fits (Leave ticket) says.Left = ⊤
Fits (Leave ticket) says.NotOpen = ⊤
Fits (Leave ticket) reply = ⊥

-- the step answered this reply to this command, which fits it
pub record Answered (cmd : TurnsCmd) (reply : TurnsReply) (step : Step) : Type 0 where
  pub told : step.cmd ≡ cmd
  pub answer : step.reply ≡ reply
  pub fits : Fits cmd reply

abbrev pub TurnsSeat : Type 0
TurnsSeat = Sitting Turns TurnsCmd TurnsReply

abbrev pub TurnsGhosts : Type 1
TurnsGhosts = Ghosts Turns TurnsCmd TurnsReply

-- one step; or the cell was exhausted, and the seat shows the count
abbrev pub StepsBy : TurnsGhosts → Begun Turns → TurnsSeat → TurnsSeat → TurnsCmd → Result TurnsReply Exhausted → Type 0
StepsBy object cell seat seat' cmd (Ok reply) = (step : Step) × Answered cmd reply step × Grew object cell.first seat (step ∷ []) seat'
StepsBy object cell seat seat' cmd (Err e) = (seat'.count ≡ Some e.count) × Grew object cell.first seat [] seat'

abbrev pub entered_in : Own → List Step
entered_in (entered step) = step ∷ []
entered_in (asked call) = []

abbrev pub asked_in : Own → List LinkCall
asked_in (entered step) = []
asked_in (asked call) = call ∷ []

-- the seat of the turns' cell made these steps, and the link these calls, in order
pub record Did (object : TurnsGhosts) (cell : Begun Turns) (seat seat' : TurnsSeat) (link link' : LinkAt) (owns : List Own) : Type 0 where
  pub steps : Grew object cell.first seat (flat_map entered_in owns) seat'
  pub calls : Asks link (flat_map asked_in owns) link'

-- what a call works with
pub record At : Type 0 where
  pub seat : TurnsSeat
  pub link : LinkAt
  pub clock : Clocked

-- events did this to it
abbrev pub Went : TurnsGhosts → Begun Turns → At → List (Event Own) → At → Type 0
Went object cell at events after = Effects events (Did object cell at.seat after.seat at.link after.link) AreNone at.clock after.clock AreNone

-- there are events of which this holds, and which did this
abbrev pub Does : TurnsGhosts → Begun Turns → At → At → (List (Event Own) → Type 0) → Type 0
Does object cell at after holds = (events : List (Event Own)) × holds events × Went object cell at events after
