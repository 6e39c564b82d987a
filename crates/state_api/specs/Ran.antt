-- What a state call under its policies came to.
use Rattle.std.specs.Prelude.{◌≡◌, ◌≢◌, ℕ, List, Result, Ok, Err}
use Rattle.turn_cell.specs.declared.entry.Entry.{Entry}
use Rattle.turn_cell.specs.declared.object.Object.{Ghosts}
use Rattle.turn_cell.specs.Growth.{Grew}
use Rattle.turn_cell.specs.Sitting.{Begun, Sitting}
use Rattle.turn_cell.specs.declared.error.ApiErr.{ApiErr}
use Rattle.turn_cell.specs.declared.error.ApiErr.TheVariants as error
use Rattle.retry_core.specs.declared.policy.Bound.{Bound}
use Rattle.breaker_core.specs.Course.{Step as BreakerStep}
use Rattle.state_core.specs.declared.command.Cmd.{Cmd}
use Rattle.state_core.specs.declared.reply.Reply.TheVariants.{Failed, NoMemory}
use Rattle.state_core.specs.Fits.{Fits}
use Rattle.state_core.specs.History.{Step}
use Rattle.policy_run.specs.Event.{Event}
use Rattle.policy_run.specs.Attempts.{Attempts}
use Rattle.policy_run.specs.Effects.{Effects, Times}
use Rattle.policy_run.specs.declared.outcome.Outcome.{Outcome}
use Rattle.policy_run.specs.declared.outcome.Outcome.TheVariants as outcome
use Rattle.state_api.specs.declared.call.StateAnswer.{StateAnswer}
use Rattle.state_api.specs.declared.call.StateAnswer.TheVariants as answer
use Rattle.state_api.specs.declared.running.Ran.{Ran}
use Rattle.state_api.specs.declared.running.Ran.TheVariants.{Replied, Refused}
use Rattle.state_api.specs.Call.{Makes}

-- an outcome as what the caller is told: the last reply, or the breaker's refusal
abbrev pub ran_of : Outcome StateAnswer (Unit {0}) → Result Ran ApiErr
ran_of (outcome.Good (answer.Replied reply)) = Ok (Replied reply)
ran_of (outcome.Good (answer.Exhausted count)) = Err (error.Exhausted count)
ran_of (outcome.Bad failed) = Ok (Replied Failed)
ran_of (outcome.Refused refusal) = Ok (Refused refusal)
ran_of (outcome.Exhausted count) = Err (error.Exhausted count)
ran_of outcome.NoMemory = Err error.NoMemory

-- a reply that the command may have, which is no want of memory, or a refusal of the breaker
abbrev pub IsAnswer : Cmd → Ran → Type 0
IsAnswer cmd (Replied reply) = Fits cmd reply × (reply ≢ NoMemory)
IsAnswer cmd (Refused refusal) = Unit {0}

-- A command under what is bound to it came to this, by attempts of which each is the command at a moment of its own, and whose events had these effects
abbrev pub RunsBy : Bound → Cmd → Result Ran ApiErr → (List Step → Type 0) → (List BreakerStep → Type 0) → Times → (List ℕ → Type 0) → Type 0
RunsBy bound cmd result did held clock drawn = (events : List (Event Step)) × (outcome : Outcome StateAnswer (Unit {0}))
    × Attempts bound (λ limit. Makes cmd) outcome events × (result ≡ ran_of outcome) × Effects events did held clock.before clock.after drawn

-- by these steps a seat of the cell went on
abbrev pub Grows : {O C R : Type 0} → Ghosts O C R → Begun O → Sitting O C R → Sitting O C R → List (Entry C R) → Type 0
Grows object cell seat seat' steps = Grew object cell.first seat steps seat'
