-- What a command does to turns.
use Rattle.std.specs.Prelude.{◌≡◌, ℕ, List}
use Rattle.actor_turns.specs.declared.command.TurnsCmd.{TurnsCmd}
use Rattle.actor_turns.specs.declared.command.TurnsReply.{TurnsReply}
use Rattle.actor_turns.specs.declared.turns.Turns.{Turns}
use Rattle.actor_turns.specs.Course.{Open, Answers, open_after, given_after}
use Rattle.actor_turns.specs.Turns.{HasOpen}

-- a command is answered, and what is open is as it says
pub record Answered (turns : Turns) (cmd : TurnsCmd) (reply : TurnsReply) (turns' : Turns) : Type 0 where
  pub answers : (held : List Open) → HasOpen held turns → Answers held turns.given cmd reply
  pub held : (held : List Open) → HasOpen held turns → HasOpen (open_after held cmd reply) turns'
  pub given : turns'.given ≡ given_after turns.given reply
  pub used : turns'.used ≡ turns.used
