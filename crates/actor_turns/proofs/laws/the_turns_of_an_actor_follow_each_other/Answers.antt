use Rattle.actor_turns.proofs.Following.{follow}
use Rattle.actor_turns.proofs.laws.the_turns_of_an_actor_follow_each_other.Goals as goal

pub returns : goal.returns
returns c = λ first history legal. follow history (λ earlier later entry whole. (legal.each earlier later entry whole).1)
