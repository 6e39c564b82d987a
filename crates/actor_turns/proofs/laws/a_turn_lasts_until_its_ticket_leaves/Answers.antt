use Rattle.actor_turns.proofs.Following.{lasts}
use Rattle.actor_turns.proofs.laws.a_turn_lasts_until_its_ticket_leaves.Goals as goal

pub returns : goal.returns
returns c = λ first history legal. lasts history (λ earlier later entry whole. (legal.each earlier later entry whole).1)
