use Rattle.delivery_turn.proofs.Counts.{turn_draws}
use Rattle.delivery_turn.proofs.laws.a_word_is_drawn_for_retry_alone.Goals as goal

pub returns : goal.returns
returns c setting events turn d unspent = turn_draws setting events turn d unspent
