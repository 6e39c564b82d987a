use Rattle.delivery_turn.proofs.Retrying.{wants_again_judged}
use Rattle.delivery_turn.proofs.laws.a_reply_may_ask_for_another_attempt.Goals as goal

pub returns : goal.returns
returns c = wants_again_judged
