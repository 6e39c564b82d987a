use Rattle.delivery_turn.proofs.Verdicts.{one_verdict}
use Rattle.delivery_turn.proofs.laws.a_reply_has_one_verdict.Goals as goal

pub returns : goal.returns
returns c response one other p q = one_verdict response one other p q
