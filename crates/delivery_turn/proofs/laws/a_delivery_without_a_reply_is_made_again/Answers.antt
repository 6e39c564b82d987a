use Rattle.delivery_turn.proofs.Missed.{failed, late}
use Rattle.delivery_turn.proofs.laws.a_delivery_without_a_reply_is_made_again.Goals as goal

pub returns-clause-failed : goal.returns-clause-failed
returns-clause-failed c rules event drawn = failed rules drawn event

pub returns-clause-late : goal.returns-clause-late
returns-clause-late c rules event drawn response = late rules drawn event response
