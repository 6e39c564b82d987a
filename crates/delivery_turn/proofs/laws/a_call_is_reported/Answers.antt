use Rattle.delivery_turn.proofs.Counts.{turn_reports}
use Rattle.delivery_turn.proofs.laws.a_call_is_reported.Goals as goal

pub returns : goal.returns
returns c setting events turn on d unspent = turn_reports setting events turn d on unspent
