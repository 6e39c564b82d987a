use Rattle.delivery_turn.proofs.Counts.{turn_settles_once}
use Rattle.delivery_turn.proofs.laws.a_row_is_settled_once.Goals as goal

pub returns : goal.returns
returns c setting events turn d = turn_settles_once setting events turn d
