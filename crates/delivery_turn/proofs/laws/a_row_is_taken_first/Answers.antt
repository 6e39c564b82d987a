use Rattle.delivery_turn.proofs.Counts.{turn_begins}
use Rattle.delivery_turn.proofs.laws.a_row_is_taken_first.Goals as goal

pub returns : goal.returns
returns c setting events turn d = turn_begins setting events turn d
