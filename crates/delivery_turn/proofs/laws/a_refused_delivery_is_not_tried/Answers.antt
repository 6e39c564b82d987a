use Rattle.delivery_turn.proofs.Counts.{turn_tries_once}
use Rattle.delivery_turn.proofs.laws.a_refused_delivery_is_not_tried.Goals as goal

pub returns : goal.returns
returns c setting events turn d = turn_tries_once setting events turn d
