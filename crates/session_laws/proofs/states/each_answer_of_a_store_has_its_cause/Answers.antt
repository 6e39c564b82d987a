use Rattle.session_laws.proofs.Storing.{state_answered}
use Rattle.session_laws.proofs.states.each_answer_of_a_store_has_its_cause.Goals as goal

pub returns : goal.returns
returns g c cells asked name served is of = state_answered _ cells asked name served is of
