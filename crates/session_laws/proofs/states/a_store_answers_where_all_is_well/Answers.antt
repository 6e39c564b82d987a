use Rattle.session_laws.proofs.Storing.{well_answered}
use Rattle.session_laws.proofs.states.a_store_answers_where_all_is_well.Goals as goal

pub returns : goal.returns
returns g c cells asked name served is of = well_answered _ cells asked name served is of
