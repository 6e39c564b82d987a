use Rattle.session_laws.proofs.Calling.{well_answered}
use Rattle.session_laws.proofs.calls.a_call_is_answered_where_all_is_well.Goals as goal

pub returns : goal.returns
returns g c cells id rest served is = well_answered _ cells id rest served is
