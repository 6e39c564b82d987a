use Rattle.session_laws.proofs.Binding.{well_answered}
use Rattle.session_laws.proofs.bindings.a_binding_is_answered_where_all_is_well.Goals as goal

pub returns : goal.returns
returns g c cells name served is = well_answered _ cells name served is
