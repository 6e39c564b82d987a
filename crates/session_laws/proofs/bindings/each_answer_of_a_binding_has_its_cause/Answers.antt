use Rattle.session_laws.proofs.Binding.{binding_answered}
use Rattle.session_laws.proofs.bindings.each_answer_of_a_binding_has_its_cause.Goals as goal

pub returns : goal.returns
returns g c cells name served is = binding_answered _ cells name served is
