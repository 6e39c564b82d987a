use Rattle.session_laws.proofs.Calling.{call_answered}
use Rattle.session_laws.proofs.calls.each_answer_of_a_call_has_its_cause.Goals as goal

pub returns : goal.returns
returns g c cells id rest served is = call_answered _ cells id rest served is
