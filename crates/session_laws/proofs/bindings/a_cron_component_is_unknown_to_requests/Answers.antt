use Rattle.session_laws.proofs.Binding.{cron_unknown}
use Rattle.session_laws.proofs.bindings.a_cron_component_is_unknown_to_requests.Goals as goal

pub returns : goal.returns
returns g c cells name served is = cron_unknown _ cells name served is
