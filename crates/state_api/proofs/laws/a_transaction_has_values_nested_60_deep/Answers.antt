use Rattle.state_api.proofs.Nested.{body_nested}
use Rattle.state_api.proofs.laws.a_transaction_has_values_nested_60_deep.Goals as goal

pub returns : goal.returns
returns c = λ prefix request store ops asks. body_nested prefix request.body ops asks
