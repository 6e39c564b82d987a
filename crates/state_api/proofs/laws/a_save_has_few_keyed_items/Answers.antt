use Rattle.state_api.proofs.Keyed.{body_keyed}
use Rattle.state_api.proofs.laws.a_save_has_few_keyed_items.Goals as goal

pub returns : goal.returns
returns c = λ prefix request store items asks. body_keyed prefix request.body items asks
