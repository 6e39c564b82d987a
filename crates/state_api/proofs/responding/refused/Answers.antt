use Rattle.state_api.proofs.Failing.{refusal_response}
use Rattle.state_api.proofs.responding.refused.Goals as goal

pub returns-in-TooMany : goal.returns-in-TooMany
returns-in-TooMany c = refusal_response c.args.code c.args.refusal c.in-TooMany.out _ c.in-TooMany.is c.numbered-in-TooMany.ensures
