use Rattle.std.proofs.Common.{rules, append_assoc}
use Rattle.meta_api.proofs.response.SubscriptionNoteListed.push_to.Goals as goal

pub returns : goal.returns
returns c = search (rules, append_assoc)
