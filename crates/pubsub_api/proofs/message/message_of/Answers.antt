use Rattle.pubsub_api.proofs.Messages.{refuses}
use Rattle.pubsub_api.proofs.message.message_of.Goals as goal

pub returns-in-Err-clause-commands : goal.returns-in-Err-clause-commands
returns-in-Err-clause-commands c stamp its-id its-now = refuses c.args.subs.now c.args.sent.now stamp c.in-Err.why c.unmade.result c.unmade.ensures c.in-Err.ensures.err
