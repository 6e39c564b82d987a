use Rattle.std.proofs.Common.{refl, subst}
use Rattle.pubsub_api.specs.Publishing.{Commands}
use Rattle.pubsub_api.proofs.message.command_of.Goals as goal

pub returns-in-Ok-id_of-clause-commands : goal.returns-in-Ok-id_of-clause-commands
returns-in-Ok-id_of-clause-commands c =
    subst (λ sent. Commands c.args.what.now.subs.now sent c.args.stamp.now c.message_of.result) c.in-Ok.ensures
    (c.message_of.ensures.commands c.args.stamp.now c.in-Ok-id_of.ensures refl)
