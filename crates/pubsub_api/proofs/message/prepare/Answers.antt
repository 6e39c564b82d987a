use Rattle.std.proofs.Common.{sym, ◌∙◌, refl}
use Rattle.policy_run.specs.Effects.{Draws, clocked}
use Rattle.pubsub_api.proofs.Prepared.{nothing_prepared, prepared}
use Rattle.pubsub_api.proofs.message.prepare.Goals as goal

pub returns-then-not-may_publish-clause-prepares : goal.returns-then-not-may_publish-clause-prepares
returns-then-not-may_publish-clause-prepares g c =
    nothing_prepared c.args.what.now (Draws g.R.Rng.stream c.args.rng.now c.args.rng.now) (clocked g.C.Clock c.args.clock.now) (sym c.may_publish.ensures ∙ c.if-not-may_publish.true) refl

pub returns-clause-prepares : goal.returns-clause-prepares
returns-clause-prepares g c =
    prepared c.args.what.now _ _ _ c.stamped-stamp.result c.command_of.result (sym c.may_publish.ensures ∙ c.if-not-may_publish.false) c.stamped-stamp.ensures c.command_of.ensures.commands
