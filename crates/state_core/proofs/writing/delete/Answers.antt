use Rattle.std.proofs.Common.{refl}
use Rattle.keeper_core.specs.Commits.{HasMade}
use Rattle.state_core.specs.declared.reply.Reply.TheVariants.{Deleted}
use Rattle.state_core.specs.Reply.{held}
use Rattle.state_core.proofs.Commands.{answered_delete}
use Rattle.state_core.proofs.writing.delete.Goals as goal

pub returns-in-Ok : goal.returns-in-Ok
returns-in-Ok g c = λ now.
    let one = c.in-Ok-default-true.ensures in
    answered_delete (HasMade g.K.Keeper c.args.keeper.now c.commit.new.keeper) (held g.K.Keeper c.args.keeper.now) (held g.K.Keeper c.commit.new.keeper) (g.K.Keeper.faults c.args.keeper.now) (g.K.Keeper.faults c.commit.new.keeper) c.args.moment c.args.key.now c.args.etag.now c.args.mode now Deleted c.in-Ok-default-true.field-0-1
    one.passed_is c.in-Ok-default-true.field-0-1-test (c.in-Ok.ensures _ Deleted one.batch_is refl)

pub returns-in-Err-commit : goal.returns-in-Err-commit
returns-in-Err-commit g c = λ now.
    let one = c.in-Ok-default-true.ensures in
    answered_delete (HasMade g.K.Keeper c.args.keeper.now c.commit.new.keeper) (held g.K.Keeper c.args.keeper.now) (held g.K.Keeper c.commit.new.keeper) (g.K.Keeper.faults c.args.keeper.now) (g.K.Keeper.faults c.commit.new.keeper) c.args.moment c.args.key.now c.args.etag.now c.args.mode now c.in-Err-commit.reply c.in-Ok-default-true.field-0-1
    one.passed_is c.in-Ok-default-true.field-0-1-test (c.in-Err-commit.ensures _ Deleted one.batch_is refl)
