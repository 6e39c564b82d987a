use Rattle.std.proofs.Common.{refl}
use Rattle.state_core.specs.declared.command.Cmd.TheVariants.{Transact}
use Rattle.state_core.specs.declared.reply.Reply.TheVariants.{Committed}
use Rattle.keeper_core.specs.Commits.{HasMade}
use Rattle.state_core.specs.Reply.{held, judged}
use Rattle.state_core.proofs.Commands.{answered_transact}
use Rattle.state_core.proofs.writing.transact.Goals as goal

pub returns-in-Ok-commit : goal.returns-in-Ok-commit
returns-in-Ok-commit g c = λ now.
    let h = held g.K.Keeper c.args.keeper.now in
    let j = judged h c.args.moment (Transact c.args.ops.now now) in
    let all = c.in-Ok.ensures.all in
    answered_transact (HasMade g.K.Keeper c.args.keeper.now c.commit.new.keeper) h (held g.K.Keeper c.commit.new.keeper) (g.K.Keeper.faults c.args.keeper.now) (g.K.Keeper.faults c.commit.new.keeper) c.args.moment c.args.ops.now now Committed all.refused_is
    (c.in-Ok-commit.ensures j.writes Committed all.batch_is refl)

pub returns-in-Err : goal.returns-in-Err
returns-in-Err g c = λ now.
    let h = held g.K.Keeper c.args.keeper.now in
    let j = judged h c.args.moment (Transact c.args.ops.now now) in
    let all = c.in-Ok.ensures.all in
    answered_transact (HasMade g.K.Keeper c.args.keeper.now c.commit.new.keeper) h (held g.K.Keeper c.commit.new.keeper) (g.K.Keeper.faults c.args.keeper.now) (g.K.Keeper.faults c.commit.new.keeper) c.args.moment c.args.ops.now now c.in-Err.reply all.refused_is
    (c.in-Err.ensures j.writes Committed all.batch_is refl)
