use Rattle.std.proofs.Common.{ap, sym, subst, ◌∙◌}
use Rattle.state_core.specs.declared.command.Cmd.TheVariants.{Save}
use Rattle.keeper_core.specs.Commits.{HasMade}
use Rattle.state_core.specs.Reply.{held, verdict, judged}
use Rattle.state_core.specs.Written.{IsAnswered}
use Rattle.state_core.proofs.Commands.{stores_verdict, answered_save}
use Rattle.state_core.proofs.writing.save.Goals as goal

pub returns-in-Ok-commit : goal.returns-in-Ok-commit
returns-in-Ok-commit g c = λ now.
    let h = held g.K.Keeper c.args.keeper.now in
    let cmd = Save c.args.items.now now in
    let j = judged h c.args.moment cmd in
    subst (IsAnswered (HasMade g.K.Keeper c.args.keeper.now c.commit.new.keeper) h (held g.K.Keeper c.commit.new.keeper) (g.K.Keeper.faults c.args.keeper.now) (g.K.Keeper.faults c.commit.new.keeper) c.args.moment cmd)
    (ap (verdict cmd) c.in-Ok.ensures.refused_is ∙ sym (c.saved.ensures c.args.items.now now))
    (answered_save (HasMade g.K.Keeper c.args.keeper.now c.commit.new.keeper) h (held g.K.Keeper c.commit.new.keeper) (g.K.Keeper.faults c.args.keeper.now) (g.K.Keeper.faults c.commit.new.keeper) c.args.moment c.args.items.now now (verdict cmd j.refused)
    (c.in-Ok-commit.ensures j.writes (verdict cmd j.refused) c.in-Ok.ensures.batch_is (stores_verdict c.args.items.now now j.refused)))

pub returns-in-Err-commit : goal.returns-in-Err-commit
returns-in-Err-commit g c = λ now.
    let h = held g.K.Keeper c.args.keeper.now in
    let cmd = Save c.args.items.now now in
    let j = judged h c.args.moment cmd in
    answered_save (HasMade g.K.Keeper c.args.keeper.now c.commit.new.keeper) h (held g.K.Keeper c.commit.new.keeper) (g.K.Keeper.faults c.args.keeper.now) (g.K.Keeper.faults c.commit.new.keeper) c.args.moment c.args.items.now now c.in-Err-commit.reply
    (c.in-Err-commit.ensures j.writes (verdict cmd j.refused) c.in-Ok.ensures.batch_is (stores_verdict c.args.items.now now j.refused))
