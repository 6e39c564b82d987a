use Rattle.std.proofs.Common.{◌-◌, arith}
use Rattle.rule_value.proofs.Stacks.{popped}
use Rattle.rule_value.proofs.stack.Stack.pop.Goals as goal

pub returns-clause-values : goal.returns-clause-values
returns-clause-values c =
    popped c.args.self.now.values c.args.self.now.height (c.args.self.now.height - 1) _ (omega (arith, c.requires.some)) (omega (arith, c.args.self.now.size, c.requires.most, c.requires.some))
