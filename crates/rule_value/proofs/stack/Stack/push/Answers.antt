use Rattle.std.proofs.Common.{arith}
use Rattle.rule_value.proofs.Stacks.{pushed}
use Rattle.rule_value.proofs.stack.Stack.push.Goals as goal

pub returns-clause-values : goal.returns-clause-values
returns-clause-values c =
    pushed c.args.self.now.values c.args.self.now.height c.args.value (omega (arith, c.args.self.now.size, c.requires))
