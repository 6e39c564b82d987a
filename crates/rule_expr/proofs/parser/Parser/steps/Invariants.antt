use Rattle.std.proofs.Common.{◌≡◌, length}
use Rattle.rule_expr.specs.Reading.{ReadsSteps}
use Rattle.rule_expr.specs.Walking.{WalksSteps}
use Rattle.rule_expr.proofs.parser.Parser.steps.Given as goal

abbrev pub invariant-loop-self : goal.invariant-loop-self
invariant-loop-self l = record {
  read : ReadsSteps l.fn.self.rest.now l.self.rest.now l.path;
  ops : l.self.ops.items ≡ l.fn.self.ops.items;
  walk : WalksSteps l.in_has l.fn.self.rest.now l.self.rest.now;
}

abbrev pub decreases-loop-self : goal.decreases-loop-self
decreases-loop-self l = length l.self.rest.now
