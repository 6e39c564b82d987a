use Rattle.std.proofs.Common.{sym, ◌∙◌}
use Rattle.yaml_subset.proofs.Sources.{contents_end}
use Rattle.yaml_subset.proofs.left.Source.next.Goals as goal

pub returns-clause-left : goal.returns-clause-left
returns-clause-left c = sym c.loop-self.invariant.left ∙ contents_end c.loop-self.self.at c.loop-self.self.least c.loop-self.self.starts c.loop-self.self.lines.now c.loop-self-test.false
