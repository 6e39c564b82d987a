use Rattle.yaml_subset.specs.Left.{no_line}
use Rattle.yaml_subset.proofs.Sources.{contents_pass}
use Rattle.yaml_subset.proofs.left.Source.pass_over.Goals as goal

pub returns-clause-left : goal.returns-clause-left
returns-clause-left c = contents_pass c.args.self.now.at c.args.self.now.least c.args.self.now.starts c.args.self.now.lines.now no_line c.requires.inside c.requires.no_mark c.requires.passed
