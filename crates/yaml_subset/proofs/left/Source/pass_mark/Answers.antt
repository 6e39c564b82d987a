use Rattle.yaml_subset.specs.Left.{no_line}
use Rattle.yaml_subset.proofs.Sources.{contents_mark}
use Rattle.yaml_subset.proofs.left.Source.pass_mark.Goals as goal

pub returns-clause-left : goal.returns-clause-left
returns-clause-left c = contents_mark c.args.self.now.at c.args.self.now.least c.args.self.now.starts c.args.self.now.lines.now no_line c.requires.inside c.requires.mark
