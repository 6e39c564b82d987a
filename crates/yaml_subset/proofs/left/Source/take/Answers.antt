use Rattle.std.proofs.Common.{◌+◌, ◌-◌, length, take, drop}
use Rattle.yaml_lines.specs.LineShown.{cut_shown, line_shown}
use Rattle.yaml_lines.proofs.Blocks.{rest_is_drop}
use Rattle.yaml_subset.specs.Left.{no_line}
use Rattle.yaml_subset.proofs.Sources.{contents_take}
use Rattle.yaml_subset.proofs.left.Source.take.Goals as goal

pub returns-clause-left : goal.returns-clause-left
returns-clause-left c =
    let lines = c.args.self.now.lines.now in
    contents_take c.args.self.now.at c.args.self.now.least c.count_below-count.result c.args.self.now.starts lines (take (length lines - (c.args.self.now.at + 1)) (drop (c.args.self.now.at + 1) lines)) no_line (cut_shown c.in_ok-cut.cut) (line_shown c.line_from-line.result) c.column_of_holder-least.result c.requires.inside (rest_is_drop (c.args.self.now.at + 1) lines) c.requires.no_mark c.requires.content c.in_ok-cut.ensures c.line_from-line.ensures c.column_of_holder-least.ensures c.count_below-count.ensures.exact
