use Rattle.std.proofs.Common.{length, ap, arith}
use Rattle.yaml_lines.specs.Block.{block_indent}
use Rattle.yaml_lines.specs.Texts.{texts}
use Rattle.yaml_lines.proofs.Blocks.{block_le, texts_length}
use Rattle.yaml_lines.proofs.line.count_below.Goals as goal

pub returns-in-Some-clause-inside : goal.returns-in-Some-clause-inside
returns-in-Some-clause-inside c = omega (arith, block_le (block_indent c.in-Some.least (texts c.args.lines.now)) (texts c.args.lines.now), ap length c.lines_below.ensures, texts_length c.args.lines.now, texts_length c.lines_below.result.now)
