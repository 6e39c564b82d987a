use Rattle.std.proofs.Common.{refl}
use Rattle.yaml_lines.specs.LineShown.{line_shown}
use Rattle.yaml_subset.specs.Left.{contents_left}
use Rattle.yaml_subset.proofs.Finished.{at_first, one_more, in_the_end, left_some, left_none}
use Rattle.yaml_subset.proofs.nodes.nodes_of.Goals as goal

pub loop-line-init : goal.loop-line-init
loop-line-init c = at_first _ (contents_left c.args.lines) c.new.ensures.items c.new-2.ensures.items c.new-3.ensures.items refl

pub loop-line-preserved : goal.loop-line-preserved
loop-line-preserved c = one_more c.loop-line.reader c.take.new.self (line_shown c.in-Ok-Some.line) (contents_left c.loop-line.source) (contents_left c.next.new.self) (contents_left c.args.lines) c.loop-line.invariant (left_some c.in-Ok-Some.field-0 c.in-Ok-Some.line (contents_left c.loop-line.source) (contents_left c.next.new.self) c.in-Ok-Some.field-0-is c.in-Ok-Some.ensures.left) (c.in-Ok.ensures c.loop-line.invariant.front c.loop-line.invariant.stands)

pub returns-in-Ok-None-clause-ok : goal.returns-in-Ok-None-clause-ok
returns-in-Ok-None-clause-ok c = in_the_end c.loop-line.reader (contents_left c.loop-line.source) (contents_left c.args.lines) (left_none c.in-Ok-None.field-0 (contents_left c.loop-line.source) (contents_left c.next.new.self) c.in-Ok-None.field-0-is c.in-Ok-None.ensures.left) c.loop-line.invariant
