use Rattle.std.proofs.Common.{rules}
use Rattle.drill.proofs.Tallies.{cut_of_rest, head_ends, head_goes}
use Rattle.drill.proofs.tallying.head_of.Goals as goal

pub returns-then-eq-clause-reads : goal.returns-then-eq-clause-reads
returns-then-eq-clause-reads c = λ lines behind each whole.
    head_ends c.args.bytes.now lines behind c.loop-head.head c.first_line-line.result.text.now c.first_line-line.result.len (c.loop-head.invariant.lines lines behind each whole) (cut_of_rest c.loop-head.head.len c.args.bytes.now c.first_line-line.result.text.now c.first_line-line.result.len c.first_line-line.ensures.cut) (search rules)

pub loop-head-preserved : goal.loop-head-preserved
loop-head-preserved c = record {
  within = search rules;
  lines = λ lines behind each whole.
      head_goes c.args.bytes.now lines behind c.loop-head.head c.first_line-line.result.text.now c.first_line-line.result.len (c.loop-head.invariant.lines lines behind each whole) (cut_of_rest c.loop-head.head.len c.args.bytes.now c.first_line-line.result.text.now c.first_line-line.result.len c.first_line-line.ensures.cut) c.length_or.result (search rules) c.length_or.ensures;
}
