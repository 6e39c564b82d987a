use Rattle.std.proofs.Common.{[], ℕ, List, sym, ◌∙◌}
use Rattle.std.specs.Borrow.{Bor}
use Rattle.yaml_lines.proofs.Blocks.{block_on, block_stop, block_end, block_taken, block_whole}
use Rattle.yaml_lines.proofs.block.lines_of_block.Goals as goal

abbrev no_line : Bor (List ℕ)
no_line = record { ref_ptr = (0, 0); now = [] }

pub returns-then-not-belongs : goal.returns-then-not-belongs
returns-then-not-belongs c = block_taken c.args.indent c.loop-count.count c.args.lines.now (c.loop-count.invariant ∙ block_stop c.args.indent c.loop-count.count c.args.lines.now no_line c.loop-count-test.true (sym c.belongs.ensures ∙ c.if-not-belongs.true))

pub loop-count-preserved : goal.loop-count-preserved
loop-count-preserved c = c.loop-count.invariant ∙ block_on c.args.indent c.loop-count.count c.args.lines.now no_line c.loop-count-test.true (sym c.belongs.ensures ∙ c.if-not-belongs.false)

pub returns : goal.returns
returns c = block_whole c.args.indent c.loop-count.count c.args.lines.now c.loop-count-test.false (c.loop-count.invariant ∙ block_end c.args.indent c.loop-count.count c.args.lines.now c.loop-count-test.false)
