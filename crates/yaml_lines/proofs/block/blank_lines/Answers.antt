use Rattle.std.proofs.Common.{[], ℕ, List, sym, ◌∙◌, arith}
use Rattle.std.specs.Borrow.{Bor}
use Rattle.yaml_lines.proofs.Blocks.{lead_on, lead_stop, lead_end}
use Rattle.yaml_lines.proofs.block.blank_lines.Goals as goal

abbrev no_line : Bor (List ℕ)
no_line = record { ref_ptr = (0, 0); now = [] }

pub returns-then-not-is_blank-clause-exact : goal.returns-then-not-is_blank-clause-exact
returns-then-not-is_blank-clause-exact c = sym (c.loop-count.invariant ∙ lead_stop c.loop-count.count c.args.lines.now no_line c.loop-count-test.true (sym c.is_blank.ensures ∙ c.if-not-is_blank.true))

pub loop-count-preserved : goal.loop-count-preserved
loop-count-preserved c = c.loop-count.invariant ∙ lead_on c.loop-count.count c.args.lines.now no_line c.loop-count-test.true (sym c.is_blank.ensures ∙ c.if-not-is_blank.false)

pub returns-clause-exact : goal.returns-clause-exact
returns-clause-exact c = omega (arith, c.loop-count.invariant, lead_end c.loop-count.count c.args.lines.now c.loop-count-test.false, c.loop-count.auto.count-end, c.loop-count-test.false)
