use Rattle.std.proofs.Common.{[], ℕ, List, sym, ◌∙◌, arith}
use Rattle.std.specs.Borrow.{Bor}
use Rattle.yaml_lines.proofs.Blocks.{last_empty, last_other, none_left}
use Rattle.yaml_lines.proofs.block.without_empty_lines.Goals as goal

abbrev no_line : Bor (List ℕ)
no_line = record { ref_ptr = (0, 0); now = [] }

pub returns-then-not-is_empty_in : goal.returns-then-not-is_empty_in
returns-then-not-is_empty_in c = last_other c.args.indent c.loop-count.count c.args.block.now no_line c.loop-count-test.true c.loop-count.invariant.inside (sym c.is_empty_in.ensures ∙ c.if-not-is_empty_in.true) ∙ c.loop-count.invariant.same

pub loop-count-preserved : goal.loop-count-preserved
loop-count-preserved c = record {
  inside = omega (arith, c.loop-count.invariant.inside);
  same = last_empty c.args.indent c.loop-count.count c.args.block.now no_line c.loop-count-test.true c.loop-count.invariant.inside (sym c.is_empty_in.ensures ∙ c.if-not-is_empty_in.false) ∙ c.loop-count.invariant.same;
}

pub returns : goal.returns
returns c = sym (none_left c.args.indent c.loop-count.count c.args.block.now c.loop-count-test.false) ∙ c.loop-count.invariant.same
