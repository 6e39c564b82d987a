use Rattle.std.proofs.Common.{[], ℕ, List, sym, ◌∙◌}
use Rattle.std.specs.Borrow.{Bor}
use Rattle.yaml_lines.proofs.Blocks.{own_on, own_here, own_end}
use Rattle.yaml_lines.proofs.block.first_indent.Goals as goal

abbrev no_line : Bor (List ℕ)
no_line = record { ref_ptr = (0, 0); now = [] }

pub returns-then-not-is_blank : goal.returns-then-not-is_blank
returns-then-not-is_blank c = c.leading_spaces.ensures.exact ∙ sym (own_here c.loop-line.line-index c.args.lines.now no_line c.loop-line-test.true (sym c.is_blank.ensures ∙ c.if-not-is_blank.true)) ∙ c.loop-line.invariant

pub loop-line-preserved : goal.loop-line-preserved
loop-line-preserved c = sym (own_on c.loop-line.line-index c.args.lines.now no_line c.loop-line-test.true (sym c.is_blank.ensures ∙ c.if-not-is_blank.false)) ∙ c.loop-line.invariant

pub returns : goal.returns
returns c = sym (own_end c.loop-line.line-index c.args.lines.now c.loop-line-test.false) ∙ c.loop-line.invariant
