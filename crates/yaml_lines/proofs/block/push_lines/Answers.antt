use Rattle.std.proofs.Common.{◌+◌, ◌++◌, ◌∷◌, [], ℕ, List, drop, sym, ap, ◌∙◌}
use Rattle.std.specs.Borrow.{Bor}
use Rattle.yaml_lines.specs.Texts.{texts}
use Rattle.yaml_lines.specs.Block.{lines_text}
use Rattle.yaml_lines.proofs.Blocks.{text_on, text_end}
use Rattle.yaml_lines.proofs.block.push_lines.Goals as goal

abbrev no_line : Bor (List ℕ)
no_line = record { ref_ptr = (0, 0); now = [] }

pub loop-line-preserved : goal.loop-line-preserved
loop-line-preserved c =
    let rest : List ℕ = lines_text c.args.indent (texts (drop (c.loop-line.line-index + 1) c.args.lines.now)) in
    ap (λ t. t ++ rest) (c.in_ok-push.ensures.items ∙ ap (λ t. t ++ (10 ∷ [])) (c.in_ok-extend_from_slice.ensures.items ∙ ap (λ t. c.loop-line.text.items ++ t) c.behind_indent.ensures))
    ∙ sym (text_on c.args.indent c.loop-line.line-index c.args.lines.now no_line c.loop-line.text.items c.loop-line-test.true)
    ∙ c.loop-line.invariant

pub returns : goal.returns
returns c = sym (text_end c.args.indent c.loop-line.line-index c.args.lines.now c.loop-line.text.items c.loop-line-test.false) ∙ c.loop-line.invariant
