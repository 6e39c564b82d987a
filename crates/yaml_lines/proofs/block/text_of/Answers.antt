use Rattle.std.proofs.Common.{◌≡◌, drop, ap, subst, ◌∙◌, IfOk}
use Rattle.yaml_lines.specs.Texts.{texts}
use Rattle.yaml_lines.specs.Block.{without_empty_end, text_behind}
use Rattle.yaml_lines.proofs.Blocks.{texts_drop, rest_is_drop}
use Rattle.yaml_lines.proofs.block.text_of.Goals as goal

pub returns : goal.returns
returns c =
    let block = c.args.block.now in
    let empties = c.blank_lines-empties.result in
    subst (λ all. IfOk c.text_of_lines.result (λ text. text.items ≡ all))
    (ap (text_behind empties c.args.indent) (c.without_empty_lines-lines.ensures ∙ ap (λ l. without_empty_end c.args.indent (texts l)) (rest_is_drop empties block) ∙ ap (without_empty_end c.args.indent) (texts_drop empties block))
    ∙ ap (λ n. text_behind n c.args.indent (without_empty_end c.args.indent (drop n (texts block)))) c.blank_lines-empties.ensures.exact)
    c.text_of_lines.ensures
