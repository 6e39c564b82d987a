use Rattle.std.proofs.Common.{sym, ap, ◌∙◌}
use Rattle.yaml_lines.specs.Plain.{trimmed}
use Rattle.yaml_lines.proofs.Words.{no_bytes, trimmed_white, trimmed_other, trimmed_none}
use Rattle.yaml_lines.proofs.plain.trim.Goals as goal

pub returns-then-not-is_white_byte : goal.returns-then-not-is_white_byte
returns-then-not-is_white_byte c =
    c.in-Some.ensures.cases.0 ∙ sym (trimmed_other c.in-Some.front.now c.in-Some.last.now (sym c.is_white_byte.ensures ∙ c.if-not-is_white_byte.true))
    ∙ ap trimmed (sym c.in-Some.ensures.cases.0) ∙ c.loop-last.invariant

pub loop-last-preserved : goal.loop-last-preserved
loop-last-preserved c =
    sym (trimmed_white c.in-Some.front.now c.in-Some.last.now (sym c.is_white_byte.ensures ∙ c.if-not-is_white_byte.false))
    ∙ ap trimmed (sym c.in-Some.ensures.cases.0) ∙ c.loop-last.invariant

pub returns : goal.returns
returns c = no_bytes c.loop-last.left.now c.in_default.ensures.cases ∙ sym trimmed_none ∙ ap trimmed (sym (no_bytes c.loop-last.left.now c.in_default.ensures.cases)) ∙ c.loop-last.invariant
