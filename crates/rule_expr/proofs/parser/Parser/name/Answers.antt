use Rattle.std.proofs.Common.{◌∙◌, ap, sym, refl, not, ◌&&◌}
use Rattle.rule_expr.specs.Parts.{part_at}
use Rattle.rule_expr.specs.Places.{is_open}
use Rattle.rule_expr.specs.Walking.{is_call}
use Rattle.rule_expr.proofs.WalkingOperands.{name_walk, name_left_out, nameless, not_named, is_named}
use Rattle.rule_expr.proofs.parser.Parser.name.Goals as goal

pub returns-then-is_left_out_call-clause-err : goal.returns-then-is_left_out_call-clause-err
returns-then-is_left_out_call-clause-err c = λ in_has quiet. name_left_out in_has c.in-Named.word (sym c.part.ensures ∙ c.in-Named.is) (ap (λ own. not (is_call c.in-Named.word) && is_open (part_at own)) (sym c.behind.ensures.value) ∙ sym c.is_left_out_call.ensures ∙ c.if-is_left_out_call.true) c.refused.ensures

pub returns-in-Ok-clause-walk : goal.returns-in-Ok-clause-walk
returns-in-Ok-clause-walk c = λ in_has quiet. name_walk in_has c.in-Named.word (sym c.part.ensures ∙ c.in-Named.is) (ap (λ own. not (is_call c.in-Named.word) && is_open (part_at own)) (sym c.behind.ensures.value) ∙ sym c.is_left_out_call.ensures ∙ c.if-is_left_out_call.false) quiet c.pass.ensures.rest

pub returns-in_default : goal.returns-in_default
returns-in_default c = record { ok = tt; ops = refl; walk = tt; err = λ in_has quiet. nameless in_has (ap is_named (sym c.part.ensures) ∙ not_named c.part.result c.in_default.not-Named) c.refused-in_default.ensures }
