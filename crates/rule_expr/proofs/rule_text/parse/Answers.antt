use Rattle.std.proofs.Common.{◌∙◌, ap}
use Rattle.rule_expr.specs.Parts.{after_blanks}
use Rattle.rule_expr.proofs.WalkingOperands.{refused_behind}
use Rattle.rule_expr.proofs.rule_text.parse.Goals as goal

pub returns-in-Err-finish-clause-err : goal.returns-in-Err-finish-clause-err
returns-in-Err-finish-clause-err c = λ real. refused_behind c.args.text.now c.new-parser.result.rest.now c.either.new.self.rest.now c.in-Err-finish.stop c.error_at-in-Err-finish.result (c.new-parser.ensures.rest ∙ ap after_blanks c.as_bytes.ensures.value) c.in-Ok.ensures.walk c.in-Err-finish.ensures.err c.error_at-in-Err-finish.ensures
