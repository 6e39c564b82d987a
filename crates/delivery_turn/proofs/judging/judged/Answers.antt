use Rattle.std.proofs.Common.{sym, ◌∙◌}
use Rattle.delivery_turn.specs.Posting.{by_number}
use Rattle.delivery_turn.proofs.judging.judged.Goals as goal

pub returns-then-not-is_good-clause-judged : goal.returns-then-not-is_good-clause-judged
returns-then-not-is_good-clause-judged c = by_number (sym c.is_good.ensures ∙ c.if-not-is_good.true) c.verdict.ensures
