use Rattle.std.proofs.Common.{rules}
use Rattle.rule_expr.proofs.Quotations.{whole_quoted, none_quoted}
use Rattle.rule_expr.proofs.quotes.text_in_quotes.Goals as goal

pub returns-in-Some : goal.returns-in-Some
returns-in-Some c = whole_quoted c.in-Some.quote c.next_of.new.text.now c.args.text.now c.inside_quotes.result c.in-Some.ensures.first c.inside_quotes.ensures

pub returns-in-None : goal.returns-in-None
returns-in-None c = none_quoted c.args.text.now (search rules)
