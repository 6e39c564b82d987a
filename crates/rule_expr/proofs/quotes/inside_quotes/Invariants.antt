use Rattle.std.proofs.Common.{◌≡◌, ◌≤◌, length, false}
use Rattle.rule_expr.specs.Parts.{quoted_from}
use Rattle.rule_expr.proofs.Quotations.{led}
use Rattle.rule_expr.proofs.quotes.inside_quotes.Given as goal

abbrev pub invariant-loop-byte : goal.invariant-loop-byte
invariant-loop-byte l = record {
  read : led l.held (quoted_from l.quote l.escaped l.rest) ≡ quoted_from l.fn.quote false l.fn.text;
  shorter : length l.rest ≤ length l.fn.text;
}

abbrev pub decreases-loop-byte : goal.decreases-loop-byte
decreases-loop-byte l = length l.rest
