use Rattle.std.proofs.Common.{sym, ◌∙◌, inl}
use Rattle.json_lexemes.specs.declared.lexeme.Lexeme.TheVariants.{Plain as plain}
use Rattle.json_lexemes.specs.Scan.{stay}
use Rattle.json_lexemes.proofs.TextRuns.{run_as}
use Rattle.json_lexemes.proofs.scan.run_plain.Goals as goal

pub returns-then-is_lone_at-clause-lone : goal.returns-then-is_lone_at-clause-lone
returns-then-is_lone_at-clause-lone c = record {
  word = plain c.is_still_high-high.result;
  passes = run_as c.args.bytes.now c.args.at c.run_end-end.result c.args.word c.in-Some.high c.is_still_high-high.result c.in-Some.ensures.between c.run_end-end.ensures.passes c.is_still_high-high.ensures;
  why = inl (sym c.is_lone_at.ensures ∙ c.if-is_lone_at.true);
}

pub returns-else-is_lone_at-clause-passed : goal.returns-else-is_lone_at-clause-passed
returns-else-is_lone_at-clause-passed c = run_as c.args.bytes.now c.args.at c.run_end-end.result c.args.word c.in-Some.high c.is_still_high-high.result c.in-Some.ensures.between c.run_end-end.ensures.passes c.is_still_high-high.ensures

pub returns-in-None-clause-passed : goal.returns-in-None-clause-passed
returns-in-None-clause-passed c = stay
