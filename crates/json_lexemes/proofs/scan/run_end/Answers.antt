use Rattle.std.proofs.Common.{◌&&◌, eqb, subst, sym, arith}
use Rattle.json_lexemes.specs.Scan.{Passes}
use Rattle.json_lexemes.specs.declared.lexeme.Lexeme.TheVariants.{Plain as plain}
use Rattle.json_lexemes.proofs.Runs.{no_run}
use Rattle.json_lexemes.proofs.TextRuns.{text_run}
use Rattle.json_lexemes.proofs.scan.run_end.Goals as goal

pub returns-then-high-clause-passes : goal.returns-then-high-clause-passes
returns-then-high-clause-passes c = no_run c.args.bytes.now c.args.at c.args.high

pub returns-clause-passes : goal.returns-clause-passes
returns-clause-passes c =
    let bytes = c.args.bytes.now in
    let at = c.args.at in
    let stop = c.special_at in
    let end = c.min.result in
    subst (λ b. Passes bytes at (plain b) end (plain (b && eqb end at))) (sym c.if-high.false)
    (text_run bytes c.args.text at stop.result c.requires.known (omega (arith, c.if-at-text.false)) (c.may_begin.ensures c.if-not-may_begin.false) stop.ensures.low stop.ensures.usual stop.ensures.there end c.min.ensures)
