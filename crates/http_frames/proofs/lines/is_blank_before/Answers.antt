use Rattle.std.proofs.Common.{sym, arith}
use Rattle.http_frames.proofs.OpenLemmas.{lines_some}
use Rattle.http_frames.proofs.lines.is_blank_before.Goals as goal

pub returns-then-lines-gt0 : goal.returns-then-lines-gt0
returns-then-lines-gt0 c =
    sym (lines_some c.args.text.now c.args.lines c.args.at c.requires.behind c.requires.lines (λ none. omega (arith, none, c.if-lines-gt0.true)))
