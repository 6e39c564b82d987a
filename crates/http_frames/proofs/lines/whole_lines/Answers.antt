use Rattle.std.proofs.Common.{sym}
use Rattle.std.proofs.lemmas.Bool.{eq-eqb}
use Rattle.http_frames.proofs.OpenLemmas.{feed_behind}
use Rattle.http_frames.proofs.lines.whole_lines.Goals as goal

pub returns-else-is_blank_before : goal.returns-else-is_blank_before
returns-else-is_blank_before c =
    feed_behind c.args.text.now c.args.lines c.in-Some.behind c.requires.lines c.requires.short c.in-Some.ensures.0 (eq-eqb _ 10 c.in-Some.ensures.1)
    (sym c.if-is_blank_before.ensures) c.requires.none c.requires.may
