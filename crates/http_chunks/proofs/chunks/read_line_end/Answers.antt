use Rattle.std.proofs.Common.{sym}
use Rattle.http_chunks.proofs.DataLemmas.{whole_end, part_of_end, never_end}
use Rattle.http_chunks.proofs.chunks.read_line_end.Goals as goal

pub returns-in-Some : goal.returns-in-Some
returns-in-Some c = whole_end c.args.text.now _ (sym c.in-Some.ensures.read)

pub returns-in-Some-after_front : goal.returns-in-Some-after_front
returns-in-Some-after_front c = part_of_end c.args.text.now _ (sym c.in-None.ensures.read) (sym c.in-Some-after_front.ensures.read)

pub returns-in-None-after_front : goal.returns-in-None-after_front
returns-in-None-after_front c = never_end c.args.text.now (sym c.in-None.ensures.read) (sym c.in-None-after_front.ensures.read)
