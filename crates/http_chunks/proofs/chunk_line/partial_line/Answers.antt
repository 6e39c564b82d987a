use Rattle.std.proofs.Common.{◌<◌, length, arith}
use Rattle.http_chunks.proofs.LineLemmas.{may_line, never_line, no_line_from, line_of_feed}
use Rattle.http_chunks.proofs.chunk_line.partial_line.Goals as goal

pub returns-then-text-le-LINE_LIMIT : goal.returns-then-text-le-LINE_LIMIT
returns-then-text-le-LINE_LIMIT c =
    let text = c.args.text.now in
    (omega arith, no_line_from text c.requires.none, may_line text c.if-text-le-LINE_LIMIT.true c.requires.may)

pub returns-then-text-eq-LINE_LIMIT : goal.returns-then-text-eq-LINE_LIMIT
returns-then-text-eq-LINE_LIMIT c =
    never_line c.args.text.now (omega arith) c.requires.none (λ below. absurd (omega arith))

pub returns-then-ends : goal.returns-then-ends
returns-then-ends c =
    let ends = rw c.if-ends.true at c.in_ok-ends.ensures in
    let below : length c.args.text.now < 16384 = omega arith in
    line_of_feed c.args.text.now ends.0 below c.requires.none ends.1 ends.2

pub returns-else-ends : goal.returns-else-ends
returns-else-ends c =
    let none = rw c.if-ends.false at c.in_ok-ends.ensures in
    never_line c.args.text.now (omega arith) c.requires.none (λ _. none)
