use Rattle.std.proofs.Common.{arith}
use Rattle.http_chunks.proofs.ChunkStepLemmas.{stuck_no_line, never_no_line, no_line_ever, may_end_line}
use Rattle.http_chunks.proofs.chunks.read_chunk.Goals as goal

pub returns-in-Partial : goal.returns-in-Partial
returns-in-Partial c =
    let read = rw c.in-Partial.is at c.in_ok-read.ensures in
    (stuck_no_line c.args.rest.now c.args.sum read.1, may_end_line c.args.rest.now read.2, omega (arith, read.0), c.place_of.ensures)

pub returns-in-Invalid : goal.returns-in-Invalid
returns-in-Invalid c =
    let read = rw c.in-Invalid.is at c.in_ok-read.ensures in
    (stuck_no_line c.args.rest.now c.args.sum (no_line_ever c.args.rest.now read), never_no_line c.args.rest.now read)

pub place_of-requires : goal.place_of-requires
place_of-requires c =
    let read = rw c.in-Partial.is at c.in_ok-read.ensures in
    may_end_line c.args.rest.now read.2
