use Rattle.std.proofs.Common.{◌*◌, ◌<◌, length, ap, arith}
use Rattle.http_chunks.proofs.TrailerLemmas.{never_exceeds_section}
use Rattle.http_chunks.proofs.trailers.read_long_section.Goals as goal

pub unreachable-requires : goal.unreachable-requires
unreachable-requires c =
    let room : length c.args.text.now < 3 * length c.deref_mut.result.now =
    omega (arith, ap length c.deref_mut.ensures.value, c.in_ok-headers.ensures.len, c.in_ok-headers.headers.ok.0) in
    never_exceeds_section c.args.text.now _ room (rw c.in-None.is at c.section_within.ensures)
