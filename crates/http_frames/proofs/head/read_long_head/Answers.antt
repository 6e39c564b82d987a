use Rattle.std.proofs.Common.{◌≤◌, length, ap, arith}
use Rattle.http_frames.proofs.HeadLemmas.{never_exceeds}
use Rattle.http_frames.proofs.head.read_long_head.Goals as goal

pub unreachable-requires : goal.unreachable-requires
unreachable-requires c =
    let room : 5462 ≤ length c.deref_mut.result.now =
    omega (arith, ap length c.deref_mut.ensures.value, c.in_ok-headers.ensures.len, c.in_ok-headers.headers.ok.0) in
    never_exceeds c.args.text.now _ c.requires room (rw c.in-None.is at c.in_ok-read.ensures)
