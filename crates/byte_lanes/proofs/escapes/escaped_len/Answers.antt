use Rattle.std.proofs.Common.{◌≡◌, ◌<◌, ◌*◌, ◌/◌, length, drop, sym, ap, ◌∙◌, arith}
use Rattle.byte_lanes.specs.Spelling.{spelled}
use Rattle.byte_lanes.proofs.SpellingLemmas.{spelled_more, spelled_all}
use Rattle.byte_lanes.proofs.escapes.escaped_len.Goals as goal

pub loop-block-preserved : goal.loop-block-preserved
loop-block-preserved c =
    let bytes = c.args.bytes.now in
    let i = c.loop-block.block-index in
    let blocks = c.as_chunks.result.0.now in
    let within : i < length bytes / 32 = omega (arith, c.loop-block-test.true, c.as_chunks.ensures.front_len) in
    let more = spelled_more bytes i (length bytes / 32) blocks c.as_chunks.ensures.front within in
    record {
      exact = omega (arith, more, c.loop-block.invariant.exact, c.block_len-total.ensures.exact);
      bound = omega (arith, c.loop-block.invariant.bound, c.block_len-total.ensures.bound);
    }

pub returns : goal.returns
returns c =
    let bytes = c.args.bytes.now in
    let i = c.loop-block.block-index in
    let last : 32 * i ≡ length bytes / 32 * 32 = omega (arith, c.loop-block-test.false, c.as_chunks.ensures.front_len, c.loop-block.auto.block-index-end) in
    let rest : length (spelled c.as_chunks.result.1.now) ≡ length (spelled (drop (32 * i) bytes)) =
    ap (λ bs. length (spelled bs)) (c.as_chunks.ensures.back ∙ ap (λ n. drop n bytes) (sym last)) in
    omega (arith, c.loop-block.invariant.exact, c.escaped_len_by_bytes.ensures.exact, rest, spelled_all bytes (32 * i))
