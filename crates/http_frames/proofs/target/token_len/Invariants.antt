use Rattle.std.proofs.Common.{◌≡◌, ◌+◌, drop}
use Rattle.std.specs.List.{prefix_len}
use Rattle.httparse.specs.Grammar.{is_token_byte}
use Rattle.http_frames.proofs.target.token_len.Given as goal

abbrev pub invariant-loop-byte : goal.invariant-loop-byte
invariant-loop-byte l =
    (l.len ≡ l.byte-index) × (l.len + prefix_len is_token_byte (drop l.len l.bytes) ≡ prefix_len is_token_byte l.bytes)
