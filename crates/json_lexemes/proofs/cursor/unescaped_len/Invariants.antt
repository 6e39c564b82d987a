use Rattle.std.proofs.Common.{◌≡◌, ◌+◌, length, drop}
use Rattle.json_lexemes.specs.Unescape.{unescaped, unescaped_from}
use Rattle.json_lexemes.proofs.cursor.unescaped_len.Given as goal

abbrev pub invariant-loop-byte : goal.invariant-loop-byte
invariant-loop-byte l = l.count + length (unescaped_from l.pending (drop l.byte-index l.inside)) ≡ length (unescaped l.inside)
