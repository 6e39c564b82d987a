use Rattle.std.proofs.Common.{◌≡◌, drop}
use Rattle.std.specs.List.{slice_get}
use Rattle.json_lexemes.specs.Unescape.{unescaped, unescaped_from}
use Rattle.json_lexemes.proofs.texts.byte_of.Given as goal

abbrev pub invariant-loop-byte : goal.invariant-loop-byte
invariant-loop-byte l = slice_get (unescaped_from l.pending (drop l.byte-index l.inside)) l.left ≡ slice_get (unescaped l.inside) l.fn.number
