use Rattle.std.proofs.Common.{drop}
use Rattle.json_lexemes.specs.Unescape.{unescaped, unescaped_from}
use Rattle.json_lexemes.proofs.Pieces.{Same}
use Rattle.json_lexemes.proofs.texts.spells_in_steps.Given as goal

abbrev pub invariant-loop-byte : goal.invariant-loop-byte
invariant-loop-byte l = Same (unescaped l.inside) l.fn.text (unescaped_from l.pending (drop l.byte-index l.inside)) l.rest
