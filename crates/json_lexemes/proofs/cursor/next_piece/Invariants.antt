use Rattle.std.proofs.Common.{◌≡◌, drop}
use Rattle.json_lexemes.specs.Unescape.{unescaped_from}
use Rattle.json_lexemes.proofs.cursor.next_piece.Given as goal

abbrev pub invariant-loop-i : goal.invariant-loop-i
invariant-loop-i l = unescaped_from l.state (drop l.i l.inside) ≡ unescaped_from l.fn.pending l.inside
