use Rattle.std.proofs.Common.{◌≡◌, ◌≤◌, ◌-◌, ◌++◌, length, take, drop}
use Rattle.json_lexemes.specs.Unescape.{unescaped, unescaped_from}
use Rattle.json_lexemes.proofs.copies.push_pieces.Given as goal

abbrev pub invariant-loop-at : goal.invariant-loop-at
invariant-loop-at l = record {
  high : l.at ≤ length l.inside;
  copied : l.out ++ unescaped_from l.pending (drop l.at l.inside) ≡ l.fn.out ++ unescaped l.inside;
  kept : take (length l.fn.out) l.out ≡ l.fn.out;
}

abbrev pub decreases-loop-at : goal.decreases-loop-at
decreases-loop-at l = length l.inside - l.at
