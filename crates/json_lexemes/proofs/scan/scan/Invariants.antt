use Rattle.std.proofs.Common.{◌≤◌, ◌-◌, length}
use Rattle.json_lexemes.specs.Scan.{Passes}
use Rattle.json_lexemes.proofs.scan.scan.Given as goal

abbrev pub invariant-loop-run : goal.invariant-loop-run
invariant-loop-run l = record {
  high : l.at ≤ length l.bytes;
  passed : Passes l.bytes l.from l.fn.first l.at l.word;
}

abbrev pub decreases-loop-run : goal.decreases-loop-run
decreases-loop-run l = length l.bytes - l.at
