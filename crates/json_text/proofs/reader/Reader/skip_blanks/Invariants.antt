use Rattle.std.proofs.Common.{length, ◌-◌, ◌≡◌, ◌≤◌}
use Rattle.json_text.specs.Reader.{IsReader}
use Rattle.json_text.proofs.reader.Reader.skip_blanks.Given as goal

abbrev pub invariant-loop-self : goal.invariant-loop-self
invariant-loop-self l = record {
  same : l.self.bytes ≡ l.fn.self.bytes;
  reader : IsReader l.self l.fn.here;
  low : l.fn.self.at ≤ l.self.at;
}

abbrev pub decreases-loop-self : goal.decreases-loop-self
decreases-loop-self l = length l.self.bytes.now - l.self.at
