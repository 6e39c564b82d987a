use Rattle.std.proofs.Common.{length, ◌-◌, ◌≡◌}
use Rattle.json_text.specs.Reader.{IsReader}
use Rattle.json_text.proofs.reader.read_entries.Given as goal

abbrev pub invariant-loop-reader : goal.invariant-loop-reader
invariant-loop-reader l = record {
  same : l.reader.bytes.now ≡ l.bytes;
  reader : IsReader l.reader l.here;
}

abbrev pub decreases-loop-reader : goal.decreases-loop-reader
decreases-loop-reader l = length l.reader.bytes.now - l.reader.at
