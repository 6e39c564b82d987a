use Rattle.std.proofs.Common.{◌≡◌, ◌≤◌, ◌+◌, ◌*◌, ◌^◌, take}
use Rattle.ledger_core.specs.Size.{new_rows, new_bytes}
use Rattle.ledger_core.proofs.size.Size.with.Given as goal

abbrev pub invariant-loop-i : goal.invariant-loop-i
invariant-loop-i l = record {
  rows_are : l.rows ≡ l.self.rows + new_rows (take l.i l.aims);
  bytes_are : l.bytes ≡ l.self.bytes + new_bytes l.event_len (take l.i l.aims);
  few_rows : l.rows ≤ l.self.rows + l.i;
  few_bytes : l.bytes ≤ l.self.bytes + l.i * 2 ^ 64;
}
