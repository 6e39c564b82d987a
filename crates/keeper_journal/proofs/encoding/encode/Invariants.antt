use Rattle.std.proofs.Common.{◌≡◌, ◌<◌, ℕ, ◌++◌, length, take, get_or}
use Rattle.std.specs.List.{flat_map}
use Rattle.std.specs.Int.{w32, w64, to_le_bytes}
use Rattle.keeper_core.specs.declared.changes.Change.{Change}
use Rattle.keeper_journal.specs.Body.{spelled, HasSpelling}
use Rattle.keeper_journal.proofs.encoding.encode.Given as goal

abbrev pub invariant-loop-change : goal.invariant-loop-change
invariant-loop-change l = record {
  body_is : l.body ≡ to_le_bytes w64 l.next ++ (to_le_bytes w32 (length l.list) ++ flat_map spelled (take l.change-index l.list));
  fits : (k : ℕ) (d : Change) → k < l.change-index → HasSpelling (get_or l.list k d);
}
