use Rattle.std.proofs.Common.{◌≡◌, take}
use Rattle.side_memory.proofs.copying.copy_fields.Given as goal

abbrev pub invariant-loop-i : goal.invariant-loop-i
invariant-loop-i l = l.copy ≡ take l.i l.fields
