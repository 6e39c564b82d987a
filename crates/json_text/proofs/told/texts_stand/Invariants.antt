use Rattle.std.proofs.Common.{◌≡◌}
use Rattle.json_text.specs.Told.{StandUpTo}
use Rattle.json_text.proofs.told.texts_stand.Given as goal

abbrev pub invariant-loop-i : goal.invariant-loop-i
invariant-loop-i l = StandUpTo l.i l.bytes l.nodes
