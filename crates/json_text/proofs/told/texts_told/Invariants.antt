use Rattle.std.proofs.Common.{◌≡◌}
use Rattle.json_text.proofs.Whole.{Telling}
use Rattle.json_text.proofs.told.texts_told.Given as goal

abbrev pub invariant-loop-i : goal.invariant-loop-i
invariant-loop-i l = Telling l.i l.bytes l.nodes l.told
