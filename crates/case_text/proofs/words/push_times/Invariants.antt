-- With what is left to add, the bytes are those that there were and the text so many times.
use Rattle.std.proofs.Common.{◌≡◌, ◌++◌}
use Rattle.case_text.specs.Section.{repeated}
use Rattle.case_text.proofs.words.push_times.Given as goal

abbrev pub invariant-loop-left : goal.invariant-loop-left
invariant-loop-left l = l.fn.all ++ repeated l.times l.text ≡ l.all ++ repeated l.left l.text

abbrev pub decreases-loop-left : goal.decreases-loop-left
decreases-loop-left l = l.left
