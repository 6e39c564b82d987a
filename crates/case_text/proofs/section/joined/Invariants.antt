-- With what the sections behind say, the bytes are what all say.
use Rattle.std.proofs.Common.{◌≡◌, ◌++◌, drop}
use Rattle.case_text.specs.Section.{joined_of}
use Rattle.case_text.proofs.section.joined.Given as goal

abbrev pub invariant-loop-section : goal.invariant-loop-section
invariant-loop-section l = joined_of l.word l.sections ≡ l.all ++ joined_of l.word (drop l.section-index l.sections)
