-- What is told of the sections so far was added.
use Rattle.std.proofs.Common.{take}
use Rattle.case_text.specs.Lines.{Added}
use Rattle.case_text.specs.Section.{broken_lines}
use Rattle.case_text.proofs.section.add_broken.Given as goal

abbrev pub invariant-loop-section : goal.invariant-loop-section
invariant-loop-section l = Added (broken_lines (take l.section-index l.sections)) l.fn.lines l.lines
