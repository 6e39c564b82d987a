-- With the numbers that are left, the bytes are those that there were and all numbers.
use Rattle.std.proofs.Common.{◌≡◌, ◌++◌, ◌-◌}
use Rattle.case_text.specs.Section.{numbered}
use Rattle.case_text.proofs.words.push_numbered.Given as goal

abbrev pub invariant-loop-number : goal.invariant-loop-number
invariant-loop-number l = l.fn.all ++ numbered 0 l.times l.text ≡ l.all ++ numbered l.number (l.times - l.number) l.text
