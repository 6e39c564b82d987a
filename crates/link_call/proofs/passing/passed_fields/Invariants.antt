use Rattle.std.proofs.Common.{◌≡◌, take}
use Rattle.std.specs.List.{filter}
use Rattle.link_call.specs.Passed.{lists_in, passes}
use Rattle.link_call.proofs.passing.passed_fields.Given as goal

abbrev pub invariant-loop-i : goal.invariant-loop-i
invariant-loop-i l = l.own ≡ filter (passes (lists_in l.fields)) (take l.i l.fields)
