use Rattle.std.proofs.Common.{◌≡◌, take}
use Rattle.link_call.specs.Passed.{lists_in}
use Rattle.link_call.proofs.passing.connection_lists.Given as goal

abbrev pub invariant-loop-i : goal.invariant-loop-i
invariant-loop-i l = l.lists ≡ lists_in (take l.i l.fields)
