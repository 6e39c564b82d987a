use Rattle.std.proofs.Common.{◌≡◌, ◌++◌, length}
use Rattle.json_text.specs.LastMembers.{members_of}
use Rattle.json_text.proofs.last.in_order.Given as goal

abbrev pub invariant-loop-name : goal.invariant-loop-name
invariant-loop-name l = l.members ++ members_of l.map.entries ≡ members_of l.initial.map.entries

abbrev pub decreases-loop-name : goal.decreases-loop-name
decreases-loop-name l = length l.map.entries
