use Rattle.std.proofs.Common.{◌≡◌, ◌++◌, length}
use Rattle.std.specs.List.{filter}
use Rattle.link_call.specs.Passed.{lists_in, passes}
use Rattle.link_call.proofs.passing.moved_fields.Given as goal

abbrev pub invariant-loop-field : goal.invariant-loop-field
invariant-loop-field l = l.own ++ filter (passes (lists_in l.fn.fields)) l.left ≡ filter (passes (lists_in l.fn.fields)) l.fn.fields

abbrev pub decreases-loop-field : goal.decreases-loop-field
decreases-loop-field l = length l.left
