use Rattle.std.proofs.Common.{◌≡◌, false, take}
use Rattle.std.specs.List.{list_any}
use Rattle.side_base.specs.Field.{has_item}
use Rattle.link_call.proofs.passing.is_listed.Given as goal

abbrev pub invariant-loop-i : goal.invariant-loop-i
invariant-loop-i l = list_any (λ value. has_item value l.name) (take l.i l.lists) ≡ false
