use Rattle.std.proofs.Common.{◌≡◌, drop, find}
use Rattle.cloud_events.specs.Items.{is_item}
use Rattle.cloud_events.proofs.item.find.Given as goal

abbrev pub invariant-loop-i : goal.invariant-loop-i
invariant-loop-i l = find (is_item l.name) (drop l.i l.items) ≡ find (is_item l.name) l.items
