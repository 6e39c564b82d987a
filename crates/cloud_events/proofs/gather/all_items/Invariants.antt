use Rattle.std.proofs.Common.{List, length, ◌++◌}
use Rattle.cloud_events.specs.declared.item.Item.{Item}
use Rattle.cloud_events.specs.Gather.{AllNodes, AreItems}
use Rattle.cloud_events.proofs.gather.all_items.Given as goal

abbrev pub invariant-loop-member : goal.invariant-loop-member
invariant-loop-member l = record {
  nodes : AllNodes l.doc l.members;
  going : (more : List Item) → AreItems l.doc l.members more → AreItems l.doc l.fn.members (l.items.items ++ more);
}

abbrev pub decreases-loop-member : goal.decreases-loop-member
decreases-loop-member l = length l.members
