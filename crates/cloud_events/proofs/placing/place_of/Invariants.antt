use Rattle.std.proofs.Common.{◌≡◌, ◌++◌, take, drop}
use Rattle.cloud_events.specs.declared.item.Item.{Item}
use Rattle.cloud_events.specs.Placing.{put}
use Rattle.cloud_events.proofs.placing.place_of.Given as goal

abbrev pub invariant-loop-at : goal.invariant-loop-at
invariant-loop-at l = (item : Item) → item.name ≡ l.name → put item l.items ≡ take l.at l.items ++ put item (drop l.at l.items)
