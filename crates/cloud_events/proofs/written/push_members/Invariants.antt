use Rattle.std.proofs.Common.{◌≡◌, ◌++◌, map, take}
use Rattle.cloud_events.specs.Event.{item_bytes, joined}
use Rattle.cloud_events.proofs.written.push_members.Given as goal

abbrev pub invariant-loop-i : goal.invariant-loop-i
invariant-loop-i l = l.event ≡ l.fn.event ++ joined (map (item_bytes l.body) (take l.i l.items))
