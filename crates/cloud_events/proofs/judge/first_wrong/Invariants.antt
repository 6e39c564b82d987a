use Rattle.std.proofs.Common.{◌≡◌, fold, take, None}
use Rattle.std.specs.Prelude.{option_copied}
use Rattle.cloud_events.specs.Judge.{earlier}
use Rattle.cloud_events.proofs.judge.first_wrong.Given as goal

abbrev pub invariant-loop-item : goal.invariant-loop-item
invariant-loop-item l = option_copied l.found ≡ fold earlier None (take l.item-index l.items)
