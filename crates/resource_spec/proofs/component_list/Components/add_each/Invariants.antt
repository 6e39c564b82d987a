use Rattle.std.proofs.Common.{◌≡◌, length, take}
use Rattle.resource_spec.specs.Load.{joined}
use Rattle.resource_spec.proofs.component_list.Components.add_each.Given as goal

abbrev pub invariant-loop-c : goal.invariant-loop-c
invariant-loop-c l = record {
  going : joined l.count l.initial.self l.initial.more ≡ joined l.count l.self l.more;
  behind : take (length l.initial.self) l.self ≡ l.initial.self;
}

abbrev pub decreases-loop-c : goal.decreases-loop-c
decreases-loop-c l = length l.more
