use Rattle.std.proofs.Common.{◌≡◌, ◌≤◌, ◌-◌, length}
use Rattle.yaml_subset.specs.Left.{contents_left}
use Rattle.yaml_subset.proofs.left.Source.next.Given as goal

abbrev pub invariant-loop-self : goal.invariant-loop-self
invariant-loop-self l = record {
  same : l.self.lines ≡ l.fn.self.lines;
  moved : l.fn.self.at ≤ l.self.at;
  left : contents_left l.self ≡ contents_left l.fn.self;
}

abbrev pub decreases-loop-self : goal.decreases-loop-self
decreases-loop-self l = length l.self.lines.now - l.self.at
