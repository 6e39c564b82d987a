use Rattle.std.proofs.Common.{◌≡◌}
use Rattle.std.specs.Prelude.{IfSome}
use Rattle.yaml_subset.specs.Trees.{Trees}
use Rattle.yaml_subset.specs.Docs.{IsPart, IsFirst, named, parts_left}
use Rattle.yaml_subset.proofs.docs.Docs.named_from.Given as goal

abbrev pub invariant-loop-here : goal.invariant-loop-here
invariant-loop-here l = record {
  part : IfSome l.here (IsPart l.self);
  going : (row : Trees) → IsFirst l.self row l.fn.from → (tail : Trees) × (IsFirst l.self tail l.here × (named l.name row ≡ named l.name tail));
}

abbrev pub decreases-loop-here : goal.decreases-loop-here
decreases-loop-here l = parts_left l.self l.here
