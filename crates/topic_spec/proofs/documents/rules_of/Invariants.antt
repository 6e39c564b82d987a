use Rattle.std.proofs.Common.{◌≡◌, []}
use Rattle.std.specs.Prelude.{IfSome}
use Rattle.yaml_subset.specs.Trees.{Trees}
use Rattle.yaml_subset.specs.Docs.{IsPart, IsFirst, parts_left}
use Rattle.topic_spec.specs.Documents.{rules_from}
use Rattle.topic_spec.proofs.documents.rules_of.Given as goal

abbrev pub invariant-loop-here : goal.invariant-loop-here
invariant-loop-here l = record {
  part : IfSome l.here (IsPart l.docs);
  going : (row : Trees) → IsFirst l.docs row l.fn.items → (rest : Trees) × (IsFirst l.docs rest l.here × (rules_from [] row ≡ rules_from l.rules rest));
}

abbrev pub decreases-loop-here : goal.decreases-loop-here
decreases-loop-here l = parts_left l.docs l.here
