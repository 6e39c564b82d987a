use Rattle.std.proofs.Common.{◌≡◌, []}
use Rattle.std.specs.Prelude.{IfSome}
use Rattle.yaml_subset.specs.Trees.{Trees}
use Rattle.yaml_subset.specs.Docs.{IsPart, IsFirst, parts_left}
use Rattle.policy_spec.specs.Policy.{policies_from}
use Rattle.policy_spec.specs.Readers.{Readers, AreReaders}
use Rattle.policy_spec.proofs.section.policies_of.Given as goal

abbrev pub invariant-loop-here : goal.invariant-loop-here
invariant-loop-here l = record {
  part : IfSome l.here (IsPart l.docs);
  going : (readers : Readers) (row : Trees) → AreReaders readers → IsFirst l.docs row l.fn.members → (rest : Trees) × (IsFirst l.docs rest l.here × (policies_from readers l.section l.field [] row ≡ policies_from readers l.section l.field l.table rest));
}

abbrev pub decreases-loop-here : goal.decreases-loop-here
decreases-loop-here l = parts_left l.docs l.here
