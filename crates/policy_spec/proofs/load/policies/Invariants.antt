use Rattle.std.proofs.Common.{◌≡◌, ◌+◌}
use Rattle.std.specs.Prelude.{IfSome}
use Rattle.yaml_subset.specs.Trees.{Trees}
use Rattle.yaml_subset.specs.Docs.{IsPart, IsFirst, count_of}
use Rattle.policy_spec.specs.Readers.{Readers, AreReaders}
use Rattle.policy_spec.specs.Resiliency.{loaded, nothing_bound}
use Rattle.policy_spec.proofs.load.policies.Given as goal

abbrev pub invariant-loop-doc : goal.invariant-loop-doc
invariant-loop-doc l = record {
  part : IfSome l.here (IsPart l.docs);
  going : (readers : Readers) → AreReaders readers → (rest : Trees) × (IsFirst l.docs rest l.here × (count_of rest + l.doc ≡ count_of l.docs) × (loaded readers l.app 0 nothing_bound l.docs ≡ loaded readers l.app l.doc l.all rest));
}
