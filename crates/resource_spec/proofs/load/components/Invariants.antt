use Rattle.std.proofs.Common.{◌≡◌, ◌+◌, []}
use Rattle.std.specs.Prelude.{IfSome}
use Rattle.yaml_subset.specs.Trees.{Trees}
use Rattle.yaml_subset.specs.Docs.{IsPart, IsFirst, count_of}
use Rattle.resource_spec.specs.Load.{loaded}
use Rattle.resource_spec.proofs.load.components.Given as goal

abbrev pub invariant-loop-doc : goal.invariant-loop-doc
invariant-loop-doc l = record {
  part : IfSome l.here (IsPart l.docs);
  going : (rest : Trees) × (IsFirst l.docs rest l.here × (count_of rest + l.doc ≡ count_of l.docs) × (loaded l.app 0 [] l.docs ≡ loaded l.app l.doc l.all rest));
}
