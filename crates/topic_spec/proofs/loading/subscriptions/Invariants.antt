use Rattle.std.proofs.Common.{◌≡◌, ◌+◌, [], List}
use Rattle.std.specs.Prelude.{IfSome, Result}
use Rattle.yaml_subset.specs.Trees.{Trees}
use Rattle.yaml_subset.specs.Docs.{IsPart, IsFirst, count_of}
use Rattle.topic_spec.specs.Documents.{all_said}
use Rattle.topic_spec.specs.Loading.{Loads}
use Rattle.topic_spec.proofs.Steps.{GoingDocs}
use Rattle.topic_spec.proofs.loading.subscriptions.Given as goal

abbrev pub invariant-loop-doc : goal.invariant-loop-doc
invariant-loop-doc l = record {
  part : IfSome l.here (IsPart l.docs);
  going : GoingDocs l.app l.docs (Loads 0 [] (all_said l.app 0 l.docs)) l.doc l.here l.all;
}
