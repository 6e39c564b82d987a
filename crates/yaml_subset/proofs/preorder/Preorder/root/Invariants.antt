use Rattle.std.proofs.Common.{◌-◌, ◌≤◌}
use Rattle.std.specs.Prelude.{IfSome}
use Rattle.yaml_subset.specs.Trees.{Trees}
use Rattle.yaml_subset.specs.Preorder.{IsPart, AreDocuments, FirstOf}
use Rattle.yaml_subset.specs.Docs.{rows_from}
use Rattle.yaml_subset.proofs.preorder.Preorder.root.Given as goal

abbrev pub invariant-loop-passed : goal.invariant-loop-passed
invariant-loop-passed l = record {
  low : l.passed ≤ l.doc;
  part : IfSome l.here (IsPart l.self);
  going : (documents : Trees) → AreDocuments l.self documents → FirstOf l.self (rows_from l.passed documents) l.here;
}

abbrev pub decreases-loop-passed : goal.decreases-loop-passed
decreases-loop-passed l = l.doc - l.passed
