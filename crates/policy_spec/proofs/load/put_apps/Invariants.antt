use Rattle.std.proofs.Common.{◌≡◌}
use Rattle.std.specs.Prelude.{IfSome}
use Rattle.yaml_subset.specs.Trees.{Trees}
use Rattle.yaml_subset.specs.Docs.{IsPart, IsFirst, parts_left}
use Rattle.policy_spec.specs.Resiliency.{apps_from}
use Rattle.policy_spec.specs.Shown.{tables_shown}
use Rattle.policy_spec.proofs.load.put_apps.Given as goal

abbrev pub invariant-loop-here : goal.invariant-loop-here
invariant-loop-here l = record {
  part : IfSome l.here (IsPart l.docs);
  going : (row : Trees) → IsFirst l.docs row l.fn.members → (rest : Trees) × (IsFirst l.docs rest l.here × (apps_from l.doc (tables_shown l.tables) l.initial.all row ≡ apps_from l.doc (tables_shown l.tables) l.all rest));
}

abbrev pub decreases-loop-here : goal.decreases-loop-here
decreases-loop-here l = parts_left l.docs l.here
