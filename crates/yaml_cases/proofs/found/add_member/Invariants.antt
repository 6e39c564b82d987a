use Rattle.yaml_subset.specs.Docs.{IsPart}
use Rattle.yaml_cases.proofs.found.add_member.Given as goal

abbrev pub invariant-loop-name : goal.invariant-loop-name
invariant-loop-name l = IsPart l.docs l.p
