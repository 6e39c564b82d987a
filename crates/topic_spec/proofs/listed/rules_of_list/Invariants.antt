use Rattle.std.proofs.Common.{length, []}
use Rattle.std.specs.Prelude.{IfSome}
use Rattle.json_text.specs.Forest.{Forest}
use Rattle.json_text.specs.Doc.{bytes_read, IsNode, values_kept}
use Rattle.rule_value.specs.Standing.{IsAt}
use Rattle.rule_value.specs.Values.{held}
use Rattle.topic_spec.specs.Listed.{rules_from}
use Rattle.topic_spec.proofs.Gathering.{GoingRules}
use Rattle.topic_spec.proofs.Steps.{nodes_left}
use Rattle.topic_spec.proofs.listed.rules_of_list.Given as goal

abbrev pub invariant-loop-here : goal.invariant-loop-here
invariant-loop-here l = record {
  here_is : IfSome l.here (IsNode l.doc);
  going : (values : Forest) → IsAt l.doc l.fn.n values → GoingRules l.doc (rules_from (bytes_read l.doc) [] (held values)) l.here l.rules;
}

abbrev pub decreases-loop-here : goal.decreases-loop-here
decreases-loop-here l = nodes_left (length (values_kept l.doc)) l.here
