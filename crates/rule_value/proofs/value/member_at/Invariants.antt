use Rattle.std.proofs.Common.{◌≡◌, drop, Some}
use Rattle.json_text.specs.Forest.{Forest}
use Rattle.json_text.specs.Doc.{IsNode}
use Rattle.rule_value.specs.Values.{Event, found_at, member_at}
use Rattle.rule_value.specs.Standing.{IsAt, IsEvent}
use Rattle.rule_value.proofs.value.member_at.Given as goal

abbrev pub invariant-loop-i : goal.invariant-loop-i
invariant-loop-i l = record {
  node : IsNode l.doc l.node;
  found : (event : Event) → IsEvent l.doc event → (values : Forest) × IsAt l.doc l.node values × (found_at event.bytes (Some values) (drop l.i l.path) ≡ member_at event l.path);
}
