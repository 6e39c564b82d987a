use Rattle.std.proofs.Common.{◌≡◌, ℕ, List, Option, drop}
use Rattle.rule_value.specs.Standing.{IsEvent}
use Rattle.rule_value.specs.Values.{Event}
use Rattle.topic_spec.specs.declared.draft.RuleText.{RuleText}
use Rattle.topic_spec.specs.Aiming.{first_yes}
use Rattle.topic_spec.specs.Reading.{AreRules}
use Rattle.topic_spec.proofs.Pathing.{Onward}
use Rattle.topic_spec.proofs.aiming.first_yes.Given as goal

abbrev pub invariant-loop-i : goal.invariant-loop-i
invariant-loop-i l = record {
  first : (shown : Event) → IsEvent l.event shown → first_yes shown (drop l.i l.rules) ≡ first_yes shown l.rules;
  values : (shown : Event) (texts : List RuleText) (default : Option (List ℕ)) → IsEvent l.event shown → AreRules texts l.rules → Onward shown texts default (drop l.i l.rules);
}
