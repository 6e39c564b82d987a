use Rattle.std.proofs.Common.{◌≡◌, ℕ, List, ◌++◌, length}
use Rattle.topic_spec.specs.declared.sub.Rule.{Rule}
use Rattle.topic_spec.specs.Reading.{AreRules, IsUnread}
use Rattle.topic_spec.proofs.reading.rules_of.Given as goal

abbrev pub invariant-loop-text : goal.invariant-loop-text
invariant-loop-text l = record {
  good : (more : List Rule) → AreRules l.texts more → AreRules l.fn.texts (l.rules ++ more);
  bad : (at : ℕ) → IsUnread l.texts at → IsUnread l.fn.texts at;
}

abbrev pub decreases-loop-text : goal.decreases-loop-text
decreases-loop-text l = length l.texts
