use Rattle.std.proofs.Common.{◌≡◌, ℕ, List, length}
use Rattle.std.specs.Prelude.{option_map}
use Rattle.std.specs.Option.{option_or}
use Rattle.policy_spec.specs.Named.{under, AreNames}
use Rattle.policy_spec.specs.Join.{first_in_both, moved}
use Rattle.policy_spec.proofs.joining.table_of_both.Given as goal

abbrev pub invariant-loop-name : goal.invariant-loop-name
invariant-loop-name l = record {
  repeated : first_in_both l.earlier l.initial.later ≡ first_in_both l.earlier l.later;
  has : (name : List ℕ) → option_or (option_map (moved l.count) (under name l.later)) (under name l.both) ≡ option_or (option_map (moved l.count) (under name l.initial.later)) (under name l.earlier);
  names : AreNames l.both;
}

abbrev pub decreases-loop-name : goal.decreases-loop-name
decreases-loop-name l = length l.later
