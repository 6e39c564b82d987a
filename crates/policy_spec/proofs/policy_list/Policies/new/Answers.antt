use Rattle.policy_spec.proofs.Sound.{empty_sound}
use Rattle.policy_spec.proofs.policy_list.Policies.new.Goals as goal

pub invariant_of-result : goal.invariant_of-result
invariant_of-result c = empty_sound _ _ _ _ c.new.ensures c.new-2.ensures c.new-3.ensures c.new-4.ensures
