use Rattle.std.proofs.Common.{ap, ◌∙◌}
use Rattle.keeper_core.specs.Tree.{without}
use Rattle.keeper_core.proofs.EndTable.{unknown, found_within, found_key}
use Rattle.keeper_core.proofs.end_tree.EndTree.take.Goals as goal

pub take_out-self-inside-requires-clause-slot : goal.take_out-self-inside-requires-clause-slot
take_out-self-inside-requires-clause-slot c = found_within _ _ _ _ _ _ _ c.deref.ensures.value c.self.invariant c.in-Some.ensures

pub returns-in-Some-clause-ends : goal.returns-in-Some-clause-ends
returns-in-Some-clause-ends c =
    let key = found_key _ _ _ _ _ _ c.deref-2.ensures.value c.in-Some.ensures in
    c.take_out-self-inside.ensures.ends ∙ (λ i. without (key i) (c.self.view_is i).ends)

pub returns-in_default-clause-ends : goal.returns-in_default-clause-ends
returns-in_default-clause-ends c =
    unknown _ _ _ _ _ _ _ c.deref-2.ensures.value c.deref.ensures.value c.self.invariant c.in_default.ensures (ap (λ table. table.ends) c.self.view_is)
