use Rattle.std.proofs.Common.{Some, ap, subst, arith}
use Rattle.keeper_core.specs.Shapes.{Finds}
use Rattle.keeper_core.specs.EndTable.{slots_in}
use Rattle.keeper_core.proofs.EndTable.{given}
use Rattle.keeper_core.proofs.end_tree.EndTree.give.Goals as goal

pub invariant_of-self : goal.invariant_of-self
invariant_of-self c =
    (given _ _ _ _ _ _ _ _ _ _ _ _ c.deref-2.ensures.value c.deref.ensures.value c.deref_mut.ensures.value c.deref_mut.ensures.len (omega (arith, c.deref_mut.type_inv)) c.self.invariant c.in-Some.ensures c.set_until.ensures (ap (λ table. table.ends) c.self.view_is)).stands

pub returns-in-Some-clause-ends : goal.returns-in-Some-clause-ends
returns-in-Some-clause-ends c =
    let found = subst (λ key. Finds c.deref-2.result.now c.deref.result.now (slots_in c.deref.result.now c.self.inside.root) key (Some c.in-Some.slot)) c.deref-3.ensures.value c.in-Some.ensures in
    (given _ _ _ _ _ _ _ _ _ _ _ _ c.deref-2.ensures.value c.deref.ensures.value c.deref_mut.ensures.value c.deref_mut.ensures.len (omega (arith, c.deref_mut.type_inv)) c.self.invariant found c.set_until.ensures (ap (λ table. table.ends) c.self.view_is)).shown
