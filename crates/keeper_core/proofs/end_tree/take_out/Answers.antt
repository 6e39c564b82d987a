use Rattle.std.proofs.Common.{arith}
use Rattle.keeper_core.proofs.EndTable.{taken}
use Rattle.keeper_core.proofs.end_tree.take_out.Goals as goal

pub returns-clause-whole : goal.returns-clause-whole
returns-clause-whole c = (taken _ _ _ _ _ _ _ _ _ _ _ _ _ _ _ c.swap_remove.result c.swap_remove-2.result c.deref.ensures.value c.deref_mut.ensures.value c.deref_mut.ensures.len (omega (arith, c.deref_mut.type_inv)) c.requires.slot c.requires.whole c.lift_out-root.ensures c.swap_remove.ensures.items c.swap_remove-2.ensures.items c.deref_mut-2.ensures.value c.deref_mut-2.ensures.len c.relink.ensures).stands

pub returns-clause-ends : goal.returns-clause-ends
returns-clause-ends c = (taken _ _ _ _ _ _ _ _ _ _ _ _ _ _ _ c.swap_remove.result c.swap_remove-2.result c.deref.ensures.value c.deref_mut.ensures.value c.deref_mut.ensures.len (omega (arith, c.deref_mut.type_inv)) c.requires.slot c.requires.whole c.lift_out-root.ensures c.swap_remove.ensures.items c.swap_remove-2.ensures.items c.deref_mut-2.ensures.value c.deref_mut-2.ensures.len c.relink.ensures).shown
