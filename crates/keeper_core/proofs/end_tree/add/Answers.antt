use Rattle.std.proofs.Common.{◌≡◌, ◌+◌, refl, arith}
use Rattle.keeper_core.proofs.EndTable.{added, added-tree}
use Rattle.keeper_core.proofs.end_tree.add.Goals as goal

pub place-requires-clause-tree : goal.place-requires-clause-tree
place-requires-clause-tree c = added-tree _ _ _ _ _ c.args.key _ c.push_reserved.ensures.items c.deref_mut.ensures.value c.requires.whole

pub returns-clause-whole : goal.returns-clause-whole
returns-clause-whole c =
    let next : c.push_reserved.new.self.len ≡ c.len-slot.result + 1 = omega (arith, c.len-slot.ensures, c.push_reserved.ensures.len) in
    (added _ _ _ _ _ _ _ _ _ _ _ _ _ c.push_reserved-2.ensures.items c.push_reserved.ensures.items c.deref_mut.ensures.value c.deref.ensures.value c.deref_mut.ensures.len next (omega (arith, c.deref_mut.type_inv)) refl refl c.requires.whole c.requires.lacks c.place.ensures).stands

pub returns-clause-ends : goal.returns-clause-ends
returns-clause-ends c =
    let next : c.push_reserved.new.self.len ≡ c.len-slot.result + 1 = omega (arith, c.len-slot.ensures, c.push_reserved.ensures.len) in
    (added _ _ _ _ _ _ _ _ _ _ _ _ _ c.push_reserved-2.ensures.items c.push_reserved.ensures.items c.deref_mut.ensures.value c.deref.ensures.value c.deref_mut.ensures.len next (omega (arith, c.deref_mut.type_inv)) refl refl c.requires.whole c.requires.lacks c.place.ensures).shown
