use Rattle.std.proofs.Common.{List, ◌++◌, refl, sym, subst}
use Rattle.cloud_events.specs.declared.item.Item.{Item}
use Rattle.cloud_events.specs.Gather.{AreItems}
use Rattle.cloud_events.proofs.Gathered.{nodes_first, more_items, all_given}
use Rattle.cloud_events.proofs.gather.all_items.Goals as goal

pub loop-member-init : goal.loop-member-init
loop-member-init c = record {
  nodes = c.requires;
  going = λ more h. subst (λ (xs : List Item). AreItems c.args.doc.now c.args.members (xs ++ more)) (sym c.in_ok-items.ensures.items) h;
}

pub add-requires : goal.add-requires
add-requires c = (nodes_first c.args.doc.now c.loop-member.members c.in-Some.member c.take_first.new.self c.in-Some.ensures.first c.loop-member.invariant.nodes).0

pub loop-member-preserved : goal.loop-member-preserved
loop-member-preserved c = record {
  nodes = (nodes_first c.args.doc.now c.loop-member.members c.in-Some.member c.take_first.new.self c.in-Some.ensures.first c.loop-member.invariant.nodes).1;
  going = more_items c.args.doc.now c.args.members c.loop-member.members c.take_first.new.self c.in-Some.member c.loop-member.items.items c.add.new.items.items c.in-Some.ensures.first c.in-Ok.ensures c.loop-member.invariant.going;
}

pub returns : goal.returns
returns c = all_given c.args.doc.now c.args.members c.loop-member.members c.loop-member.items.items (c.in_default.ensures.none.0 refl) c.loop-member.invariant.going
