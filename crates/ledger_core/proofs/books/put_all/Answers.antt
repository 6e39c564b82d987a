use Rattle.std.proofs.Common.{ap, ◌∙◌, sym, subst, length, arith, IsTrue}
use Rattle.std.specs.FinMap.{is_sorted}
use Rattle.ledger_core.specs.Place.{place_order}
use Rattle.ledger_core.specs.Rows.{entries_in}
use Rattle.ledger_core.specs.Tree.{row_of}
use Rattle.ledger_core.specs.Books.{put_all}
use Rattle.ledger_core.proofs.Sorted.{sorted_put}
use Rattle.ledger_core.proofs.Sizes.{put_size}
use Rattle.ledger_core.proofs.books.put_all.Goals as goal

pub loop-node-preserved : goal.loop-node-preserved
loop-node-preserved c = record {
  sorted = subst (λ es. IsTrue (is_sorted place_order es)) (sym c.put-tree.ensures) (sorted_put c.loop-node.tree c.in-Some.node.value.place (row_of c.in-Some.node.value.row) c.loop-node.invariant.sorted);
  room =
      let more = (put_size c.loop-node.tree c.in-Some.node.value.place (row_of c.in-Some.node.value.row) c.loop-node.invariant.sorted).most in
      let tree = ap length c.put-tree.ensures in
      let nodes = ap length c.in-Some.ensures.first in
      let room = c.loop-node.invariant.room in
      omega (arith, more, tree, nodes, room);
  rest = ap (put_all (entries_in c.take_first.new.self)) c.put-tree.ensures ∙ sym (ap (λ ns. put_all (entries_in ns) c.loop-node.tree) c.in-Some.ensures.first) ∙ c.loop-node.invariant.rest;
}
