use Rattle.std.proofs.Common.{◌≡◌, ◌≤◌, ◌+◌, ◌^◌, length, IsTrue}
use Rattle.std.specs.FinMap.{is_sorted}
use Rattle.ledger_core.specs.Place.{place_order}
use Rattle.ledger_core.specs.Rows.{entries_in}
use Rattle.ledger_core.specs.Books.{put_all}
use Rattle.ledger_core.proofs.books.put_all.Given as goal

abbrev pub invariant-loop-node : goal.invariant-loop-node
invariant-loop-node l = record {
  sorted : IsTrue (is_sorted place_order l.tree);
  room : length l.tree + length l.nodes ≤ 2 ^ 126;
  rest : put_all (entries_in l.nodes) l.tree ≡ put_all (entries_in l.fn.nodes) l.fn.tree;
}

abbrev pub decreases-loop-node : goal.decreases-loop-node
decreases-loop-node l = length l.nodes
