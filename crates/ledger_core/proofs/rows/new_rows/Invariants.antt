use Rattle.std.proofs.Common.{◌≡◌, ◌≤◌, length, take}
use Rattle.ledger_core.specs.Size.{new_drops}
use Rattle.ledger_core.specs.Rows.{entries_in}
use Rattle.ledger_core.specs.After.{fresh, entries_for}
use Rattle.std.specs.Arc.{arc_value}
use Rattle.ledger_core.proofs.rows.new_rows.Given as goal

abbrev pub invariant-loop-i : goal.invariant-loop-i
invariant-loop-i l = record {
  rows : entries_in l.nodes ≡ entries_for l.plans (fresh l.origin.no (arc_value l.origin.event) l.origin.hops l.origin.due (take l.i l.aims));
  drops : l.drops ≡ new_drops (take l.i l.aims);
  few : l.drops ≤ l.i;
  short : length l.nodes ≤ l.i;
}
