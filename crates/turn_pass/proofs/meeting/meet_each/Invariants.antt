use Rattle.std.proofs.Common.{◌≡◌, ◌++◌, length}
use Rattle.turn_cell.specs.Passes.{MetTo}
use Rattle.turn_pass.proofs.meeting.meet_each.Given as goal

abbrev pub invariant-loop-seat : goal.invariant-loop-seat
invariant-loop-seat g l = record {
  place : l.place ≡ length l.yielded;
  taken : l.fn.pass.items ≡ l.yielded ++ l.seat-iterator.rest.items;
  met : MetTo g.O.Object l.place l.cells l.initial.roots l.fn.pass.items l.roots;
}
