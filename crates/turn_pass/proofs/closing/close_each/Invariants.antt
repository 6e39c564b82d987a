use Rattle.std.proofs.Common.{◌≤◌, ◌+◌, vec_len}
use Rattle.std.specs.Vec.{vec_capacity}
use Rattle.turn_cell.specs.Passes.{EachAlone}
use Rattle.turn_pass.proofs.Popped.{Closing}
use Rattle.turn_pass.proofs.closing.close_each.Given as goal

abbrev pub invariant-loop-cell : goal.invariant-loop-cell
invariant-loop-cell g l = record {
  closing : Closing g.O.Object.stands l.fn.cells.items l.fn.seats.items l.cells.items l.seats.items l.objects.items;
  alone : EachAlone l.cells.items l.seats.items;
  room : vec_len l.objects + vec_len l.cells ≤ vec_capacity l.objects;
}

abbrev pub decreases-loop-cell : goal.decreases-loop-cell
decreases-loop-cell g l = vec_len l.cells
