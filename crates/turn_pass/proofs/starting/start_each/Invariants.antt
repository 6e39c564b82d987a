use Rattle.std.proofs.Common.{◌≡◌, ◌≤◌, ◌++◌, length, map, vec_len}
use Rattle.std.specs.Vec.{vec_capacity}
use Rattle.turn_cell.specs.Sitting.{root_of}
use Rattle.turn_cell.specs.Passes.{EachSound}
use Rattle.turn_pass.proofs.starting.start_each.Given as goal

abbrev pub invariant-loop-first : goal.invariant-loop-first
invariant-loop-first g l = record {
  taken : l.fn.firsts.items ≡ l.yielded ++ l.first-iterator.rest.items;
  begun : map (λ cell. cell.first) l.cells.items ≡ l.yielded;
  roots : l.roots.items ≡ map root_of l.cells.items;
  sound : EachSound g.O.Object l.cells.items l.roots.items;
  long : (vec_len l.cells ≡ length l.yielded) × (vec_len l.roots ≡ length l.yielded);
  room : (length l.fn.firsts.items ≤ vec_capacity l.cells) × (length l.fn.firsts.items ≤ vec_capacity l.roots);
}
