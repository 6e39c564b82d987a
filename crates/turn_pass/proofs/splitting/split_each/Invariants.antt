use Rattle.std.proofs.Common.{◌≡◌, ◌≤◌, length, vec_len}
use Rattle.std.specs.Vec.{vec_capacity}
use Rattle.turn_cell.specs.Passes.{SplitTo}
use Rattle.turn_pass.proofs.splitting.split_each.Given as goal

abbrev pub invariant-loop-place : goal.invariant-loop-place
invariant-loop-place g l = record {
  split : SplitTo l.place l.initial.roots l.roots l.pass.items;
  long : vec_len l.pass ≡ l.place;
  room : length l.cells ≤ vec_capacity l.pass;
}
