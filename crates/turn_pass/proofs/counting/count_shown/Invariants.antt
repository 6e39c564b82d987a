use Rattle.std.proofs.Common.{◌≡◌, drop}
use Rattle.turn_pass.specs.Pass.{count_shown}
use Rattle.turn_pass.proofs.counting.count_shown.Given as goal

abbrev pub invariant-loop-seat : goal.invariant-loop-seat
invariant-loop-seat g l = count_shown (drop l.seat-index l.seats) ≡ count_shown l.seats
