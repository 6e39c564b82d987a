use Rattle.std.proofs.Common.{◌≡◌}
use Rattle.turn_cell.specs.Sitting.{IsSeatOf}
use Rattle.message_cases.proofs.stepping.deliver_often.Given as goal

abbrev pub invariant-loop : goal.invariant-loop
invariant-loop g l = IsSeatOf l.fn.cell l.seat × (g.G.Guard.there l.guard ≡ g.G.Guard.there l.fn.guard) × g.G.Guard.ready l.guard
