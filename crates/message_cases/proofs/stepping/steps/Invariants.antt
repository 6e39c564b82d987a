use Rattle.std.proofs.Common.{◌≡◌}
use Rattle.turn_cell.specs.Sitting.{IsSeatOf}
use Rattle.message_cases.proofs.stepping.steps.Given as goal

abbrev pub invariant-loop-section : goal.invariant-loop-section
invariant-loop-section g l = IsSeatOf l.fn.cell l.seat × (g.G.Guard.there l.guard ≡ g.G.Guard.there l.fn.guard) × g.G.Guard.ready l.guard
