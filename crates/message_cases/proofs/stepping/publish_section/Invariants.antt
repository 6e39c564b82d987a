use Rattle.turn_cell.specs.Sitting.{IsSeatOf}
use Rattle.message_cases.proofs.stepping.publish_section.Given as goal

abbrev pub invariant-loop : goal.invariant-loop
invariant-loop g l = IsSeatOf l.fn.cell l.seat
