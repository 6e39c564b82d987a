use Rattle.std.proofs.Common.{◌≡◌, length}
use Rattle.side_base.specs.Field.{without_front_blanks}
use Rattle.side_base.proofs.field.without_front_blanks.Given as goal

abbrev pub invariant-loop-rest : goal.invariant-loop-rest
invariant-loop-rest l = without_front_blanks l.rest ≡ without_front_blanks l.bytes

abbrev pub decreases-loop-rest : goal.decreases-loop-rest
decreases-loop-rest l = length l.rest
