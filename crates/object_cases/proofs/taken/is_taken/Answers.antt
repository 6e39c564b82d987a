use Rattle.std.proofs.Common.{subst, sym}
use Rattle.state_core.specs.Taken.{IsTaken}
use Rattle.state_core.proofs.Commands.{ttl_as_ops}
use Rattle.object_cases.proofs.taken.is_taken.Goals as goal

pub returns-in-Save : goal.returns-in-Save
returns-in-Save c = λ yes. subst IsTaken (sym c.in-Save.is) (ttl_as_ops c.in-Save.items (c.items_have_ttl.ensures yes))
