use Rattle.std.proofs.Common.{subst}
use Rattle.state_core.specs.Taken.{IsTaken}
use Rattle.state_core.proofs.Commands.{ttl_of_items}
use Rattle.state_core.proofs.answer.answered.Goals as goal

pub save-requires-clause-ttl : goal.save-requires-clause-ttl
save-requires-clause-ttl g c = ttl_of_items c.in-Save.items (subst IsTaken c.in-Save.is c.requires.taken)

pub returns-in-Save : goal.returns-in-Save
returns-in-Save g c = rw c.in-Save.is (c.save.ensures c.in-Save.now)

pub returns-in-Delete : goal.returns-in-Delete
returns-in-Delete g c = rw c.in-Delete.is (c.delete.ensures c.in-Delete.now)

pub returns-in-Transact : goal.returns-in-Transact
returns-in-Transact g c = rw c.in-Transact.is (c.transact.ensures c.in-Transact.now)
