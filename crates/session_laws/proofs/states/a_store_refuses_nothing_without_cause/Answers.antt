use Rattle.session_laws.proofs.Passing.{succeeds}
use Rattle.session_laws.proofs.states.a_store_refuses_nothing_without_cause.Goals as goal

pub returns : goal.returns
returns g c first seen step there = succeeds _ _ there.before step there.follows
