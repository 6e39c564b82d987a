use Rattle.sidecar_turns.proofs.Samples.{alone, delivered, later}
use Rattle.sidecar_turns.proofs.laws.what_is_due_is_delivered.Goals as goal

pub returns-clause-alone : goal.returns-clause-alone
returns-clause-alone c inbound subs began = alone inbound subs began

pub returns-clause-delivered : goal.returns-clause-delivered
returns-clause-delivered c = delivered

pub returns-clause-later : goal.returns-clause-later
returns-clause-later c = later
