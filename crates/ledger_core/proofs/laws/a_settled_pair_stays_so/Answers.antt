use Rattle.ledger_core.specs.Ledger.{plans_of}
use Rattle.ledger_core.proofs.Legal.{stays_settled}
use Rattle.ledger_core.proofs.laws.a_settled_pair_stays_so.Goals as goal

pub returns : goal.returns
returns c = λ first history legal. stays_settled (plans_of first) history legal.each
