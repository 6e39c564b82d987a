use Rattle.ledger_core.specs.Ledger.{plans_of}
use Rattle.ledger_core.proofs.Claims.{counts_add_up}
use Rattle.ledger_core.proofs.laws.counts_add_up.Goals as goal

pub returns : goal.returns
returns c = λ first history legal. counts_add_up (plans_of first) history legal.each
