use Rattle.ledger_core.specs.Ledger.{plans_of}
use Rattle.ledger_core.proofs.Claims.{are_planned}
use Rattle.ledger_core.proofs.laws.what_is_taken_has_a_plan.Goals as goal

pub returns : goal.returns
returns c = λ first history legal. are_planned (plans_of first) history legal.each
