use Rattle.ledger_core.specs.Ledger.{plans_of}
use Rattle.ledger_core.proofs.Claims.{claims_rise, is_settled_between, is_let_go}
use Rattle.ledger_core.proofs.laws.a_claim_is_one_holder.Goals as goal

pub returns-clause-rise : goal.returns-clause-rise
returns-clause-rise c = λ first history legal. claims_rise (plans_of first) history legal.each

pub returns-clause-between : goal.returns-clause-between
returns-clause-between c = λ first history legal. is_settled_between (plans_of first) history legal.each

pub returns-clause-ends : goal.returns-clause-ends
returns-clause-ends c = λ first history legal. is_let_go (plans_of first) history legal.each
