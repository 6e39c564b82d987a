use Rattle.ledger_core.specs.Ledger.{plans_of}
use Rattle.ledger_core.proofs.Legal.{are_letters, is_settled_once}
use Rattle.ledger_core.proofs.laws.a_dead_letter_is_one_message.Goals as goal

pub returns-clause-letters : goal.returns-clause-letters
returns-clause-letters c = λ first history legal. are_letters (plans_of first) history legal.each

pub returns-clause-once : goal.returns-clause-once
returns-clause-once c = λ first history legal. is_settled_once (plans_of first) history legal.each
