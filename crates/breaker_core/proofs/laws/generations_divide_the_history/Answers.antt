use Rattle.breaker_core.proofs.Histories.{is_divided}
use Rattle.breaker_core.proofs.laws.generations_divide_the_history.Goals as goal

pub returns : goal.returns
returns c = λ first history. is_divided first.policy history
