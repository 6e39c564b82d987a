use Rattle.ledger_core.proofs.Legal.{are_counted_once}
use Rattle.ledger_core.proofs.laws.the_counts_are_all_pairs.Goals as goal

pub returns : goal.returns
returns c = λ history. are_counted_once history
