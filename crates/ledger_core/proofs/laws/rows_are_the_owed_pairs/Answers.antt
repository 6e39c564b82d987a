use Rattle.ledger_core.specs.Ledger.{plans_of, books_of}
use Rattle.ledger_core.proofs.Legal.{rows_are_owed}
use Rattle.ledger_core.proofs.laws.rows_are_the_owed_pairs.Goals as goal

pub returns : goal.returns
returns c = λ first ledger history stands. rows_are_owed (plans_of first) history (books_of ledger) stands.shows
