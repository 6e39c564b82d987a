use Rattle.ledger_core.proofs.Ways.{way_is_short, way_of_most}
use Rattle.ledger_core.proofs.laws.ways_down_are_short.Goals as goal

pub returns-clause-each : goal.returns-clause-each
returns-clause-each c = λ rows nodes way. way_is_short rows nodes way

pub returns-clause-most : goal.returns-clause-most
returns-clause-most c = λ rows nodes way few. way_of_most rows nodes way few
