use Rattle.std.proofs.Common.{[], ap, length}
use Rattle.ledger_core.specs.Ledger.{opens}
use Rattle.object_cases.proofs.ledger_case.fresh.Goals as goal

pub returns : goal.returns
returns c = record { first = c.new.result; history = []; stands = opens c.new.result c.new.ensures.unused; for_plans = ap length c.new.ensures.plans }
