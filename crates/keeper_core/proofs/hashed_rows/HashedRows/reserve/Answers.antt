use Rattle.std.proofs.Common.{ap, ◌∙◌}
use Rattle.keeper_core.proofs.Hashed.{rows_of-same}
use Rattle.keeper_core.proofs.hashed_rows.HashedRows.reserve.Goals as goal

pub returns-clause-rows : goal.returns-clause-rows
returns-clause-rows c = rows_of-same _ _ c.reserve.ensures.entries.2 ∙ ap (λ table. table.rows) c.self.view_is
