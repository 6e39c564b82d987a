use Rattle.std.specs.Prelude.{length}
use Rattle.keeper_core.specs.EndTable.{shape_in}
use Rattle.keeper_core.proofs.Balance.{is_low}
use Rattle.keeper_core.proofs.laws.ways_down_are_short.Goals as goal

pub returns : goal.returns
returns c keys links root whole = is_low (shape_in (length links) links root) whole.balanced
