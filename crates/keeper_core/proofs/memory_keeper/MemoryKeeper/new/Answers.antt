use Rattle.std.proofs.Common.{sym}
use Rattle.keeper_core.proofs.Counted.{bytes_in-empty}
use Rattle.keeper_core.proofs.memory_keeper.MemoryKeeper.new.Goals as goal

pub invariant_of-result : goal.invariant_of-result
invariant_of-result c = record { sized = sym (bytes_in-empty c.new.result.rows c.new.ensures.rows); counted = c.new.ensures.counted }
