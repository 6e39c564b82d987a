use Rattle.std.proofs.Common.{[]}
use Rattle.state_core.specs.Store.{opens}
use Rattle.object_cases.proofs.store_case.fresh.Goals as goal

pub returns : goal.returns
returns g c = (c.new.result, [], opens c.new.result c.new.ensures.unused (g.met.K.Keeper.at_rest c.new.result.keeper))
