use Rattle.state_core.specs.Store.{held_by}
use Rattle.state_core.proofs.Returns.{never_returns}
use Rattle.state_core.proofs.laws.a_version_never_returns.Goals as goal

pub returns : goal.returns
returns g c = λ first. never_returns (held_by g.K.Keeper first) (g.met.K.Keeper.counted first.keeper)
