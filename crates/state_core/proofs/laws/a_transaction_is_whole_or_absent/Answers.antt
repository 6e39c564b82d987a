use Rattle.state_core.specs.Store.{held_by}
use Rattle.state_core.proofs.Wholes.{are_whole}
use Rattle.state_core.proofs.laws.a_transaction_is_whole_or_absent.Goals as goal

pub returns : goal.returns
returns g c = λ first history legal before after entry ops now is told.
    are_whole (held_by g.K.Keeper first) (g.K.Keeper.faults first.keeper) before entry ops now (legal.each before after entry is).1 told
