use Rattle.state_core.specs.Store.{held_by}
use Rattle.state_core.proofs.Guarded.{guarded_once}
use Rattle.state_core.proofs.laws.an_etag_passes_once.Goals as goal

pub returns : goal.returns
returns g c = λ first history legal key etag.
    guarded_once (held_by g.K.Keeper first) (g.K.Keeper.faults first.keeper) (g.met.K.Keeper.counted first.keeper) key etag history
    (λ before after entry is. (legal.each before after entry is).1)
