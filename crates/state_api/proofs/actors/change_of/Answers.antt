use Rattle.std.proofs.Common.{sym, ap, Ok}
use Rattle.state_api.proofs.Following.{went, stopped}
use Rattle.state_api.proofs.actors.change_of.Goals as goal

pub returns-in-Ok-clause-gives : goal.returns-in-Ok-clause-gives
returns-in-Ok-clause-gives c = went _ _ _ _ c.in-Ok.ensures.gives (ap Ok (sym c.unconditional.ensures.exact))

pub returns-in-Err-clause-gives : goal.returns-in-Err-clause-gives
returns-in-Err-clause-gives c = stopped _ _ _ c.in-Err.ensures.gives
