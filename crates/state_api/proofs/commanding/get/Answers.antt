use Rattle.std.proofs.Common.{sym, ap, Ok}
use Rattle.std.proofs.lemmas.Result.{err_from_is_err_and}
use Rattle.state_api.proofs.Following.{went, stopped}
use Rattle.state_core.specs.declared.command.Cmd.TheVariants.{Get}
use Rattle.state_api.proofs.commanding.get.Goals as goal

pub returns-in_err-stored_key-clause-gives : goal.returns-in_err-stored_key-clause-gives
returns-in_err-stored_key-clause-gives c =
    let p = err_from_is_err_and c.from_residual.result c.from_residual.ensures.1 in
    rw (p.1, p.2) (stopped _ _ _ c.in_err-stored_key.ensures.gives)

pub returns-clause-gives : goal.returns-clause-gives
returns-clause-gives c = went _ _ _ _ c.in_ok-stored_key.ensures.gives (ap (λ n. Ok (Get c.in_ok-stored_key.field-0 n)) (sym c.first_moment.ensures))
