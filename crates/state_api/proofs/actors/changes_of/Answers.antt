use Rattle.std.proofs.Common.{sym, ap, Ok}
use Rattle.std.proofs.lemmas.Result.{err_from_is_err_and}
use Rattle.state_api.proofs.Fewness.{few_went, few_went_on, few_stopped}
use Rattle.state_core.specs.declared.command.Cmd.TheVariants.{Transact}
use Rattle.state_api.proofs.actors.changes_of.Goals as goal

pub returns-in_err-raws-clause-gives : goal.returns-in_err-raws-clause-gives
returns-in_err-raws-clause-gives c value at =
    let p = err_from_is_err_and c.from_residual.result c.from_residual.ensures.1 in
    rw (p.1, p.2) (few_stopped _ _ _ _ (c.in_err-raws.ensures value at))

pub returns-in_err-ops-clause-gives : goal.returns-in_err-ops-clause-gives
returns-in_err-ops-clause-gives c value at =
    let p = err_from_is_err_and c.from_residual-in_err-ops.result c.from_residual-in_err-ops.ensures.1 in
    rw (p.1, p.2) (few_went_on _ _ _ _ _ (c.in_ok-raws.ensures value at) c.in_err-ops.ensures.gives)

pub returns-clause-gives : goal.returns-clause-gives
returns-clause-gives c value at = few_went _ _ _ _ _ _ (c.in_ok-raws.ensures value at) c.in_ok-ops.ensures.gives (ap (λ n. Ok (Transact c.in_ok-ops.ops n)) (sym c.first_moment.ensures))
