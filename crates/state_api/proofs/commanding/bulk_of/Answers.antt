use Rattle.std.proofs.lemmas.Result.{err_from_is_err_and}
use Rattle.state_api.proofs.Fewness.{few_went, few_went_on, few_stopped}
use Rattle.state_api.proofs.commanding.bulk_of.Goals as goal

pub returns-in_err-raws-clause-gives : goal.returns-in_err-raws-clause-gives
returns-in_err-raws-clause-gives c value at =
    let p = err_from_is_err_and c.from_residual.result c.from_residual.ensures.1 in
    rw (p.1, p.2) (few_stopped _ _ _ _ (c.in_err-raws.ensures value at))

pub returns-in_err-keys-clause-gives : goal.returns-in_err-keys-clause-gives
returns-in_err-keys-clause-gives c value at =
    let p = err_from_is_err_and c.from_residual-in_err-keys.result c.from_residual-in_err-keys.ensures.1 in
    rw (p.1, p.2) (few_went_on _ _ _ _ _ (c.in_ok-raws.ensures value at) c.in_err-keys.ensures.gives)

pub returns-clause-gives : goal.returns-clause-gives
returns-clause-gives c value at = few_went _ _ _ _ _ _ (c.in_ok-raws.ensures value at) c.in_ok-keys.ensures.gives (cc (c.first_moment.ensures, c.front_len.ensures))
