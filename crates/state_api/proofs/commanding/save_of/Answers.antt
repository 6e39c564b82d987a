use Rattle.std.proofs.Common.{sym, ap, Ok}
use Rattle.std.proofs.lemmas.Result.{err_from_is_err_and}
use Rattle.state_api.proofs.Fewness.{few_went, few_went_on, few_stopped}
use Rattle.state_core.specs.declared.command.Cmd.TheVariants.{Save}
use Rattle.state_api.proofs.Wording.{upserts_fine}
use Rattle.state_api.proofs.commanding.save_of.Goals as goal

pub returns-in_err-raws-clause-gives : goal.returns-in_err-raws-clause-gives
returns-in_err-raws-clause-gives c value at =
    let p = err_from_is_err_and c.from_residual.result c.from_residual.ensures.1 in
    rw (p.1, p.2) (few_stopped _ _ _ _ (c.in_err-raws.ensures value at))

pub returns-in_err-items-clause-gives : goal.returns-in_err-items-clause-gives
returns-in_err-items-clause-gives c value at =
    let p = err_from_is_err_and c.from_residual-in_err-items.result c.from_residual-in_err-items.ensures.1 in
    rw (p.1, p.2) (few_went_on _ _ _ _ _ (c.in_ok-raws.ensures value at) c.in_err-items.ensures.gives)

pub returns-clause-gives : goal.returns-clause-gives
returns-clause-gives c value at = few_went _ _ _ _ _ _ (c.in_ok-raws.ensures value at) c.in_ok-items.ensures.gives (ap (λ n. Ok (Save c.in_ok-items.items n)) (sym c.first_moment.ensures))

pub returns-clause-taken : goal.returns-clause-taken
returns-clause-taken c = upserts_fine c.in_ok-items.items c.in_ok-items.ensures.fine
