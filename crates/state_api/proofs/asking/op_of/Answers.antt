use Rattle.std.proofs.Common.{sym, subst}
use Rattle.std.proofs.lemmas.Result.{err_from_is_err_and}
use Rattle.state_api.proofs.Following.{went, went_on, stopped}
use Rattle.state_core.specs.Taken.{HasTtl}
use Rattle.state_api.proofs.Wording.{op_fine}
use Rattle.state_api.proofs.asking.op_of.Goals as goal

pub returns-in_err-key-clause-gives : goal.returns-in_err-key-clause-gives
returns-in_err-key-clause-gives c =
    let p = err_from_is_err_and c.from_residual.result c.from_residual.ensures.1 in
    rw (p.1, p.2) (stopped _ _ _ c.in_err-key.ensures.gives)

pub returns-in_err-mode-clause-gives : goal.returns-in_err-mode-clause-gives
returns-in_err-mode-clause-gives c =
    let p = err_from_is_err_and c.from_residual-in_err-mode.result c.from_residual-in_err-mode.ensures.1 in
    rw (p.1, p.2) (went_on _ _ _ _ c.in_ok-key.ensures.gives (stopped _ _ _ c.in_err-mode.ensures))

pub returns-in_err-is_upsert-clause-gives : goal.returns-in_err-is_upsert-clause-gives
returns-in_err-is_upsert-clause-gives c =
    let p = err_from_is_err_and c.from_residual-in_err-is_upsert.result c.from_residual-in_err-is_upsert.ensures.1 in
    rw (p.1, p.2) (went_on _ _ _ _ c.in_ok-key.ensures.gives (went_on _ _ _ _ c.in_ok-mode.ensures (stopped _ _ _ c.in_err-is_upsert.ensures)))

pub returns-in_err-ttl-clause-gives : goal.returns-in_err-ttl-clause-gives
returns-in_err-ttl-clause-gives c =
    let p = err_from_is_err_and c.from_residual-in_err-ttl.result c.from_residual-in_err-ttl.ensures.1 in
    rw (p.1, p.2) (went_on _ _ _ _ c.in_ok-key.ensures.gives (went_on _ _ _ _ c.in_ok-mode.ensures (went_on _ _ _ _ c.in_ok-is_upsert.ensures (stopped _ _ _ c.in_err-ttl.ensures.gives))))

pub returns-clause-gives : goal.returns-clause-gives
returns-clause-gives c = went _ _ _ _ c.in_ok-key.ensures.gives (went _ _ _ _ c.in_ok-mode.ensures (went _ _ _ _ c.in_ok-is_upsert.ensures (went _ _ _ _ c.in_ok-ttl.ensures.gives (cc (c.in_ok-etag.ensures, c.op_with.ensures)))))

pub returns-clause-ttl : goal.returns-clause-ttl
returns-clause-ttl c = subst HasTtl (sym c.op_with.ensures) (op_fine c.in_ok-is_upsert.is_upsert _ c.in_ok-ttl.ensures.range)
