use Rattle.std.proofs.Common.{refl, sym, ◌∙◌}
use Rattle.std.proofs.lemmas.Result.{err_from_is_err_and}
use Rattle.state_api.proofs.Following.{went, went_on, stopped, held, held_err, failed}
use Rattle.state_api.proofs.raw.read_op.Goals as goal

pub returns-in_err-operation : goal.returns-in_err-operation
returns-in_err-operation c value at =
    let p = err_from_is_err_and c.from_residual.result c.from_residual.ensures.1 in
    rw (p.1, p.2) (held_err _ _ _ _ (sym (c.is_map.ensures value at) ∙ c.if-not-is_map.false) (stopped _ _ _ (c.in_err-operation.ensures value at)))

pub returns-in_err-item : goal.returns-in_err-item
returns-in_err-item c value at =
    let p = err_from_is_err_and c.from_residual-in_err-item.result c.from_residual-in_err-item.ensures.1 in
    rw (p.1, p.2) (held_err _ _ _ _ (sym (c.is_map.ensures value at) ∙ c.if-not-is_map.false) (went_on _ _ _ _ (c.in_ok-operation.ensures value at) (stopped _ _ _ (c.in_err-item.ensures _ (c.member-request.ensures.member value at)))))

pub returns : goal.returns
returns c value at = held _ _ _ _ (sym (c.is_map.ensures value at) ∙ c.if-not-is_map.false) (went _ _ _ _ (c.in_ok-operation.ensures value at) (went _ _ _ _ (c.in_ok-item.ensures _ (c.member-request.ensures.member value at)) (refl)))

pub returns-then-not-is_map : goal.returns-then-not-is_map
returns-then-not-is_map c value at = failed _ _ _ (sym (c.is_map.ensures value at) ∙ c.if-not-is_map.true)
