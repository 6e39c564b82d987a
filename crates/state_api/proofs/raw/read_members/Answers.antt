use Rattle.std.proofs.lemmas.Result.{err_from_is_err_and}
use Rattle.state_api.proofs.Following.{went, went_on, stopped}
use Rattle.state_api.proofs.raw.read_members.Goals as goal

pub returns-in_err-key : goal.returns-in_err-key
returns-in_err-key c value at =
    let p = err_from_is_err_and c.from_residual.result c.from_residual.ensures.1 in
    rw (p.1, p.2) (stopped _ _ _ (c.in_err-key.ensures value at))

pub returns-in_err-etag : goal.returns-in_err-etag
returns-in_err-etag c value at =
    let p = err_from_is_err_and c.from_residual-in_err-etag.result c.from_residual-in_err-etag.ensures.1 in
    rw (p.1, p.2) (went_on _ _ _ _ (c.in_ok-key.ensures value at) (stopped _ _ _ (c.in_err-etag.ensures value at)))

pub returns-in_err-concurrency : goal.returns-in_err-concurrency
returns-in_err-concurrency c value at =
    let p = err_from_is_err_and c.from_residual-in_err-concurrency.result c.from_residual-in_err-concurrency.ensures.1 in
    rw (p.1, p.2) (went_on _ _ _ _ (c.in_ok-key.ensures value at) (went_on _ _ _ _ (c.in_ok-etag.ensures value at) (stopped _ _ _ (c.in_err-concurrency.ensures _ (c.member-options.ensures.member value at)))))

pub returns-in_err-ttl : goal.returns-in_err-ttl
returns-in_err-ttl c value at =
    let p = err_from_is_err_and c.from_residual-in_err-ttl.result c.from_residual-in_err-ttl.ensures.1 in
    rw (p.1, p.2) (went_on _ _ _ _ (c.in_ok-key.ensures value at) (went_on _ _ _ _ (c.in_ok-etag.ensures value at) (went_on _ _ _ _ (c.in_ok-concurrency.ensures _ (c.member-options.ensures.member value at)) (stopped _ _ _ (c.in_err-ttl.ensures _ (c.member-metadata.ensures.member value at))))))

pub returns : goal.returns
returns c value at = went _ _ _ _ (c.in_ok-key.ensures value at) (went _ _ _ _ (c.in_ok-etag.ensures value at) (went _ _ _ _ (c.in_ok-concurrency.ensures _ (c.member-options.ensures.member value at)) (went _ _ _ _ (c.in_ok-ttl.ensures _ (c.member-metadata.ensures.member value at)) (let h = c.in_ok-value.ensures _ (c.last_member-found.ensures.last value at) in cc))))
