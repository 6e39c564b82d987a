use Rattle.std.proofs.Common.{ap, subst, ◌∙◌, Ok}
use Rattle.std.proofs.lemmas.Result.{err_from_is_err_and}
use Rattle.state_api.proofs.Following.{went, went_on, stopped}
use Rattle.std.proofs.Common.{◌≡◌, Err, ℕ, List, Option}
use Rattle.state_core.specs.declared.command.Mode.{Mode}
use Rattle.state_api.specs.Given.{Gives}
use Rattle.state_api.specs.Words.{mode_of}
use Rattle.state_api.specs.Asked.{field_text, concurrency_of, query_of}
use Rattle.state_api.proofs.commanding.delete.Goals as goal

pub returns-in_err-etag-clause-gives : goal.returns-in_err-etag-clause-gives
returns-in_err-etag-clause-gives c =
    let p = err_from_is_err_and c.from_residual.result c.from_residual.ensures.1 in
    rw (p.1, p.2) (stopped _ _ _ (subst (λ z. Gives {A = Option (List ℕ)} (Err c.in_err-etag.field-0.0) (field_text z)) c.first_value.ensures c.in_err-etag.ensures))

pub returns-in_err-key-clause-gives : goal.returns-in_err-key-clause-gives
returns-in_err-key-clause-gives c =
    let p = err_from_is_err_and c.from_residual-in_err-key.result c.from_residual-in_err-key.ensures.1 in
    rw (p.1, p.2) (went_on _ _ _ _ (subst (λ z. field_text z ≡ Ok c.in_ok-etag.etag) c.first_value.ensures c.in_ok-etag.ensures) (stopped _ _ _ c.in_err-key.ensures.gives))

pub returns-in_err-mode-clause-gives : goal.returns-in_err-mode-clause-gives
returns-in_err-mode-clause-gives c =
    let p = err_from_is_err_and c.from_residual-in_err-mode.result c.from_residual-in_err-mode.ensures.1 in
    rw (p.1, p.2) (went_on _ _ _ _ (subst (λ z. field_text z ≡ Ok c.in_ok-etag.etag) c.first_value.ensures c.in_ok-etag.ensures) (went_on _ _ _ _ c.in_ok-key.ensures.gives (stopped _ _ _ (subst (λ z. Gives {A = Mode} (Err c.in_err-mode.field-0.0) (mode_of (concurrency_of z))) (c.query_of.ensures ∙ ap query_of c.bytes.ensures) c.in_err-mode.ensures))))

pub returns-clause-gives : goal.returns-clause-gives
returns-clause-gives c = went _ _ _ _ (subst (λ z. field_text z ≡ Ok c.in_ok-etag.etag) c.first_value.ensures c.in_ok-etag.ensures) (went _ _ _ _ c.in_ok-key.ensures.gives (went _ _ _ _ (subst (λ z. mode_of (concurrency_of z) ≡ Ok c.in_ok-mode.mode) (c.query_of.ensures ∙ ap query_of c.bytes.ensures) c.in_ok-mode.ensures) (cc (c.in_ok-etag-2.ensures, c.first_moment.ensures))))
