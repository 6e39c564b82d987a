use Rattle.std.proofs.Common.{◌∙◌, ◌≤◌, ap, sym, subst, refl, ℕ, List, Some}
use Rattle.side_base.specs.Duration.{IsDuration}
use Rattle.policy_spec.proofs.Said.{none_read, err_is_not}
use Rattle.policy_spec.proofs.read.duration.Goals as goal

pub returns-in-Ok : goal.returns-in-Ok
returns-in-Ok c readers r = ap Some c.new.ensures ∙ sym ((r.durations c.args.text.now c.in-Ok.ms).1 (subst (λ (t : List ℕ). IsDuration t c.in-Ok.ms × (c.in-Ok.ms ≤ 31536000000)) c.as_bytes.ensures.value ((c.in-Ok.ensures.ok c.in-Ok.ms).0 refl)))

pub returns-in-Err : goal.returns-in-Err
returns-in-Err c readers r = none_read (readers.duration c.args.text.now) (λ x e. err_is_not _ x c.in-Err.field-0 refl ((c.in-Err.ensures.ok x).1 (subst (λ (t : List ℕ). IsDuration t x × (x ≤ 31536000000)) (sym c.as_bytes.ensures.value) ((r.durations c.args.text.now x).0 e))))
