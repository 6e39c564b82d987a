use Rattle.std.proofs.Common.{sym, subst, refl, ℕ, List}
use Rattle.retry_core.specs.TripText.{IsTrip}
use Rattle.policy_spec.proofs.Said.{none_read, err_is_not}
use Rattle.policy_spec.proofs.read.trip.Goals as goal

pub returns-in-Ok : goal.returns-in-Ok
returns-in-Ok c readers r = sym ((r.trips c.args.text.now c.in-Ok.trip).1 (subst (λ (t : List ℕ). IsTrip t c.in-Ok.trip) c.as_bytes.ensures.value ((c.in-Ok.ensures.ok c.in-Ok.trip).0 refl)))

pub returns-in-Err : goal.returns-in-Err
returns-in-Err c readers r = none_read (readers.trip c.args.text.now) (λ x e. err_is_not _ x c.in-Err.field-0 refl ((c.in-Err.ensures.ok x).1 (subst (λ (t : List ℕ). IsTrip t x) (sym c.as_bytes.ensures.value) ((r.trips c.args.text.now x).0 e))))
