use Rattle.sidecar_keepers.proofs.Makings.{made_fit}
use Rattle.sidecar_cli.proofs.Fits.{fit_told}
use Rattle.sidecar_cli.proofs.starting.make_keepers.Goals as goal

pub invariant_of-result : goal.invariant_of-result
invariant_of-result g c = record { fit = fit_told _ c.in-Ok.keepers.items (made_fit _ _ _ _ _ c.in-Ok.ensures.made) }

pub returns-in-Ok-clause-kept : goal.returns-in-Ok-clause-kept
returns-in-Ok-clause-kept g c = record { made = c.in-Ok.ensures.made; takes = c.in-Ok.ensures.takes; no_fault = c.in-Ok.ensures.no_fault; numbers = c.start_keepers.ensures.numbers }

pub returns-in-Err-clause-unkept : goal.returns-in-Err-clause-unkept
returns-in-Err-clause-unkept g c = record { error = c.in-Err.error; refused = c.in-Err.ensures.refused; counts = c.in-Err.ensures.counts; numbers = c.start_keepers.ensures.numbers; says = c.without_keepers.ensures }
