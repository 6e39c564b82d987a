use Rattle.sidecar_cli.proofs.Noted.{cut_early, cut_late, on_err, then_err}
use Rattle.sidecar_cli.proofs.status.parts.Goals as goal

pub returns-in_err-part-2-clause-cut : goal.returns-in_err-part-2-clause-cut
returns-in_err-part-2-clause-cut g c = on_err c.from_residual-in_err-part-2.result (cut_late c.in_ok-part.ensures.sent (cut_early _ c.in_err-part-2.ensures.cut))

pub returns-clause-cut : goal.returns-clause-cut
returns-clause-cut g c = then_err c.part-3.result (λ cut. cut_late c.in_ok-part.ensures.sent (cut_late c.in_ok-part-2.ensures.sent cut)) c.part-3.ensures.cut
