use Rattle.std.proofs.Common.{◌∙◌}
use Rattle.sidecar_cli.proofs.Noted.{cut_as, cut_late, then_err}
use Rattle.sidecar_cli.proofs.counting.number.Goals as goal

pub returns-clause-cut : goal.returns-clause-cut
returns-clause-cut g c = then_err c.part-2.result (λ cut. cut_late c.in_ok-part.ensures.sent (cut_as (c.as_bytes.ensures.value ∙ c.format.ensures.text) cut)) c.part-2.ensures.cut
