use Rattle.sidecar_cli.proofs.Noted.{cut_as, cut_early, cut_late, on_err, sent_as, then_err, then_ok, two_sent}
use Rattle.sidecar_cli.proofs.counting.line.Goals as goal

pub returns-in_err-part-clause-cut : goal.returns-in_err-part-clause-cut
returns-in_err-part-clause-cut g c = on_err c.from_residual.result (cut_early _ c.in_err-part.ensures.cut)

pub returns-in_err-part-2-clause-cut : goal.returns-in_err-part-2-clause-cut
returns-in_err-part-2-clause-cut g c = on_err c.from_residual-in_err-part-2.result (cut_late c.in_ok-part.ensures.sent (cut_early _ (cut_as c.bytes.ensures.value c.in_err-part-2.ensures.cut)))

pub returns-in_err-number-clause-cut : goal.returns-in_err-number-clause-cut
returns-in_err-number-clause-cut g c = on_err c.from_residual-in_err-number.result (cut_late c.in_ok-part.ensures.sent (cut_late (sent_as c.bytes.ensures.value c.in_ok-part-2.ensures.sent) (cut_early _ c.in_err-number.ensures.cut)))

pub returns-in_err-number-2-clause-cut : goal.returns-in_err-number-2-clause-cut
returns-in_err-number-2-clause-cut g c = on_err c.from_residual-in_err-number-2.result (cut_late c.in_ok-part.ensures.sent (cut_late (sent_as c.bytes.ensures.value c.in_ok-part-2.ensures.sent) (cut_late c.in_ok-number.ensures.sent (cut_early _ c.in_err-number-2.ensures.cut))))

pub returns-in_err-number-3-clause-cut : goal.returns-in_err-number-3-clause-cut
returns-in_err-number-3-clause-cut g c = on_err c.from_residual-in_err-number-3.result (cut_late c.in_ok-part.ensures.sent (cut_late (sent_as c.bytes.ensures.value c.in_ok-part-2.ensures.sent) (cut_late c.in_ok-number.ensures.sent (cut_late c.in_ok-number-2.ensures.sent (cut_early _ c.in_err-number-3.ensures.cut)))))

pub returns-in_err-number-4-clause-cut : goal.returns-in_err-number-4-clause-cut
returns-in_err-number-4-clause-cut g c = on_err c.from_residual-in_err-number-4.result (cut_late c.in_ok-part.ensures.sent (cut_late (sent_as c.bytes.ensures.value c.in_ok-part-2.ensures.sent) (cut_late c.in_ok-number.ensures.sent (cut_late c.in_ok-number-2.ensures.sent (cut_late c.in_ok-number-3.ensures.sent (cut_early _ c.in_err-number-4.ensures.cut))))))

pub returns-clause-sent : goal.returns-clause-sent
returns-clause-sent g c = then_ok c.part-3.result (λ sent. two_sent c.in_ok-part.ensures.sent (two_sent (sent_as c.bytes.ensures.value c.in_ok-part-2.ensures.sent) (two_sent c.in_ok-number.ensures.sent (two_sent c.in_ok-number-2.ensures.sent (two_sent c.in_ok-number-3.ensures.sent (two_sent c.in_ok-number-4.ensures.sent sent)))))) c.part-3.ensures.sent

pub returns-clause-cut : goal.returns-clause-cut
returns-clause-cut g c = then_err c.part-3.result (λ cut. cut_late c.in_ok-part.ensures.sent (cut_late (sent_as c.bytes.ensures.value c.in_ok-part-2.ensures.sent) (cut_late c.in_ok-number.ensures.sent (cut_late c.in_ok-number-2.ensures.sent (cut_late c.in_ok-number-3.ensures.sent (cut_late c.in_ok-number-4.ensures.sent cut)))))) c.part-3.ensures.cut
