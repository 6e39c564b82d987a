use Rattle.std.proofs.Common.{refl, subst}
use Rattle.cloud_events.specs.declared.outcome.Verdict.TheVariants as verdict
use Rattle.delivery_turn.specs.Turning.{Judges}
use Rattle.delivery_turn.specs.Posting.{IsJudged}
use Rattle.delivery_turn.proofs.Choosing.{concluded, judged_retry, more_made, not_drawn, unread_body}
use Rattle.delivery_turn.proofs.judging.by_reply.Goals as goal

pub returns-in-Ok-Success-clause-settled : goal.returns-in-Ok-Success-clause-settled
returns-in-Ok-Success-clause-settled g c clock =
    not_drawn _ clock (Judges c.args.what.now.subs.now c.args.row.now c.args.response.now c.finished.result)
    (concluded c.args.what.now.subs.now c.args.row.now c.args.response.now verdict.Success c.finished.result (subst (IsJudged c.args.response.now) c.in-Ok-Success.field-0-is c.in-Ok-Success.ensures.judged) c.finished.ensures (λ e. let bad : ⊥ = cc in bad))

pub returns-in-Ok-Drop-clause-settled : goal.returns-in-Ok-Drop-clause-settled
returns-in-Ok-Drop-clause-settled g c clock =
    not_drawn _ clock (Judges c.args.what.now.subs.now c.args.row.now c.args.response.now c.finished-in-Ok-Drop.result)
    (concluded c.args.what.now.subs.now c.args.row.now c.args.response.now verdict.Drop c.finished-in-Ok-Drop.result (subst (IsJudged c.args.response.now) c.in-Ok-Drop.field-0-is c.in-Ok-Drop.ensures.judged) c.finished-in-Ok-Drop.ensures (λ e. let bad : ⊥ = cc in bad))

pub returns-in-Ok-Retry-clause-settled : goal.returns-in-Ok-Retry-clause-settled
returns-in-Ok-Retry-clause-settled g c clock =
    more_made clock _ _ _ (λ events again. judged_retry c.args.what.now.subs.now c.args.row.now c.args.response.now c.retried.result events (subst (IsJudged c.args.response.now) c.in-Ok-Retry.field-0-is c.in-Ok-Retry.ensures.judged) again) (c.retried.ensures.retries clock)

pub returns-in-Err-clause-settled : goal.returns-in-Err-clause-settled
returns-in-Err-clause-settled g c clock = not_drawn _ clock (Judges c.args.what.now.subs.now c.args.row.now c.args.response.now _) (unread_body c.args.what.now.subs.now c.args.row.now c.args.response.now _ c.in-Err.ensures.lacks refl)
