use Rattle.std.proofs.Common.{sym, subst}
use Rattle.policy_run.specs.declared.outcome.Outcome.TheVariants as outcome
use Rattle.delivery_turn.specs.Turning.{Settled}
use Rattle.delivery_turn.proofs.Choosing.{more_made}
use Rattle.delivery_turn.proofs.judging.by_miss.Goals as goal

pub returns-in-Replied-clause-settled : goal.returns-in-Replied-clause-settled
returns-in-Replied-clause-settled g c clock =
    more_made clock _ _ _ (λ events judges. subst (λ m. Settled c.args.what.now.subs.now c.args.row.now (outcome.Bad m) c.by_reply.result events) (sym c.in-Replied.is) judges) (c.by_reply.ensures.settled clock)

pub returns-in-Failed-clause-settled : goal.returns-in-Failed-clause-settled
returns-in-Failed-clause-settled g c clock =
    more_made clock _ _ _ (λ events again. subst (λ m. Settled c.args.what.now.subs.now c.args.row.now (outcome.Bad m) c.retried.result events) (sym c.in-Failed.is) again) (c.retried.ensures.retries clock)

pub returns-in-Expired-clause-settled : goal.returns-in-Expired-clause-settled
returns-in-Expired-clause-settled g c clock =
    more_made clock _ _ _ (λ events again. subst (λ m. Settled c.args.what.now.subs.now c.args.row.now (outcome.Bad m) c.retried-in-Expired.result events) (sym c.in-Expired.is) again) (c.retried-in-Expired.ensures.retries clock)
