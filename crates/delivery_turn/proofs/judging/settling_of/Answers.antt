use Rattle.std.proofs.Common.{sym, subst}
use Rattle.delivery_turn.specs.Turning.{Settled}
use Rattle.delivery_turn.proofs.Choosing.{more_made}
use Rattle.delivery_turn.proofs.judging.settling_of.Goals as goal

pub returns-in-Good-clause-settled : goal.returns-in-Good-clause-settled
returns-in-Good-clause-settled g c clock =
    more_made clock _ _ _ (λ events judges. subst (λ o. Settled c.args.what.now.subs.now c.args.row.now o c.by_reply.result events) (sym c.in-Good.is) judges) (c.by_reply.ensures.settled clock)

pub returns-in-Bad-clause-settled : goal.returns-in-Bad-clause-settled
returns-in-Bad-clause-settled g c clock =
    more_made clock _ _ _ (λ events settled. subst (λ o. Settled c.args.what.now.subs.now c.args.row.now o c.by_miss.result events) (sym c.in-Bad.is) settled) (c.by_miss.ensures.settled clock)
