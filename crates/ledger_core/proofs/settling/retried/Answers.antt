use Rattle.std.proofs.Common.{Some, refl, sym}
use Rattle.ledger_core.proofs.settling.retried.Goals as goal

pub returns-in-Wait : goal.returns-in-Wait
returns-in-Wait c = (
  c.in-Some.run',
  c.in-Some.is,
  sym c.in-Wait.ensures.decided,
  c.in-Wait.ensures.most c.in-Wait.ms refl,
  λ i. record {
    path = c.args.row.now.path;
    event = c.args.row.now.event;
    hops = c.args.row.now.hops;
    attempt = c.saturating_add-row.ensures i;
    run = Some (c.in-Wait.ensures.run i);
    dead = c.args.row.now.dead;
  },
)

pub returns-in-GiveUp : goal.returns-in-GiveUp
returns-in-GiveUp c = (c.in-Some.run', c.in-Some.is, (c.in-GiveUp.attempts, sym c.in-GiveUp.ensures.decided), refl)
