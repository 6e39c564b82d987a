use Rattle.std.proofs.Common.{refl}
use Rattle.delivery_turn.specs.Turning.{Retries}
use Rattle.delivery_turn.proofs.Choosing.{drawn, retried}
use Rattle.delivery_turn.proofs.judging.retried.Goals as goal

pub returns-in-Ok-clause-retries : goal.returns-in-Ok-clause-retries
returns-in-Ok-clause-retries g c clock =
    drawn _ clock (Retries c.args.what.now.subs.now c.args.row.now _) c.next_u64.result _ c.next_u64.ensures (retried c.args.what.now.subs.now c.args.row.now c.next_u64.result c.in-Ok.dead_aims _ refl c.in-Ok.ensures.aims)
