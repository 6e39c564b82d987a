use Rattle.std.proofs.Common.{[], ◌∷◌, false, None, ap, length, length-append, arith}
use Rattle.ledger_core.specs.Ledger.{opens}
use Rattle.ledger_core.specs.declared.plan.Plan.{Plan}
use Rattle.objects_speed.proofs.queue.Queue.new.Goals as goal

pub invariant_of-result : goal.invariant_of-result
invariant_of-result c =
    let plan : Plan = record { retry = None; dead = false } in
    record {
      first = c.new-ledger.result;
      history = [];
      stands = opens c.new-ledger.result c.new-ledger.ensures.unused;
      for_plans = omega (arith, ap length c.new-ledger.ensures.plans, ap length c.in_ok-push.ensures.ok, length-append c.new-plans.result (plan ∷ []), ap length c.new-plans.ensures);
    }
