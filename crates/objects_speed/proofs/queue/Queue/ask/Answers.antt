use Rattle.std.proofs.Common.{◌++◌, ◌∷◌, [], subst, sym}
use Rattle.ledger_core.specs.Aims.{IsGiven}
use Rattle.objects_speed.proofs.queue.Queue.ask.Goals as goal

pub apply-reply-requires-clause-ready : goal.apply-reply-requires-clause-ready
apply-reply-requires-clause-ready c =
    let r = c.self.invariant in
    (r.first, r.history, r.stands, subst (λ n. IsGiven n c.args.cmd.now) (sym r.for_plans) c.requires)

pub invariant_of-self : goal.invariant_of-self
invariant_of-self c =
    let r = c.self.invariant in
    record {
      first = r.first;
      history = r.history ++ _ ∷ [];
      stands = (c.apply-reply.ensures.step r.first r.history 0 r.stands (subst (λ n. IsGiven n c.args.cmd.now) (sym r.for_plans) c.requires)).1;
      for_plans = r.for_plans;
    }
