use Rattle.std.proofs.Common.{◌++◌, ◌∷◌, [], subst, sym}
use Rattle.ledger_core.specs.Aims.{IsGiven}
use Rattle.object_cases.proofs.ledger_case.applied.Goals as goal

pub apply-requires-clause-ready : goal.apply-requires-clause-ready
apply-requires-clause-ready c =
    let r = c.requires.reached in
    (r.first, r.history, r.stands, subst (λ n. IsGiven n c.args.cmd.now) (sym r.for_plans) c.requires.given)

pub returns : goal.returns
returns c =
    let r = c.requires.reached in
    record {
      first = r.first;
      history = r.history ++ _ ∷ [];
      stands = (c.apply.ensures.step r.first r.history 0 r.stands (subst (λ n. IsGiven n c.args.cmd.now) (sym r.for_plans) c.requires.given)).1;
      for_plans = r.for_plans;
    }
