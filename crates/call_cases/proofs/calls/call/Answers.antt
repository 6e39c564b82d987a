use Rattle.call_cases.proofs.calls.call.Goals as goal

pub returns-clause-guard : goal.returns-clause-guard
returns-clause-guard g c = g.met.G.Guard.stays _ _ _ c.requires.guard c.invoke.ensures.invokes.2.guards
