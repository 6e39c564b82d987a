use Rattle.std.proofs.Common.{◌∙◌, ap, refl, sym}
use Rattle.sidecar_workers.specs.Works.{exit_of_served}
use Rattle.sidecar_serving.proofs.Doings.{served_on}
use Rattle.sidecar_serving.proofs.Passes.{own_pass, pass_owned}
use Rattle.sidecar_serving.proofs.working.ServingWork.serve.Goals as goal

pub serve_connection-ended-requires : goal.serve_connection-ended-requires
serve_connection-ended-requires g c = record { pass = pass_owned _ _ c.args.self.now.of }

pub invariant_of-self : goal.invariant_of-self
invariant_of-self g c = record { of = own_pass _ _ c.serve_connection-ended.ensures.pass }

pub invariant_of-self-then-is_some-2 : goal.invariant_of-self-then-is_some-2
invariant_of-self-then-is_some-2 g c = record { of = own_pass _ _ c.serve_connection-ended.ensures.pass }

pub invariant_of-self-else-is_some-2 : goal.invariant_of-self-else-is_some-2
invariant_of-self-else-is_some-2 g c = record { of = own_pass _ _ c.serve_connection-ended.ensures.pass }

pub returns-then-is_some-2-clause-kept : goal.returns-then-is_some-2-clause-kept
returns-then-is_some-2-clause-kept g c = (refl, λ start done. served_on _ _ _ _ _ start _ _ _ c.in-Serve.source _ c.in-Serve.sink _ _ _ _ _ c.serve_connection-ended.result _ (sym c.take.ensures.taken ∙ c.in-Serve.is) c.take.ensures.left (c.after_serve-self.ensures ∙ ap exit_of_served c.served_of-served.ensures) c.serve_connection-ended.ensures.served (rw (sym c.wake.ensures.told) at c.end.ensures.told) done)

pub returns-else-is_some-2-clause-kept : goal.returns-else-is_some-2-clause-kept
returns-else-is_some-2-clause-kept g c = (refl, λ start done. served_on _ _ _ _ _ start _ _ _ c.in-Serve.source _ c.in-Serve.sink _ _ _ _ _ c.serve_connection-ended.result _ (sym c.take.ensures.taken ∙ c.in-Serve.is) c.take.ensures.left (c.after_serve-self.ensures ∙ ap exit_of_served c.served_of-served.ensures) c.serve_connection-ended.ensures.served c.end.ensures.told done)

pub returns-then-is_some-clause-kept : goal.returns-then-is_some-clause-kept
returns-then-is_some-clause-kept g c = (refl, λ start done. served_on _ _ _ _ _ start _ _ _ c.in-Serve.source _ c.in-Serve.sink _ _ _ _ _ c.serve_connection-ended.result _ (sym c.take.ensures.taken ∙ c.in-Serve.is) c.take.ensures.left (c.after_serve-self.ensures ∙ ap exit_of_served c.served_of-served.ensures) c.serve_connection-ended.ensures.served (rw (sym c.leave.ensures.told) at c.end.ensures.told) done)
