use Rattle.sidecar_objects.specs.contracts.kinds.StoreObjectKinds.TheImpl.{ghosts}
use Rattle.sidecar_objects.specs.Did.{Does}
use Rattle.sidecar_objects.specs.Pass.{cells_of, standing}
use Rattle.sidecar_turns.proofs.InOrder.{Leads}
use Rattle.sidecar_turns.proofs.delivering.deliver_each.Given as goal

abbrev pub invariant-loop-place : goal.invariant-loop-place
invariant-loop-place g l = record {
  so_far : Does (ghosts g.row.K g.K.Keeper g.K.Keeper-dict g.K.Destruct-dict).kinds (cells_of l.objects) (standing g.L.Link g.C.Clock l.fn.pass l.fn.link l.fn.clock (g.R.Rng.stream l.fn.rng)) (standing g.L.Link g.C.Clock l.pass l.link l.clock (g.R.Rng.stream l.rng)) (Leads l.app.port l.app.subs.now l.app.inbound.now l.place l.next);
}
