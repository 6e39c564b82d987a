use Rattle.sidecar_objects.specs.contracts.kinds.StoreObjectKinds.TheImpl.{ghosts}
use Rattle.sidecar_objects.specs.Did.{Does}
use Rattle.sidecar_objects.specs.Pass.{cells_of, standing}
use Rattle.sidecar_turns.specs.Delivering.{Delivers}
use Rattle.sidecar_turns.specs.Draining.{GoesOn, Stops}
use Rattle.sidecar_turns.proofs.Turned.{Taken}
use Rattle.sidecar_turns.proofs.draining.drain.Given as goal

abbrev pub invariant-loop-taken : goal.invariant-loop-taken
invariant-loop-taken g l = record {
  so_far : Does (ghosts g.row.K g.K.Keeper g.K.Keeper-dict g.K.Destruct-dict).kinds (cells_of l.objects) (standing g.L.Link g.C.Clock l.fn.pass l.fn.link l.fn.clock (g.R.Rng.stream l.fn.rng)) (standing g.L.Link g.C.Clock l.pass l.link l.clock (g.R.Rng.stream l.rng)) (Taken (Delivers l.brokers l.subs) (GoesOn l.fn.began) (Stops l.fn.began) l._taken);
}
