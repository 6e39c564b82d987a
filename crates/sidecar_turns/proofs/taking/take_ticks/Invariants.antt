use Rattle.sidecar_objects.specs.contracts.kinds.StoreObjectKinds.TheImpl.{ghosts}
use Rattle.sidecar_objects.specs.Did.{Does}
use Rattle.sidecar_objects.specs.Pass.{cells_of, standing}
use Rattle.sidecar_turns.specs.Ticking.{Ticks}
use Rattle.sidecar_turns.specs.Taking.{TicksEnd, TicksOn}
use Rattle.sidecar_turns.proofs.Turned.{Taken}
use Rattle.sidecar_turns.proofs.taking.take_ticks.Given as goal

abbrev pub invariant-loop-taken : goal.invariant-loop-taken
invariant-loop-taken g l = record {
  so_far : Does (ghosts g.row.K g.K.Keeper g.K.Keeper-dict g.K.Destruct-dict).kinds (cells_of l.objects) (standing g.L.Link g.C.Clock l.fn.pass l.fn.link l.fn.clock (g.R.Rng.stream l.fn.rng)) (standing g.L.Link g.C.Clock l.pass l.link l.clock (g.R.Rng.stream l.rng)) (Taken (Ticks l.crons) TicksOn TicksEnd l._taken);
}
