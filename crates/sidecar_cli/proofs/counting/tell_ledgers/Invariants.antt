use Rattle.conn_serve.specs.Ends.{sink_at}
use Rattle.sidecar_objects.specs.contracts.kinds.StoreObjectKinds.TheImpl.{ghosts}
use Rattle.sidecar_objects.specs.Pass.{cells_of, seats_of}
use Rattle.sidecar_cli.proofs.Countings.{CountedSoFar}
use Rattle.sidecar_cli.proofs.counting.tell_ledgers.Given as goal

abbrev pub invariant-loop-at : goal.invariant-loop-at
invariant-loop-at g l = record {
  so_far : CountedSoFar (ghosts g.row.K g.K.Keeper g.K.Keeper-dict g.K.Destruct-dict).kinds (cells_of l.shared.objects) l.shared.config.components l.at l.place (seats_of l.initial.pass) (seats_of l.pass) (sink_at g.E.Sink l.initial.note) (sink_at g.E.Sink l.note) l.spent;
}
